-- The line of a refusal.
use Rattle.std.specs.Prelude.{ℕ, List, [], ◌++◌, codes, decimal}
use Rattle.ots_chain.specs.declared.checking.ChainFault.{ChainFault}
use Rattle.ots_chain.specs.declared.checking.ChainFault.TheVariants.{BadLink, BadBits, AboveTarget}
use Rattle.ots_reader.specs.Printed.{printed}
use Rattle.ots_client_text.specs.declared.status.Status.{Status}
use Rattle.ots_client_text.specs.declared.status.Status.TheVariants.{Done, No, Usage, BadProof, NoFile, Exists}
use Rattle.ots_client_text.specs.declared.status.Status.TheVariants.{ReadFault}
use Rattle.ots_client_text.specs.declared.status.Status.TheVariants.{WriteFault, TooBig, BadHeaders, TooFew, NonceFault}
use Rattle.ots_client_text.specs.declared.status.Status.TheVariants.{FileTooLong, Differs, BadAddress, Broken, BadPins}
use Rattle.ots_client_text.specs.declared.status.Status.TheVariants.{PinFails, OutOfMemory}
use Rattle.ots_info.specs.Listing.{pair_words}
use Rattle.ots_outputs.specs.Lines.{address_words, line}

abbrev pub usage_words : List ℕ
usage_words = codes "usage: ots info, canon, merge, prune, verify, stamp, upgrade, sample, chain"

-- why a header is not good
abbrev pub fault_words : ChainFault → List ℕ
fault_words BadLink = codes "bad link"
fault_words BadBits = codes "bad bits"
fault_words AboveTarget = codes "above target"

-- over a name; a status that has no line prints nothing
abbrev pub refusal_text : List ℕ → Status → List ℕ
refusal_text name Usage = line usage_words
refusal_text name (BadProof f) = line (codes "bad proof " ++ name ++ codes " at " ++ decimal f.place ++ codes ": "
    ++ printed f.reason)
refusal_text name NoFile = line (codes "no file " ++ name)
refusal_text name Exists = line (codes "exists " ++ name)
refusal_text name ReadFault = line (codes "read fault " ++ name)
refusal_text name TooBig = line (codes "too big " ++ name)
refusal_text name (BadHeaders n) = line (codes "bad headers " ++ decimal n)
refusal_text name (TooFew got wanted) = line (codes "too few " ++ decimal got ++ codes " of " ++ decimal wanted)
refusal_text name NonceFault = line (codes "nonce fault")
refusal_text name FileTooLong = line (codes "file too long " ++ name)
refusal_text name (Differs first_hash first_digest second_hash second_digest) =
    line (codes "differs " ++ pair_words first_hash first_digest ++ codes " " ++ pair_words second_hash second_digest)
refusal_text name (BadAddress place https) = line (address_words https ++ decimal place)
refusal_text name (Broken height fault) = line (codes "broken at " ++ decimal height ++ codes ": " ++ fault_words fault)
refusal_text name (BadPins number) = line (codes "bad pins line " ++ decimal number)
refusal_text name (PinFails height) = line (codes "pin fails " ++ decimal height)
refusal_text name Done = []
refusal_text name No = []
refusal_text name WriteFault = line (codes "write fault " ++ name)
refusal_text name OutOfMemory = []
