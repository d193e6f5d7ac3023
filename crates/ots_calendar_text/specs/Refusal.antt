-- The line of a refusal.
use Rattle.std.specs.Prelude.{ℕ, List, [], ◌++◌, codes, decimal}
use Rattle.hex.specs.Hex.{encode_lower}
use Rattle.ots_block.specs.declared.fault.BlockReason.{BlockReason}
use Rattle.ots_block.specs.declared.fault.BlockReason.TheVariants as why
use Rattle.ots_outputs.specs.Lines.{address_words, line}
use Rattle.ots_calendar_text.specs.declared.status.DaemonStatus.{DaemonStatus}
use Rattle.ots_calendar_text.specs.declared.status.DaemonStatus.TheVariants.{Done, NothingNew, Usage, NoFile, ReadFault}
use Rattle.ots_calendar_text.specs.declared.status.DaemonStatus.TheVariants.{WriteFault, TooBig, NonceFault, BadAddress}
use Rattle.ots_calendar_text.specs.declared.status.DaemonStatus.TheVariants.{OutOfMemory, NotAJournal, Damaged}
use Rattle.ots_calendar_text.specs.declared.status.DaemonStatus.TheVariants.{BadRecord, Full, DiskFault, NoTip, BadRoot}
use Rattle.ots_calendar_text.specs.declared.status.DaemonStatus.TheVariants.{TransactionTooLong, BadBlock, BadKey}
use Rattle.ots_calendar_text.specs.declared.status.DaemonStatus.TheVariants.{BadDigests, AcceptFault, BadSecond}
use Rattle.ots_calendar_text.specs.declared.status.DaemonStatus.TheVariants.{NotPrefix, OldVersion}

abbrev pub reason_words : BlockReason → List ℕ
reason_words why.Truncated = codes "truncated"
reason_words why.NonMinimal = codes "non-minimal number"
reason_words why.TooLarge = codes "number too large"
reason_words why.BadFlag = codes "bad flag"
reason_words why.NoTransaction = codes "no transaction"
reason_words why.Rest = codes "rest"

-- over a name; a status that has no line prints nothing
abbrev pub refusal_text : List ℕ → DaemonStatus → List ℕ
refusal_text name Done = []
refusal_text name NothingNew = line (codes "nothing new")
refusal_text name Usage = line (codes "usage: otsd JOURNAL serve, batch, tip, anchor, list, migrate")
refusal_text name NoFile = line (codes "no file " ++ name)
refusal_text name ReadFault = line (codes "read fault " ++ name)
refusal_text name WriteFault = []
refusal_text name TooBig = line (codes "too big " ++ name)
refusal_text name NonceFault = line (codes "nonce fault")
refusal_text name (BadAddress place https) = line (address_words https ++ decimal place)
refusal_text name OutOfMemory = []
refusal_text name NotAJournal = line (codes "not a journal")
refusal_text name (Damaged place) = line (codes "damaged at " ++ decimal place)
refusal_text name (BadRecord index) = line (codes "bad record " ++ decimal index)
refusal_text name (Full need limit) = line (codes "journal full " ++ decimal need ++ codes " of " ++ decimal limit)
refusal_text name DiskFault = line (codes "disk fault")
refusal_text name NoTip = line (codes "no tip in the block")
refusal_text name (BadRoot header computed) = line (codes "bad root " ++ encode_lower header ++ codes " "
    ++ encode_lower computed)
refusal_text name (TransactionTooLong length) = line (codes "transaction too long " ++ decimal length)
refusal_text name (BadBlock place reason) = line (codes "bad block at " ++ decimal place ++ codes ": "
    ++ reason_words reason)
refusal_text name (BadKey length) = line (codes "bad key " ++ decimal length)
refusal_text name (BadDigests number) = line (codes "bad digests line " ++ decimal number)
refusal_text name AcceptFault = line (codes "accept fault")
refusal_text name (BadSecond second) = line (codes "bad second " ++ decimal second)
refusal_text name (NotPrefix index) = line (codes "not a prefix at " ++ decimal index)
refusal_text name OldVersion = line (codes "old version")
