-- What is printed of a verdict, a sample, an upgraded proof and a file that was stamped.
use Rattle.std.specs.Prelude.{ℕ, Bool, true, false, List, ◌++◌, codes, decimal, reverse, Option, Some, None}
use Rattle.hex.specs.Hex.{encode_lower}
use Rattle.ots_verdicts.specs.declared.verdicts.Chain.{Chain}
use Rattle.ots_verdicts.specs.declared.verdicts.Chain.TheVariants as chain
use Rattle.ots_verdicts.specs.declared.verdicts.Verdict.{Verdict}
use Rattle.ots_verdicts.specs.declared.verdicts.Verdict.TheVariants.{Yes, NoDigest, NoPath}
use Rattle.ots_sample.specs.declared.outcome.Sample.{Sample}
use Rattle.ots_outputs.specs.Lines.{line}

abbrev pub yes_words : Chain → List ℕ
yes_words chain.Bitcoin = codes "yes block "
yes_words chain.Litecoin = codes "yes litecoin block "

abbrev pub verdict_text : Verdict → List ℕ
verdict_text (Yes c height time) = line (yes_words c ++ decimal height ++ codes " time " ++ decimal time)
verdict_text NoDigest = line (codes "no digest")
verdict_text NoPath = line (codes "no path")

-- the heights of the first and the last header, and the hash of the last, its last byte first as it is usually shown
abbrev pub tip_line : ℕ → ℕ → List ℕ → List ℕ
tip_line first last tip =
    line (codes "chain " ++ decimal first ++ codes " to " ++ decimal last ++ codes " tip "
    ++ encode_lower (reverse tip))

-- that line, and how many pins the headers have, where pins are given
abbrev pub chain_text : ℕ → ℕ → List ℕ → Option ℕ → List ℕ
chain_text first last tip None = tip_line first last tip
chain_text first last tip (Some count) = tip_line first last tip ++ line (codes "pins " ++ decimal count)

-- a line for each number and for the digest of the canonical proof's file, and the line of the verdict
abbrev pub sample_text : Sample → List ℕ
sample_text s =
    line (codes "paths " ++ decimal s.paths) ++ line (codes "bytes " ++ decimal s.length)
    ++ line (codes "digest " ++ encode_lower s.digest)
    ++ verdict_text s.verdict

-- whether some path of it ends in Bitcoin
abbrev pub complete_text : Bool → List ℕ
complete_text true = line (codes "complete")
complete_text false = line (codes "pending")

-- the name of a file's proof. Source: the client of the reference library (opentimestamps-client, otsclient/cmds.py,
-- stamp_command).
abbrev pub proof_name : List ℕ → List ℕ
proof_name name = name ++ codes ".ots"

-- it is told that a file was made
abbrev pub wrote_text : List ℕ → List ℕ
wrote_text name = line (codes "wrote " ++ proof_name name)
