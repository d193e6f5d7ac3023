-- The line of a refusal.
use Rattle.std.specs.Prelude.{ℕ, List, [], ◌++◌, codes, decimal}
use Rattle.ots_outputs.specs.Lines.{address_words, line}
use Rattle.ots_mirror_words.specs.declared.status.MirrorStatus.{MirrorStatus}
use Rattle.ots_mirror_words.specs.declared.status.MirrorStatus.TheVariants.{Done, Behind, Usage, WriteFault, BadAddress}
use Rattle.ots_mirror_words.specs.declared.status.MirrorStatus.TheVariants.{OutOfMemory, NotAJournal, Damaged}
use Rattle.ots_mirror_words.specs.declared.status.MirrorStatus.TheVariants.{BadRecord, Full, DiskFault, OldVersion}

abbrev pub full_line : ℕ → ℕ → List ℕ
full_line need limit = line (codes "journal full " ++ decimal need ++ codes " of " ++ decimal limit)

-- a status that has no line prints nothing
abbrev pub refusal_text : MirrorStatus → List ℕ
refusal_text Done = []
refusal_text Behind = []
refusal_text Usage = line (codes "usage: otsmirror JOURNAL ADDRESS --rounds N")
refusal_text WriteFault = []
refusal_text (BadAddress place https) = line (address_words https ++ decimal place)
refusal_text OutOfMemory = []
refusal_text NotAJournal = line (codes "not a journal")
refusal_text (Damaged place) = line (codes "damaged at " ++ decimal place)
refusal_text (BadRecord index) = line (codes "bad record " ++ decimal index)
refusal_text (Full need limit) = full_line need limit
refusal_text DiskFault = line (codes "disk fault")
refusal_text OldVersion = line (codes "old version")
