-- What is printed where a run ends.
use Rattle.std.specs.Prelude.{ℕ, List}
use Rattle.ots_mirror_words.specs.Lines.{records_line}
use Rattle.ots_mirror_words.specs.Refusal.{refusal_text}
use Rattle.ots_mirror_words.specs.declared.status.MirrorStatus.{MirrorStatus}
use Rattle.ots_mirror_words.specs.declared.status.MirrorStatus.TheVariants.{Done, Behind, Usage, WriteFault, BadAddress}
use Rattle.ots_mirror_words.specs.declared.status.MirrorStatus.TheVariants.{OutOfMemory, NotAJournal, Damaged}
use Rattle.ots_mirror_words.specs.declared.status.MirrorStatus.TheVariants.{BadRecord, Full, DiskFault, OldVersion}

-- how many records there are, where the rounds were made; else why they were not
abbrev pub end_text : MirrorStatus → ℕ → List ℕ
end_text Done records = records_line records
end_text Behind records = records_line records
end_text Usage records = refusal_text Usage
end_text WriteFault records = refusal_text WriteFault
end_text (BadAddress place https) records = refusal_text (BadAddress place https)
end_text OutOfMemory records = refusal_text OutOfMemory
end_text NotAJournal records = refusal_text NotAJournal
end_text (Damaged place) records = refusal_text (Damaged place)
end_text (BadRecord index) records = refusal_text (BadRecord index)
end_text (Full need limit) records = refusal_text (Full need limit)
end_text DiskFault records = refusal_text DiskFault
end_text OldVersion records = refusal_text OldVersion
