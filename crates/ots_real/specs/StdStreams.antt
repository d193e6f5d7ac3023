-- What the forms over readers and writers of std are seen as.
use Rattle.std.specs.Prelude.{ℕ}
use Rattle.ots_real.specs.declared.std_sink.StdSink.{StdSink}
use Rattle.ots_real.specs.declared.std_source.StdSource.{StdSource}

-- The reader of a source.
abbrev pub reader_of : {R : Type 0} → StdSource R → R
reader_of source = source.inner

-- How often the reader has failed.
abbrev pub read_faults : {R : Type 0} → StdSource R → ℕ
read_faults source = source.faults

-- The writer of a sink.
abbrev pub writer_of : {W : Type 0} → StdSink W → W
writer_of sink = sink.inner

-- How often the writer has failed.
abbrev pub write_faults : {W : Type 0} → StdSink W → ℕ
write_faults sink = sink.faults
