-- What the real streams and the real folder are seen as: the words of both under one name.
pub use Rattle.ots_real.specs.StdStreams.{reader_of, read_faults, writer_of, write_faults}
pub use Rattle.ots_real.specs.DirShelf.{files_told, file_faults}
