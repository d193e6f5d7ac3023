use Rattle.ots_client_endings.proofs.Reading.{named, named_stop, reads_into, stop_into}
use Rattle.ots_client_inputs.proofs.Inputs.{a_table}
use Rattle.ots_client_words.specs.Words.{read_header_file}
use Rattle.ots_checking.proofs.evidence.read_perhaps_headers.Goals as goal

pub returns-in-Ok : goal.returns-in-Ok
returns-in-Ok g c = rw c.in-Some.is (reads_into (λ h. h) (named (a_table (read_header_file c.in-Some.file)) c.in-Ok.ensures))

pub returns-in-Err : goal.returns-in-Err
returns-in-Err g c = rw c.in-Some.is (stop_into (λ e h. h) (named_stop (a_table (read_header_file c.in-Some.file)) c.in-Err.ensures))
