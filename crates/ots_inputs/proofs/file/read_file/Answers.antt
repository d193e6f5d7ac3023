use Rattle.std.proofs.Common.{rules}
use Rattle.ots_inputs.proofs.Bytes.{bytes_refused, read_there}
use Rattle.ots_inputs.proofs.Came.{error_is, error_opened}
use Rattle.ots_inputs.proofs.file.read_file.Goals as goal

pub returns-in_err-read : goal.returns-in_err-read
returns-in_err-read g c = record {
  answer = error_is _ c.args.name.now _ _ c.from_residual-in_err-read.result _ c.from_residual-in_err-read.ensures.1
      (bytes_refused _ _ _ _ _ c.in_ok-slot.ensures.not_there (rw (c.new.ensures.shelf, c.new.ensures.slot) c.in_ok-slot.ensures.ok.left) c.in_err-read.field-0.0 c.in_err-read.ensures.input);
  opened = search rules;
  refused = error_opened c.args.name.now _ _ c.from_residual-in_err-read.result _ c.from_residual-in_err-read.ensures.1
      (read_there c.in_err-read.field-0.0) (search rules);
  kept = record {
    names = search rules;
    slots = search rules;
    short = search rules;
    later = search rules;
    writing = search rules;
  };
}
