use Rattle.std.proofs.Common.{inl, inr, rules}
use Rattle.ots_detached.specs.File.{file_of}
use Rattle.ots_outputs.specs.declared.output.OutputError.TheVariants as output
use Rattle.ots_client_endings.proofs.Carrying.{as_said, made_then}
use Rattle.ots_completing.proofs.writing.make_and_tell.Goals as goal

pub returns-in-Ok-clause-made : goal.returns-in-Ok-clause-made
returns-in-Ok-clause-made g c = record {
  out = made_then _ _ _ _ _ _ _ _ _ _ _ c.in-Ok.ensures.names.0 c.in-Ok.ensures.names.1 (rw c.complete_status.ensures at c.print.ensures.printed);
  opened = search rules;
  slots = search rules;
  short = search rules;
  counts = search rules;
  later = search rules;
}

pub returns-in-Err-Exists-clause-made : goal.returns-in-Err-Exists-clause-made
returns-in-Err-Exists-clause-made g c =
    let names = as_said c.args.name.now (file_of c.args.proof.now) _ _ c.in-Err-Exists.field-0 output.Exists c.in-Err-Exists.field-0-is c.in-Err-Exists.ensures.names in record {
      out = inr (inl (names.0, names.1, c.refuse.ensures.printed));
      opened = search rules;
      slots = search rules;
      short = search rules;
      counts = search rules;
      later = search rules;
    }

pub returns-in-Err-WriteFault-clause-made : goal.returns-in-Err-WriteFault-clause-made
returns-in-Err-WriteFault-clause-made g c =
    let names = as_said c.args.name.now (file_of c.args.proof.now) _ _ c.in-Err-WriteFault.field-0 output.WriteFault c.in-Err-WriteFault.field-0-is c.in-Err-WriteFault.ensures.names in record {
      out = inr (inr (inl (search rules, names.0, names.1, c.refuse-in-Err-WriteFault.ensures.printed)));
      opened = search rules;
      slots = search rules;
      short = search rules;
      counts = search rules;
      later = search rules;
    }

pub returns-in-Err-OutOfMemory-clause-made : goal.returns-in-Err-OutOfMemory-clause-made
returns-in-Err-OutOfMemory-clause-made g c =
    let names = as_said c.args.name.now (file_of c.args.proof.now) _ _ c.in-Err-OutOfMemory.field-0 output.OutOfMemory c.in-Err-OutOfMemory.field-0-is c.in-Err-OutOfMemory.ensures.names in record {
      out = inr (inr (inr (names, search rules, search rules)));
      opened = search rules;
      slots = search rules;
      short = search rules;
      counts = search rules;
      later = search rules;
    }
