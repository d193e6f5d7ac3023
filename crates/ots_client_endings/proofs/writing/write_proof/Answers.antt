use Rattle.std.proofs.Common.{[], ◌∷◌, inl, inr, refl, rules}
use Rattle.ots_detached.specs.File.{file_of}
use Rattle.ots_outputs.specs.declared.output.OutputError.TheVariants as output
use Rattle.ots_client_text.specs.declared.status.Status.TheVariants.{Done, TooBig}
use Rattle.ots_client_endings.specs.Ending.{makes}
use Rattle.ots_client_endings.specs.Writing.{Writes, is_made, too_long}
use Rattle.ots_client_endings.proofs.Carrying.{as_said}
use Rattle.ots_client_endings.proofs.Running.{text_finishes}
use Rattle.ots_client_endings.proofs.writing.write_proof.Goals as goal

pub returns-then-is_too_long-clause-finishes : goal.returns-then-is_too_long-clause-finishes
returns-then-is_too_long-clause-finishes g c =
    text_finishes (Writes c.args.name.now c.args.proof.now) TooBig _ _ _ (too_long (search rules) refl) c.refuse.ensures.sink.later c.refuse.ensures.printed

pub returns-in-Ok-clause-finishes : goal.returns-in-Ok-clause-finishes
returns-in-Ok-clause-finishes g c = record {
  ending = record { status = Done; acts = makes c.args.name.now (file_of c.args.proof.now) ∷ [] };
  is = is_made (search rules) refl;
  out = inl (c.in-Ok.ensures.names.0, (c.in-Ok.ensures.names.1, refl, refl));
  opened = search rules;
  slots = search rules;
  short = search rules;
  counts = search rules;
  writing = search rules;
  lost = search rules;
}

pub returns-in-Err-Exists-clause-finishes : goal.returns-in-Err-Exists-clause-finishes
returns-in-Err-Exists-clause-finishes g c =
    let names = as_said c.args.name.now (file_of c.args.proof.now) _ _ c.in-Err-Exists.field-0 output.Exists c.in-Err-Exists.field-0-is c.in-Err-Exists.ensures.names in record {
      ending = record { status = Done; acts = makes c.args.name.now (file_of c.args.proof.now) ∷ [] };
      is = is_made (search rules) refl;
      out = inr (inl (names.0, names.1, c.refuse-in-Err-Exists.ensures.printed));
      opened = search rules;
      slots = search rules;
      short = search rules;
      counts = search rules;
      writing = search rules;
      lost = search rules;
    }

pub returns-in-Err-WriteFault-clause-finishes : goal.returns-in-Err-WriteFault-clause-finishes
returns-in-Err-WriteFault-clause-finishes g c =
    let names = as_said c.args.name.now (file_of c.args.proof.now) _ _ c.in-Err-WriteFault.field-0 output.WriteFault c.in-Err-WriteFault.field-0-is c.in-Err-WriteFault.ensures.names in record {
      ending = record { status = Done; acts = makes c.args.name.now (file_of c.args.proof.now) ∷ [] };
      is = is_made (search rules) refl;
      out = inr (inr (inl (search rules, names.0, names.1, c.refuse-in-Err-WriteFault.ensures.printed)));
      opened = search rules;
      slots = search rules;
      short = search rules;
      counts = search rules;
      writing = search rules;
      lost = search rules;
    }

pub returns-in-Err-OutOfMemory-clause-finishes : goal.returns-in-Err-OutOfMemory-clause-finishes
returns-in-Err-OutOfMemory-clause-finishes g c =
    let names = as_said c.args.name.now (file_of c.args.proof.now) _ _ c.in-Err-OutOfMemory.field-0 output.OutOfMemory c.in-Err-OutOfMemory.field-0-is c.in-Err-OutOfMemory.ensures.names in record {
      ending = record { status = Done; acts = makes c.args.name.now (file_of c.args.proof.now) ∷ [] };
      is = is_made (search rules) refl;
      out = inr (inr (inr (names, search rules, search rules)));
      opened = search rules;
      slots = search rules;
      short = search rules;
      counts = search rules;
      writing = search rules;
      lost = search rules;
    }
