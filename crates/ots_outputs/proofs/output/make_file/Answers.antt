use Rattle.std.proofs.Common.{ap, rules}
use Rattle.ots_outside.specs.declared.shelf.Slot.{Slot}
use Rattle.ots_outside.specs.Shelf.{SameButSlot}
use Rattle.ots_outputs.proofs.Outputs.{not_there, prefix, whole}
use Rattle.ots_outputs.proofs.output.make_file.Goals as goal

pub returns-in-Ok : goal.returns-in-Ok
returns-in-Ok g c =
    let closes : SameButSlot c.in_ok-slot.slot.0 (g.S.Shelf.told c.write_to-written.new.sink.shelf.now) (g.S.Shelf.told c.close.new.self) = search rules in record {
      names = (
        not_there _ _ c.in_ok-slot.ensures.exists,
        whole _ _ _ _ _ _ (ap (λ (s : Slot). s.0) c.new.ensures.slot) c.write_to-written.ensures.same.1 (ap g.S.Shelf.told c.new.ensures.shelf) _ _ _ _
            c.in_ok-slot.ensures.ok c.write_to-written.ensures.same.3 c.in-Ok.ensures.whole closes c.close.ensures.closed,
      );
      opened = search rules;
      slots = search rules;
      short = search rules;
      cause = search rules;
      counts = search rules;
    }

pub returns-in-Err : goal.returns-in-Err
returns-in-Err g c =
    let closes : SameButSlot c.in_ok-slot.slot.0 (g.S.Shelf.told c.write_to-written.new.sink.shelf.now) (g.S.Shelf.told c.close.new.self) = search rules in record {
      names = (
        not_there _ _ c.in_ok-slot.ensures.exists,
        prefix _ _ _ _ _ _ (ap (λ (s : Slot). s.0) c.new.ensures.slot) c.write_to-written.ensures.same.1 (ap g.S.Shelf.told c.new.ensures.shelf) _ _ _ _
            c.in_ok-slot.ensures.ok c.write_to-written.ensures.same.3 c.in-Err.ensures.prefix closes c.close.ensures.closed,
      );
      opened = search rules;
      slots = search rules;
      short = search rules;
      cause = search rules;
      counts = search rules;
    }
