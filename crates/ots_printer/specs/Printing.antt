-- Putting a text, piece after piece, through the room before a sink.
use Rattle.std.specs.Prelude.{◌≡◌, ◌≤◌, ℕ, List, ◌++◌, true, false, Option}
use Rattle.ots_base.specs.Cause.{Rose}
use Rattle.ots_outside.specs.Buffered.{Buffered}
use Rattle.ots_outside.specs.Streams.{TakesPrefix}
use Rattle.ots_printer.specs.declared.printer.Printer.{Printer}

-- A piece of text was put: it stands after what was held; or a write failed, at a prefix of all that was to be written;
-- or one had failed before, and nothing more is written. The sink is the same.
pub record Puts {K : Type 0} (taken : K → Option (List ℕ)) (faults : K → ℕ) (keeps : K → K → Type 0) (piece : List ℕ)
    (p q : Printer K) : Type 0 where
  pub whole : q.failed ≡ false → (p.failed ≡ false) × Buffered (taken p.sink.now) (taken q.sink.now) (p.held ++ piece)
      q.held
  pub prefix : p.failed ≡ false → q.failed ≡ true
      → Rose (faults p.sink.now) (faults q.sink.now) × TakesPrefix (taken p.sink.now) (taken q.sink.now)
      (p.held ++ piece)
  pub lost : p.failed ≡ true → (q.failed ≡ true) × (taken q.sink.now ≡ taken p.sink.now)
  pub later : faults p.sink.now ≤ faults q.sink.now
  pub same : keeps p.sink.now q.sink.now
  pub loan : q.sink.ghost_name ≡ p.sink.ghost_name
