use Rattle.std.proofs.Common.{◌≡◌, ◌<◌, ℕ, get_or, vec_len}
use Rattle.ots_store.proofs.index.in_turn.Given as goal

abbrev pub invariant-loop-place : goal.invariant-loop-place
invariant-loop-place l = record {
  count : vec_len l.places ≡ l.place;
  each : (j : ℕ) → j < l.place → get_or l.places.items j 0 ≡ j;
}
