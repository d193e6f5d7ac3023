use Rattle.std.proofs.Common.{◌≡◌, ◌≤◌, ◌<◌, ℕ, get_or, vec_capacity}
use Rattle.ots_store.specs.Places.{Are}
use Rattle.ots_store.proofs.index.Index.catch_up.Given as goal

abbrev pub invariant-loop-place : goal.invariant-loop-place
invariant-loop-place l = record {
  are : Are l.place l.self.places.items;
  prefix : (i : ℕ) → i < l.indexed → get_or l.self.places.items i 0 ≡ get_or l.fn.self.places.items i 0;
  room : vec_capacity l.fn.self.places ≤ vec_capacity l.self.places;
}
