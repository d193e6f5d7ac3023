use Rattle.std.proofs.Common.{◌≡◌, ◌+◌, ◌++◌, ℕ, List, take, drop, length, sym, ◌∙◌, ap, subst, arith}
use Rattle.std.specs.Int.{w16, w32, to_be_bytes}
use Rattle.std.specs.List.{AllByRecursion}
use Rattle.std.proofs.lemmas.List.{take_rest, length-take-le, drop-drop}
use Rattle.ots_journal.specs.Stored.{entries_at, EndsBy}
use Rattle.ots_journal.proofs.GroupReading.{count_same, entries_same, reads_group}
use Rattle.ots_journal.proofs.Places.{ends_later}
use Rattle.ots_journal.proofs.reading.read_group.Goals as goal

pub returns-then-branch : goal.returns-then-branch
returns-then-branch c =
    let bytes = drop c.args.from c.args.bytes.now in
    let whole : bytes ≡ to_be_bytes w16 c.in-Some.count ++ (to_be_bytes w32 c.in-Some.size ++ c.in-Some.rest.now) = rw take_rest at c.in-Some.ensures.whole in
    let size : length (take c.in-Some.size c.in-Some.rest.now) ≡ c.in-Some.size = length-take-le c.in-Some.size c.in-Some.rest.now (omega (arith, c.if-size-rest.false)) in
    record {
      found = reads_group bytes c.in-Some.rest.now c.in-Some.count c.in-Some.size whole (entries_at c.args.bytes.now c.args.places.now.items) (entries_at c.args.bytes.now c.read_entries.new.places.items)
          (omega (arith, c.if-count-lt1.false)) (omega (arith, c.if-count-gt-MAX_GROUP.false)) (omega (arith, c.if-size-rest.false)) (c.in_ok-read_entries.ensures.yes c.if-branch.true);
      within = subst (λ (n : ℕ). AllByRecursion (EndsBy n) c.read_entries.new.places.items) (omega (arith, size)) c.in_ok-read_entries.ensures.within;
    }

pub returns-else-branch : goal.returns-else-branch
returns-else-branch c = record {
  found = λ h.
      let bytes = drop c.args.from c.args.bytes.now in
      let whole : bytes ≡ to_be_bytes w16 c.in-Some.count ++ (to_be_bytes w32 c.in-Some.size ++ c.in-Some.rest.now) = rw take_rest at c.in-Some.ensures.whole in
      c.in_ok-read_entries.ensures.no c.if-branch.false h.group (sym (count_same bytes c.in-Some.rest.now c.in-Some.count c.in-Some.size whole h c.in-Some.ensures.count))
      h.fits.payloads (entries_same bytes c.in-Some.rest.now c.in-Some.count c.in-Some.size whole h c.in-Some.ensures.size);
  within = tt;
}

pub read_entries-requires-clause-there : goal.read_entries-requires-clause-there
read_entries-requires-clause-there c =
    let bytes = drop c.args.from c.args.bytes.now in
    let whole : bytes ≡ to_be_bytes w16 c.in-Some.count ++ (to_be_bytes w32 c.in-Some.size ++ c.in-Some.rest.now) = rw take_rest at c.in-Some.ensures.whole in
    let rest : c.in-Some.rest.now ≡ drop (c.args.from + 6) c.args.bytes.now = sym (ap (λ (l : List ℕ). drop 6 l) whole) ∙ drop-drop 6 c.args.from c.args.bytes.now in
    let size : length (take c.in-Some.size c.in-Some.rest.now) ≡ c.in-Some.size = length-take-le c.in-Some.size c.in-Some.rest.now (omega (arith, c.if-size-rest.false)) in
    ap (λ (l : List ℕ). take c.in-Some.size l) rest ∙ ap (λ (n : ℕ). take n (drop (c.args.from + 6) c.args.bytes.now)) (sym size)

pub read_entries-requires-clause-within : goal.read_entries-requires-clause-within
read_entries-requires-clause-within c = ends_later c.args.from (c.args.from + 6) c.args.places.now.items (omega arith) c.requires.within
