use Rattle.std.proofs.Common.{◌≡◌, ◌+◌, ◌++◌, ◌∷◌, ℕ, List, [], length, refl, ◌∙◌, ap, subst, arith, length-append}
use Rattle.std.proofs.lemmas.List.{nil_from_length, map-append}
use Rattle.std.proofs.lemmas.Grind.{common_steps}
use Rattle.ots_journal.specs.Image.{entry_bytes}
use Rattle.ots_journal.specs.Stored.{entry_at, entries_at}
use Rattle.ots_journal.specs.declared.place.Place.{Place}
use Rattle.ots_journal.proofs.Groups.{length-entry}
use Rattle.ots_journal.specs.declared.entry.Entry.{Entry}
use Rattle.ots_journal.proofs.GroupReading.{EntriesSoFar, Left, none_yet, entry_more, none_at, left_none, entries_read}
use Rattle.ots_journal.proofs.Places.{ends_later, ends_one, place_read, rest_there}
use Rattle.ots_journal.proofs.reading.read_entries.Goals as goal

pub loop-init : goal.loop-init
loop-init c = record {
  read = none_yet c.args.entries.now (entries_at c.args.bytes.now c.args.places.now.items) c.args.count;
  size = refl;
  there = c.requires.there;
  within = c.requires.within;
}

pub loop-preserved : goal.loop-preserved
loop-preserved c =
    let bytes = c.args.bytes.now in
    let entry : Entry = record { kind = c.in-Some.kind; payload = c.in-Some.payload.now } in
    let place : Place = record { kind = c.in-Some.kind; start = c.loop.start + 5; length = length c.in-Some.payload.now } in
    let whole = c.in-Some.ensures.some.whole in
    let pushed : c.push.new.self.items ≡ c.loop.places.items ++ place ∷ [] = c.in_ok-push.ensures.items in
    let size : length c.loop.rest.now ≡ 5 + (length c.in-Some.payload.now + length c.in-Some.after.now) = ap length whole ∙ omega (arith, length-append (entry_bytes entry) c.in-Some.after.now, length-entry entry) in
    let more : entries_at bytes c.push.new.self.items ≡ entries_at bytes c.loop.places.items ++ entry ∷ [] =
    ap (λ (l : List Place). entries_at bytes l) pushed ∙ map-append (entry_at bytes) c.loop.places.items (place ∷ [])
    ∙ ap (λ (e : Entry). entries_at bytes c.loop.places.items ++ e ∷ []) (place_read bytes c.loop.rest.now c.in-Some.after.now c.loop.start c.in-Some.kind c.in-Some.payload.now c.loop.invariant.there whole) in
    record {
      read = entry_more c.args.entries.now c.loop.rest.now c.in-Some.after.now (entries_at bytes c.args.places.now.items) (entries_at bytes c.loop.places.items) (entries_at bytes c.push.new.self.items)
          entry c.args.count c.loop.counter c.loop-test.true more c.in-Some.ensures.some c.loop.invariant.read;
      size = omega (arith, c.loop.invariant.size, size);
      there = rest_there bytes c.loop.rest.now c.in-Some.after.now c.loop.start entry c.loop.invariant.there whole;
      within = rw pushed (ends_one (c.loop.start + (5 + length c.in-Some.payload.now)) c.loop.places.items place
          (ends_later c.loop.start (c.loop.start + (5 + length c.in-Some.payload.now)) c.loop.places.items (omega arith) c.loop.invariant.within) (omega arith));
    }

pub returns-in_default-clause-no : goal.returns-in_default-clause-no
returns-in_default-clause-no c is group many fit whole =
    none_at c.loop.rest.now c.args.count c.loop.counter c.loop-test.true c.in_default.ensures.none (c.loop.invariant.read.others group many fit whole)

pub returns-in_default-clause-within : goal.returns-in_default-clause-within
returns-in_default-clause-within c = ends_later c.loop.start (c.args.from + length c.args.entries.now) c.loop.places.items (omega (arith, c.loop.invariant.size)) c.loop.invariant.within

pub returns-clause-yes : goal.returns-clause-yes
returns-clause-yes c is =
    let old = entries_at c.args.bytes.now c.args.places.now.items in
    let new = entries_at c.args.bytes.now c.loop.places.items in
    let none : length c.loop.rest.now ≡ 0 = grind (arith, common_steps) in
    let all : c.loop.counter ≡ c.args.count = omega (arith, c.loop-test.false, c.loop.auto.counter-end) in
    let s = subst (λ (n : ℕ). EntriesSoFar c.args.entries.now c.loop.rest.now old new c.args.count n) all c.loop.invariant.read in
    entries_read c.args.entries.now old new c.args.count (subst (λ (r : List ℕ). EntriesSoFar c.args.entries.now r old new c.args.count c.args.count) (nil_from_length c.loop.rest.now none) s)

pub returns-clause-no : goal.returns-clause-no
returns-clause-no c is group many fit whole =
    let all : c.loop.counter ≡ c.args.count = omega (arith, c.loop-test.false, c.loop.auto.counter-end) in
    let left = subst (λ (n : ℕ). Left c.loop.rest.now c.args.count n) all (c.loop.invariant.read.others group many fit whole) in
    let none : c.loop.rest.now ≡ [] = left_none c.loop.rest.now c.args.count left in
    grind (arith, common_steps)

pub returns-clause-within : goal.returns-clause-within
returns-clause-within c = ends_later c.loop.start (c.args.from + length c.args.entries.now) c.loop.places.items (omega (arith, c.loop.invariant.size)) c.loop.invariant.within
