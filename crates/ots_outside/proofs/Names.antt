-- Lemmas on the names of a shelf that are written.
use Rattle.std.proofs.Common.{◌≡◌, ◌≢◌, ℕ, Bool, true, false, cond, List, [], ◌++◌, Option, None, Some, is_some, IsSome, Result, Ok, Err, take, refl, sym, ap, ◌∙◌, unwrap_or, nat_eq, arith}
use Rattle.std.specs.Option.{option_map, option_and_then}
use Rattle.std.specs.Cmp.{eq_by_cmp_equiv}
use Rattle.std.specs.Cmp.Lexicographic.{slice_cmp, nat_list_cmp_total, same_text, texts_ties}
use Rattle.std.specs.Ordering.{nat_cmp, eq_by_cmp}
use Rattle.std.specs.FinMap as map
use Rattle.std.proofs.lemmas.Bool.{false≢true}
use Rattle.std.proofs.lemmas.Bool.Decides.{nat_tests}
use Rattle.ots_outside.specs.Streams.{Takes, TakesPrefix, Writes}
use Rattle.ots_outside.specs.Shelf.{Names, ShelfTold, closed, name_of, with_more, Creates, SameButNames, SameButSlot, WritesTo}
use Rattle.ots_outside.specs.Written.{SameButName, SameButSlotBytes, WritesName, WritesNamePrefix, bytes_under, slot_bytes, with_name}

-- ---- a name that was put

abbrev pub is_name : List ℕ → List ℕ → Bool
is_name = eq_by_cmp (slice_cmp nat_cmp)

pub is_name-self : (name : List ℕ) → is_name name name ≡ true
is_name-self name = (eq_by_cmp_equiv nat_list_cmp_total).refl name

is_name-other : (name other : List ℕ) → other ≢ name → is_name other name ≡ false
is_name-other name other differs = cases _ refl where
  cases : (b : Bool) → is_name other name ≡ b → is_name other name ≡ false
  cases true e = absurd (differs (same_text other name (sym (texts_ties other name ∙ e))))
  cases false e = e

get-insert_same : (m : Names) (name bytes : List ℕ) → map.get (map.insert m name bytes) name ≡ Some bytes
get-insert_same m name bytes =
    map.get-insert nat_list_cmp_total m name bytes name ∙ ap (λ b. cond b (Some bytes) (map.get m name)) (is_name-self name)

pub get-insert_other : (m : Names) (name bytes other : List ℕ) → other ≢ name → map.get (map.insert m name bytes) other ≡ map.get m other
get-insert_other m name bytes other differs =
    map.get-insert nat_list_cmp_total m name bytes other ∙ ap (λ b. cond b (Some bytes) (map.get m other)) (is_name-other name other differs)

-- A map that has these bytes under this name, and under each other name what another map has, is that map with them.
put_of_gets : (m n : Names) (name bytes : List ℕ) → map.get n name ≡ Some bytes → ((other : List ℕ) → other ≢ name → map.get n other ≡ map.get m other)
    → n ≡ map.insert m name bytes
put_of_gets m n name bytes here others =
    map.same_map nat_list_cmp_total (map.slice_cmp-IsAntisymmetric map.nat_cmp-IsAntisymmetric) n (map.insert m name bytes) (λ q. cases q _ refl) where
      cases : (q : List ℕ) (b : Bool) → is_name q name ≡ b → map.get n q ≡ map.get (map.insert m name bytes) q
      cases q true e =
          let same : q ≡ name = same_text q name (sym (texts_ties q name ∙ e)) in
          rw same (here ∙ sym (get-insert_same m name bytes))
      cases q false e =
          let differs : q ≢ name = λ same. false≢true (sym e ∙ ap (λ p. is_name p name) same ∙ is_name-self name) in
          others q differs ∙ sym (get-insert_other m name bytes q differs)

-- ---- one write

takes_more : (name more : List ℕ) (m n : Option Names) → n ≡ option_map (with_more name more) m
    → Takes (bytes_under name m) (bytes_under name n) more
takes_more name more None n is = rw is tt
takes_more name more (Some m) n is = rw is (rw get-insert_same refl)

-- What `write` of a shelf does to a name is what `write` of a sink does to the bytes taken.
pub writes_from_write : {E : Type 0} (name later : List ℕ) (old new : ShelfTold) (result : Result ℕ E) (piece : List ℕ) → later ≡ name
    → WritesTo name old new result piece → Writes (bytes_under name old.names) (bytes_under later new.names) result piece
writes_from_write name later old new (Ok n) piece same wrote = rw same (takes_more name (take n piece) old.names new.names wrote)
writes_from_write name later old new (Err e) piece same wrote = rw (same, wrote) refl

is_some-map : (f : Names → Names) (m : Option Names) → is_some (option_map f m) ≡ is_some m
is_some-map f None = refl
is_some-map f (Some m) = refl

other_stays : (name more : List ℕ) (m : Option Names) (other : List ℕ) → other ≢ name
    → option_and_then (λ names. map.get names other) (option_map (with_more name more) m) ≡ option_and_then (λ names. map.get names other) m
other_stays name more None other differs = refl
other_stays name more (Some m) other differs = get-insert_other m name _ other differs

name_stays : (name more : List ℕ) (m : Option Names) → IsSome (option_and_then (λ names. map.get names name) m)
    → IsSome (option_and_then (λ names. map.get names name) (option_map (with_more name more) m))
name_stays name more None there = absurd (false≢true there)
name_stays name more (Some m) there = rw get-insert_same refl

-- All but the bytes of the name stays.
pub others_from_write : {E : Type 0} (name : List ℕ) (old new : ShelfTold) (result : Result ℕ E) (piece : List ℕ)
    → WritesTo name old new result piece → SameButNames old new → SameButName name old new
others_from_write name old new (Ok n) piece wrote same = record {
  told = ap is_some wrote ∙ is_some-map (with_more name (take n piece)) old.names;
  names = λ other differs. ap (option_and_then (λ names. map.get names other)) wrote ∙ other_stays name (take n piece) old.names other differs;
  there = λ there. rw wrote (name_stays name (take n piece) old.names there);
  opened = same.opened;
  short = same.short;
  slots = same.slots;
}
others_from_write name old new (Err e) piece wrote same = record {
  told = ap is_some wrote;
  names = λ other differs. ap (option_and_then (λ names. map.get names other)) wrote;
  there = λ there. rw wrote there;
  opened = same.opened;
  short = same.short;
  slots = same.slots;
}

-- ---- a name that is created, written and closed

abbrev bytes_of : List ℕ → Option Names → Option (List ℕ)
bytes_of name told = option_and_then (λ names. map.get names name) told

found : (o : Option (List ℕ)) (bytes : List ℕ) → IsSome o → unwrap_or o [] ≡ bytes → o ≡ Some bytes
found None bytes there is = absurd (false≢true there)
found (Some all) bytes there is = ap Some is

-- The slot's name is `a` once it was created, and `b` once it was written.
names_written : (name a b bytes : List ℕ) (m c n : Option Names) → c ≡ with_name name [] m → (IsSome m → a ≡ name) → b ≡ a
    → is_some n ≡ is_some c → Takes (bytes_under a c) (bytes_under b n) bytes → ((other : List ℕ) → other ≢ a → bytes_of other n ≡ bytes_of other c)
    → (IsSome (bytes_of a c) → IsSome (bytes_of a n)) → n ≡ with_name name bytes m
names_written name a b bytes None c None made named same told wrote others there = refl
names_written name a b bytes None c (Some n) made named same told wrote others there = absurd (false≢true (sym (told ∙ ap is_some made)))
names_written name a b bytes (Some m) c None made named same told wrote others there = absurd (false≢true (told ∙ ap is_some made))
names_written name a b bytes (Some m) c (Some n) made named same told wrote others there =
    let here : a ≡ name = named refl in
    let now : unwrap_or (map.get n name) [] ≡ unwrap_or (map.get (map.insert m name []) name) [] ++ bytes = rw (same, here, made) at wrote in
    let kept : IsSome (map.get (map.insert m name []) name) → IsSome (map.get n name) = rw (here, made) at there in
    ap Some (put_of_gets m n name bytes (found _ _ (kept (rw get-insert_same refl)) (rw get-insert_same at now))
    (λ other differs. others other (λ e. differs (e ∙ here)) ∙ ap (bytes_of other) made ∙ get-insert_other m name [] other differs))

-- What `create`, the writes to the slot and `close` leave, one after the other.
pub writes_name : (name bytes : List ℕ) (slot : ℕ) (old created written new : ShelfTold) → Creates name slot old created
    → SameButSlotBytes slot created written → Takes (slot_bytes created slot) (slot_bytes written slot) bytes
    → SameButSlot slot written new → new.slots slot ≡ closed → WritesName name bytes old new
writes_name name bytes slot old created written new creates same wrote closes now_closed = record {
  names = closes.names ∙ names_written name _ _ bytes old.names created.names written.names creates.names (λ told. ap name_of (creates.in_use told))
      (ap name_of (same.slots slot)) same.told wrote same.names same.there;
  opened = closes.opened ∙ same.opened ∙ creates.opened;
  slots = λ k. at k (nat_eq k slot) refl;
} where
  at : (k : ℕ) (b : Bool) → nat_eq k slot ≡ b → new.slots k ≡ old.slots k
  at k true e = let here : k ≡ slot = grind (arith, nat_tests) in rw here (now_closed ∙ sym creates.was_closed)
  at k false e = let other : k ≢ slot = grind (arith, nat_tests) in closes.others k other ∙ same.slots k ∙ creates.others k other

-- The same where a write may have failed.
pub writes_prefix : (name bytes : List ℕ) (slot : ℕ) (old created written new : ShelfTold) → Creates name slot old created
    → SameButSlotBytes slot created written → TakesPrefix (slot_bytes created slot) (slot_bytes written slot) bytes
    → SameButSlot slot written new → new.slots slot ≡ closed → WritesNamePrefix name bytes old new
writes_prefix name bytes slot old created written new creates same wrote closes now_closed =
    (wrote.0, wrote.1, writes_name name _ slot old created written new creates same wrote.2 closes now_closed)
