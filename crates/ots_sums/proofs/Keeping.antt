-- Entries, as they are kept.
use Rattle.std.proofs.Common.{◌≡◌, ◌<◌, ◌-◌, ℕ, suc, zero, Bool, true, false, List, [], ◌∷◌, ◌++◌, length, map, take, drop, get_or, Some, Result, refl, sym, ap, ◌∙◌, arith, length-append}
use Rattle.std.specs.Prelude.{Ok, Err, slice_get}
use Rattle.std.proofs.lemmas.List.{drop-append-le, drop_at, length-drop, map-append, take-append-le, take_all}
use Rattle.ots_base.specs.declared.out_of_memory.OutOfMemory.{OutOfMemory}
use Rattle.ots_sums.specs.declared.sums.Place.{Place}
use Rattle.ots_sums.specs.Sums.{Entry}
use Rattle.ots_sums.specs.inner.Kept.{AreWithin, IsWithin, entries_in, entry_in}
use Rattle.ots_sums.specs.inner.Taken.{PushesWhere}

same_name : (bytes more : List ℕ) (p : Place) → IsWithin bytes p → entry_in (bytes ++ more) p ≡ entry_in bytes p
same_name bytes more p w =
    let order = w.order in
    let within = w.within in
    let named : take (p.end - p.start) (drop p.start (bytes ++ more)) ≡ take (p.end - p.start) (drop p.start bytes) =
    ap (take (p.end - p.start)) (drop-append-le p.start bytes more (omega (arith, order, within)))
    ∙ take-append-le (p.end - p.start) (drop p.start bytes) more (omega (arith, length-drop p.start bytes, order, within)) in
    λ i. record { digest = p.digest; name = named i }

-- Entries stay where other bytes follow.
pub entries_more : (bytes more : List ℕ) (places : List Place) → AreWithin bytes places → entries_in (bytes ++ more) places ≡ entries_in bytes places
entries_more bytes more [] w = refl
entries_more bytes more (p ∷ places) w =
    ap (λ (z : Entry). z ∷ entries_in (bytes ++ more) places) (same_name bytes more p (w 0 p (omega arith)))
    ∙ ap (λ (z : List Entry). entry_in bytes p ∷ z) (entries_more bytes more places (λ k d less. w (suc k) d (omega (arith, less))))

-- one entry more
pub entries_push : (bytes name digest : List ℕ) (places : List Place) (start end : ℕ) → AreWithin bytes places → start ≡ length bytes → end ≡ length (bytes ++ name)
    → entries_in (bytes ++ name) (places ++ record { digest = digest; start = start; end = end } ∷ []) ≡ entries_in bytes places ++ record { digest = digest; name = name } ∷ []
entries_push bytes name digest places start end w from to =
    let p : Place = record { digest = digest; start = start; end = end } in
    let rest : drop start (bytes ++ name) ≡ name = drop_at bytes name start (sym from) in
    let named : take (end - start) (drop start (bytes ++ name)) ≡ name =
    ap (take (end - start)) rest ∙ take_all (end - start) name (omega (arith, from, to, length-append bytes name)) in
    let entry : entry_in (bytes ++ name) p ≡ record { digest = digest; name = name } = λ i. record { digest = digest; name = named i } in
    map-append (entry_in (bytes ++ name)) places (p ∷ []) ∙ ap (λ (z : List Entry). z ++ entry_in (bytes ++ name) p ∷ []) (entries_more bytes name places w)
    ∙ ap (λ (z : Entry). entries_in bytes places ++ z ∷ []) entry

-- what is made of an item
pub get_mapped : {X Y Z : Type 0} (f : Y → Z) (g : X → Y) (xs : List X) (i : ℕ) (x : X) → i < length xs → x ≡ get_or xs i x → slice_get (map f (map g xs)) i ≡ Some (f (g x))
get_mapped f g [] i x less is = absurd (omega (arith, less))
get_mapped {Z = Z} f g (y ∷ xs) zero x less is = ap (λ z. Some (f (g z))) (sym is)
get_mapped f g (y ∷ xs) (suc i) x less is = get_mapped f g xs i x (omega (arith, less)) is

-- the same of entries with another property
pub pushes_as : (P Q : Entry → Type 0) (old new : List Entry) (r : Result Bool OutOfMemory) → ((e : Entry) → P e → Q e) → ((e : Entry) → Q e → P e) → PushesWhere P old new r → PushesWhere Q old new r
pushes_as P Q old new (Ok true) to from (e, added, is) = (e, added, to e is)
pushes_as P Q old new (Ok false) to from (none, same) = (λ e is. none e (from e is), same)
pushes_as P Q old new (Err e) to from p = tt
