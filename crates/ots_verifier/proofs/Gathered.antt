-- The header of a proof file, as it comes.
use Rattle.std.proofs.Common.{◌≡◌, ℕ, ◌+◌, ◌-◌, ◌<◌, ◌≤◌, List, [], ◌++◌, length, take, drop, Option, Some, None, refl, sym, ap, subst, ◌∙◌, inl, inr, arith, append_assoc, length-append, length-drop}
use Rattle.std.specs.Prelude.{min, IsSome}
use Rattle.std.proofs.Math.Seq.{take-append-add}
use Rattle.std.proofs.lemmas.Bool.{cases_lt}
use Rattle.std.proofs.lemmas.List.{append-nil, take_all, drop_all, take_at, take-append-le, take-append-drop, length-take-le}
use Rattle.ots_detached.specs.declared.header.FileHeader.{FileHeader}
use Rattle.ots_detached.specs.File.{header, IsHeader}
use Rattle.ots_detached.specs.FileFault.{header_fault}
use Rattle.ots_reader.specs.declared.fault.Fault.{Fault}
use Rattle.ots_verifier.specs.declared.progress.Progress.{Progress}
use Rattle.ots_verifier.specs.declared.progress.State.TheVariants.{Header, After}
use Rattle.ots_verifier.specs.Progress.{IsGathering, IsIn, HasCome}
use Rattle.ots_detached.proofs.Headers.{header_length}
use Rattle.ots_headers.specs.HeaderTable.{Table}
use Rattle.ots_verifier.specs.declared.following.Following.{Following}
use Rattle.ots_verifier.specs.declared.stage.Stage.{Stage}
use Rattle.ots_verifier.specs.declared.stage.Stage.TheVariants.{Tree}
use Rattle.ots_verifier.specs.Following.{Follows, IsFresh}
use Rattle.ots_verifier.specs.Stage.{IsAt, Stands}
use Rattle.ots_verifier.proofs.OnePiece.{header_fits}

-- the header alone
header_alone : (g : List ℕ) (h : FileHeader) → IsHeader g h.hash h.digest → take (33 + length h.digest) g ≡ header h.hash h.digest
header_alone g h i = ap (take (33 + length h.digest)) i.prefix ∙ take_at (header h.hash h.digest) (drop (33 + length h.digest) g) (33 + length h.digest) (header_length h.hash h.digest)

pub entered : (bitcoin : Table) (litecoin : Option Table) (g : List ℕ) (h : FileHeader) (f : Following) (start : ℕ) → IsHeader g h.hash h.digest → start ≡ 33 + length h.digest
    → Follows bitcoin litecoin h.digest f.reader f.messages.position f.best → f.reader.kept ≡ [] → f.reader.came ≡ [] → Stands bitcoin litecoin (take (33 + length h.digest) g) start (Tree h) f
entered bitcoin litecoin g h f start i is follows kept came =
    let n = 33 + length h.digest in
    let long : length (take n g) ≡ n = length-take-le n g (header_fits g h.hash h.digest i) in
    let none : drop n (take n g) ≡ [] = drop_all n (take n g) (omega (arith, long)) in
    record {
      counted = omega (arith, is, long);
      is_at = record {
        header = record {
          digest = i.digest;
          prefix = header_alone g h i ∙ sym (append-nil (header h.hash h.digest)) ∙ ap (λ (z : List ℕ). header h.hash h.digest ++ z) (sym none);
        };
        rest = rw (kept, came, none) refl;
        follows = follows;
      };
    }

pub rejoined : (g : List ℕ) (n : ℕ) → take n g ++ take (length g - n) (drop n g) ≡ g
rejoined g n = ap (λ (z : List ℕ). take n g ++ z) (take_all (length g - n) (drop n g) (omega (arith, length-drop n g))) ∙ take-append-drop n g

-- ---- what is kept

take_fewer : (n m : ℕ) (xs : List ℕ) → n ≡ min (length xs) m → take n xs ≡ take m xs
take_fewer n m xs is =
    elim (cases_lt m (length xs)) [
      | inl low ↦ (let same : n ≡ m = omega arith in ap (λ (k : ℕ). take k xs) same)
      | inr low ↦ take_all n xs (omega arith) ∙ sym (take_all m xs (omega arith))
    ]

pub kept_prefix : (old piece bytes new : List ℕ) (count taken : ℕ) → length old ≡ 65 → count ≤ 65 → taken ≡ min (length piece) (65 - count) → bytes ≡ take taken piece
    → new ≡ (take count old ++ bytes) ++ drop (count + length bytes) old → take (count + taken) new ≡ take 65 (take count old ++ piece)
kept_prefix old piece bytes new count taken size low is are put =
    let p = take count old in
    let long : length p ≡ count = length-take-le count old (omega arith) in
    let all : bytes ≡ take (65 - count) piece = are ∙ take_fewer taken (65 - count) piece is in
    let some : length bytes ≡ taken = ap length are ∙ length-take-le taken piece (omega arith) in
    let left : take (count + taken) new ≡ p ++ bytes =
    ap (take (count + taken)) put
    ∙ take_at (p ++ bytes) (drop (count + length bytes) old) (count + taken) (omega (arith, length-append p bytes, long, some)) in
    let sum : length p + (65 - count) ≡ 65 = omega (arith, long) in
    let right : take 65 (p ++ piece) ≡ p ++ take (65 - count) piece = ap (λ (k : ℕ). take k (p ++ piece)) (sym sum) ∙ take-append-add p piece (65 - count) in
    left ∙ ap (λ (z : List ℕ). p ++ z) all ∙ sym right

pub stands_joined : (bitcoin : Table) (litecoin : Option Table) (g : List ℕ) (n start : ℕ) (s : Stage) (f : Following) → start ≡ n
    → IsAt bitcoin litecoin (take n g ++ take (length g - start) (drop start g)) s f → Stands bitcoin litecoin g (length g) s f
stands_joined bitcoin litecoin g n start s f same on = record {
  counted = refl;
  is_at = subst (λ (z : List ℕ). IsAt bitcoin litecoin z s f) (ap (λ (k : ℕ). take n g ++ take (length g - k) (drop k g)) same ∙ rejoined g n) on;
}

-- ---- one more piece

pub still_gathering : (bitcoin : Table) (litecoin : Option Table) (bytes : List ℕ) (q : Progress) → q.count ≤ 4194304 → q.state ≡ Header → IsGathering bytes q → HasCome bitcoin litecoin bytes q
still_gathering bitcoin litecoin bytes q room is g = record { room = room; is_in = subst (IsIn bitcoin litecoin bytes q) (sym is) g }

pub no_header : (bytes piece : List ℕ) (p q : Progress) → IsGathering bytes p → 65 ≤ p.count → q.count ≡ p.count + length piece → q.header ≡ p.header → q.following ≡ p.following
    → IsGathering (bytes ++ piece) q
no_header bytes piece p q i full count header following =
    let long : 65 ≤ length bytes = omega (arith, i.counted) in
    let same : take 65 (bytes ++ piece) ≡ take 65 bytes = take-append-le 65 bytes piece long in
    let size : min q.count 65 ≡ min p.count 65 = omega arith in
    record {
      counted = omega (arith, i.counted, length-append bytes piece);
      prefix = (λ j. take (size j) (header j)) ∙ i.prefix ∙ sym same;
      bad = subst (λ (z : List ℕ). IsSome (header_fault z)) (sym same) i.bad;
      fresh = subst IsFresh (sym following) i.fresh;
    }

-- the bytes before the piece
kept_bytes : (bytes : List ℕ) (p : Progress) → IsGathering bytes p → p.count < 65 → take p.count p.header ≡ bytes
kept_bytes bytes p i low =
    let size : p.count ≡ min p.count 65 = omega arith in
    ap (λ (k : ℕ). take k p.header) size ∙ i.prefix ∙ take_all 65 bytes (omega (arith, i.counted))

some_fault : (o : Option Fault) (f : Fault) → o ≡ Some f → IsSome o
some_fault None f e = absurd cc
some_fault (Some g) f e = refl

pub header_cut : (bytes piece : List ℕ) (p q : Progress) (end : ℕ) (f : Fault) → IsGathering bytes p → p.count < 65 → end ≡ min (p.count + length piece) 65
    → take end q.header ≡ take 65 (take p.count p.header ++ piece) → header_fault (take end q.header) ≡ Some f → q.count ≡ p.count + length piece → q.following ≡ p.following
    → IsGathering (bytes ++ piece) q
header_cut bytes piece p q end f i low is kept bad count following =
    let prefix : take end q.header ≡ take 65 (bytes ++ piece) = kept ∙ ap (λ (z : List ℕ). take 65 (z ++ piece)) (kept_bytes bytes p i low) in
    let size : min q.count 65 ≡ end = omega arith in
    record {
      counted = omega (arith, i.counted, length-append bytes piece);
      prefix = ap (λ (k : ℕ). take k q.header) size ∙ prefix;
      bad = subst (λ (z : List ℕ). IsSome (header_fault z)) prefix (some_fault (header_fault (take end q.header)) f bad);
      fresh = subst IsFresh (sym following) i.fresh;
    }

-- what is kept, and the rest of the piece
all_there : (bytes piece : List ℕ) (n : ℕ) → length bytes ≤ 65 → n ≡ min (length piece) (65 - length bytes) → take 65 (bytes ++ piece) ++ take (length piece - n) (drop n piece) ≡ bytes ++ piece
all_there bytes piece n low is =
    let sum : length bytes + (65 - length bytes) ≡ 65 = omega arith in
    let prefix : take 65 (bytes ++ piece) ≡ bytes ++ take n piece =
    ap (λ (k : ℕ). take k (bytes ++ piece)) (sym sum) ∙ take-append-add bytes piece (65 - length bytes) ∙ ap (λ (z : List ℕ). bytes ++ z) (sym (take_fewer n (65 - length bytes) piece is)) in
    ap (λ (z : List ℕ). z ++ take (length piece - n) (drop n piece)) prefix
    ∙ append_assoc bytes (take n piece) (take (length piece - n) (drop n piece))
    ∙ ap (λ (z : List ℕ). bytes ++ z) (rejoined piece n)

pub header_whole : (bitcoin : Table) (litecoin : Option Table) (bytes piece kept : List ℕ) (p q : Progress) (end n : ℕ) (s : Stage) → IsGathering bytes p → p.count < 65
    → end ≡ min (p.count + length piece) 65 → n ≡ end - p.count → kept ≡ take 65 (take p.count p.header ++ piece)
    → IsAt bitcoin litecoin (kept ++ take (length piece - n) (drop n piece)) s q.following
    → q.count ≡ p.count + length piece → q.count ≤ 4194304 → q.state ≡ After s → HasCome bitcoin litecoin (bytes ++ piece) q
header_whole bitcoin litecoin bytes piece kept p q end n s i low is taken are on count room state =
    let prefix : kept ≡ take 65 (bytes ++ piece) = are ∙ ap (λ (z : List ℕ). take 65 (z ++ piece)) (kept_bytes bytes p i low) in
    let whole : kept ++ take (length piece - n) (drop n piece) ≡ bytes ++ piece =
    ap (λ (z : List ℕ). z ++ take (length piece - n) (drop n piece)) prefix ∙ all_there bytes piece n (omega (arith, i.counted)) (omega (arith, i.counted)) in
    record {
      room = room;
      is_in = subst (IsIn bitcoin litecoin (bytes ++ piece) q) (sym state) (record {
        counted = omega (arith, i.counted, length-append bytes piece);
        is_at = subst (λ (z : List ℕ). IsAt bitcoin litecoin z s q.following) whole on;
      });
    }
