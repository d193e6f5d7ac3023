-- One turn more of a loop, or its end.
use Rattle.std.proofs.Common.{◌≡◌, ◌<◌, ◌≤◌, ◌+◌, ◌&&◌, ℕ, zero, suc, Bool, true, false, List, [], ◌∷◌, ◌++◌, Bor, length, map, take, get_or, drop, Some, refl, sym, ap, subst, ◌∙◌, add-one, arith}
use Rattle.std.specs.Prelude.{Result, Ok, Err, IfOk}
use Rattle.std.specs.List.{AllByRecursion, list_all, range_with_len, slice_get}
use Rattle.std.proofs.Math.Seq.{take-suc}
use Rattle.std.proofs.lemmas.List.{length-map, map-append, take_all}
use Rattle.ots_archive_draft.proofs.Kept.{Drawn, Hashed, Named, Taken, Written}
use Rattle.ots_archive_draft.specs.Drawing.{DrawsAll, DrawsFor, digest_of}
use Rattle.ots_archive_draft.specs.Files.{HashesAll, NamesLines, ReadsHash}
use Rattle.ots_archive_draft.specs.Writing.{Batch, WritesAll, WritesAt}
use Rattle.ots_archive_steps.specs.Ends.{IfRoom}
use Rattle.ots_archive_steps.proofs.Items.{all_more, split_at, take_more, up_to}
use Rattle.ots_archive_steps.proofs.Turns.{each_ends, each_next, number_at, text_at}
use Rattle.ots_archive_steps.specs.Printing.{Refuses}
use Rattle.ots_archive_text.specs.declared.status.ArchiveStatus.TheVariants.{BadName}
use Rattle.ots_archive_words.specs.declared.limits.TheConstants.{MAX_NAMES}
use Rattle.std.specs.Str.{IsUtf8}
use Rattle.ots_sums.specs.Sums.{Entry, digests, names}
use Rattle.ots_archive_text.specs.declared.status.ArchiveStatus.{ArchiveStatus}
use Rattle.ots_archive_world.specs.Steps.{Each}
use Rattle.ots_archive_world.specs.Told.{Told}
use Rattle.ots_arguments.specs.Values.{texts}
use Rattle.ots_ops.proofs.AppliedLength.{length_of_hashed}
use Rattle.ots_ops.specs.declared.hash_op.HashOp.TheVariants.{Sha256}
use Rattle.ots_merkle.specs.Hashes.{AreHashes}
use Rattle.ots_stamp.specs.Stamped.{leaves}
use Rattle.ots_stamp.specs.declared.target.Target.{Target}

-- ---- nonces

module _ (hashes : List (List ℕ)) (i : ℕ) (d : List ℕ) (less : i < length hashes) (is : d ≡ get_or hashes i d) (old mid new : Told) (targets : List Target)
    (before : Drawn hashes i old mid targets) where
  pub draws_next : (t : Target) → DrawsFor d mid new (Ok t) → Drawn hashes (i + 1) old new (targets ++ t ∷ [])
  draws_next t next = record {
    each = each_next (λ z. IfRoom (DrawsFor z)) hashes i d less old mid new targets before.each t
        (subst (λ (z : List ℕ). IfRoom (DrawsFor z) mid new (Ok t)) is (IfRoom.done next));
    same = map-append digest_of targets (t ∷ []) ∙ (λ k. before.same k ++ (next.1 ∙ is) k ∷ []) ∙ sym (take_more hashes i d less);
  }

  pub draws_ends : (s : ArchiveStatus) → IfRoom (DrawsFor d) mid new (Err s) → DrawsAll hashes old new (Err s)
  draws_ends s ended = each_ends (λ z. IfRoom (DrawsFor z)) hashes i d less old mid new targets before.each s
      (subst (λ (z : List ℕ). IfRoom (DrawsFor z) mid new (Err s)) is ended)

-- ---- hashes

-- a digest that was read is that of SHA-256
pub hash_long : (name h : List ℕ) (old new : Told) → ReadsHash name old new (Ok h) → length h ≡ 32
hash_long name h old new read = ap length read.input.answer.2.1 ∙ length_of_hashed Sha256 read.input.answer.0

module _ (names : List (Bor (List ℕ))) (i : ℕ) (d : Bor (List ℕ)) (less : i < length names) (old mid new : Told) (found : List (List ℕ))
    (before : Hashed (texts names) i old mid found) where
  place : i < length (texts names)
  place = omega (arith, less, length-map names (λ (s : Bor (List ℕ)). s.now))

  pub hashes_next : (h : List ℕ) → ReadsHash (get_or names i d).now mid new (Ok h) → Hashed (texts names) (i + 1) old new (found ++ h ∷ [])
  hashes_next h next = record {
    each = each_next (λ z. IfRoom (ReadsHash z)) (texts names) i d.now place old mid new found before.each h
        (subst (λ (z : List ℕ). IfRoom (ReadsHash z) mid new (Ok h)) (sym (text_at names i d less)) (IfRoom.done next));
    long = all_more (λ (z : List ℕ). length z ≡ 32) found h before.long (hash_long (get_or names i d).now h mid new next);
  }

  pub hashes_ends : (s : ArchiveStatus) → IfRoom (ReadsHash (get_or names i d).now) mid new (Err s) → HashesAll (texts names) old new (Err s)
  hashes_ends s ended = each_ends (λ z. IfRoom (ReadsHash z)) (texts names) i d.now place old mid new found before.each s
      (subst (λ (z : List ℕ). IfRoom (ReadsHash z) mid new (Err s)) (sym (text_at names i d less)) ended)

-- ---- drafts

range_long : (from n : ℕ) → length (range_with_len from n) ≡ n
range_long from zero = refl
range_long from (suc n) = ap suc (range_long (from + 1) n)

all_and : (made : List Bool) (one : Bool) → list_all (λ b. b) (made ++ one ∷ []) ≡ (list_all (λ b. b) made && one)
all_and [] true = refl
all_and [] false = refl
all_and (true ∷ made) one = all_and made one
all_and (false ∷ made) one = refl

module _ (b : Batch) (i : ℕ) (less : i < length b.names) (old mid new : Told) (all : Bool) (before : Written b i old mid all) where
  abbrev turns : List ℕ
  turns = range_with_len 0 (length b.names)

  within : i < length turns
  within = omega (arith, less, range_long 0 (length b.names))

  at : get_or turns i 0 ≡ i
  at = number_at 0 (length b.names) i 0 less ∙ omega arith

  pub writes_next : (one : Bool) → IfRoom (WritesAt b i) mid new (Ok one) → Written b (i + 1) old new (all && one)
  writes_next one next = record {
    made = before.made ++ one ∷ [];
    each = each_next (λ k. IfRoom (WritesAt b k)) turns i 0 within old mid new before.made before.each one
        (subst (λ (k : ℕ). IfRoom (WritesAt b k) mid new (Ok one)) (sym at) next);
    known = ap (λ (z : Bool). z && one) before.known ∙ sym (all_and before.made one);
  }

  pub writes_ends : (s : ArchiveStatus) → IfRoom (WritesAt b i) mid new (Err s) → WritesAll b old new (Err s)
  writes_ends s ended = each_ends (λ k. IfRoom (WritesAt b k)) turns i 0 within old mid new before.made before.each s
      (subst (λ (k : ℕ). IfRoom (WritesAt b k) mid new (Err s)) (sym at) ended)

-- after the last turn all are written
pub all_written : (b : Batch) (i : ℕ) (old new : Told) (all : Bool) → length b.names ≤ i → Written b i old new all
    → (made : List Bool) × WritesAll b old new (Ok made) × (all ≡ list_all (λ one. one) made)
all_written b i old new all whole w =
    (w.made, subst (λ (z : List ℕ). Each (λ k. IfRoom (WritesAt b k)) z old new (Ok w.made)) (take_all i (range_with_len 0 (length b.names)) (omega (arith, whole, range_long 0 (length b.names)))) w.each, w.known)

-- ---- lines

-- one name more
pub named_next : (lines : List Entry) (i : ℕ) (name : List ℕ) (found : List (Bor (List ℕ))) (text : Bor (List ℕ)) → slice_get (names lines) i ≡ Some name → IsUtf8 name → text.now ≡ name
    → Named lines i found → Named lines (i + 1) (found ++ text ∷ [])
named_next lines i name found text at utf8 same before =
    let more : take (i + 1) (names lines) ≡ take i (names lines) ++ name ∷ [] = up_to (names lines) i name at in
    record {
      are = map-append (λ (s : Bor (List ℕ)). s.now) found (text ∷ []) ∙ (λ k. before.are k ++ same k ∷ []) ∙ sym more;
      texts_are = subst (λ (z : List (List ℕ)). AllByRecursion IsUtf8 z) (sym more) (all_more IsUtf8 (take i (names lines)) name before.texts_are utf8);
    }

-- a name that isn't UTF-8
pub no_text : (lines : List Entry) (i : ℕ) (name : List ℕ) (found : List (Bor (List ℕ))) (old new : Told) (s : ArchiveStatus) → length lines ≤ MAX_NAMES
    → slice_get (names lines) i ≡ Some name → (IsUtf8 name → ⊥) → Named lines i found → Refuses name BadName old new s → NamesLines lines old new (Err s)
no_text lines i name found old new s few at bad before refused =
    NamesLines.no_text (take i (names lines)) (drop (i + 1) (names lines)) name s few (split_at (names lines) i name at) before.texts_are bad refused refl

-- one digest more
pub taken_next : (lines : List Entry) (i : ℕ) (digest : List ℕ) (found : List (List ℕ)) → slice_get (digests lines) i ≡ Some digest → length digest ≡ 32
    → Taken lines i found → Taken lines (i + 1) (found ++ digest ∷ [])
taken_next lines i digest found at long before = record {
  are = (λ k. before.are k ++ digest ∷ []) ∙ sym (up_to (digests lines) i digest at);
  long = all_more (λ (z : List ℕ). length z ≡ 32) found digest before.long long;
}

-- ---- leaves

pub are_hashes : (targets : List Target) → AreHashes (leaves targets)
are_hashes [] = tt
are_hashes (t ∷ targets) = (length_of_hashed Sha256 (t.digest ++ t.nonce), are_hashes targets)

pub ok_hashes : {E : Type 0} (targets : List Target) (items : List (List ℕ)) (r : Result (List (List ℕ)) E) → items ≡ leaves targets → IfOk r (λ ways. ways ≡ items) → IfOk r AreHashes
ok_hashes targets items (Ok ways) same is = subst AreHashes (sym (is ∙ same)) (are_hashes targets)
ok_hashes targets items (Err e) same is = tt
