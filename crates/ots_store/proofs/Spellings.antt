-- What is read of a record's spelling is the record.
use Rattle.std.proofs.Common.{◌≡◌, ◌<◌, ◌^◌, ℕ, List, [], ◌∷◌, ◌++◌, length, take, drop, refl, sym, ◌∙◌, ap, subst, arith}
use Rattle.std.proofs.lemmas.List.{take_at, drop_at}
use Rattle.std.proofs.lemmas.Nat.{from_be_bytes-to_be_bytes_2, from_be_bytes-to_be_bytes_8}
use Rattle.std.specs.List.{flat_map, AllByRecursion}
use Rattle.ots_merkle.specs.declared.branch.Side.{Side}
use Rattle.ots_merkle.specs.declared.branch.Side.TheVariants.{Left, Right}
use Rattle.ots_store.specs.declared.anchor.Anchor.{Anchor}
use Rattle.ots_store.specs.declared.tip.Tip.{Tip}
use Rattle.ots_store.specs.Records.{Record, CommitRecord, TipRecord, AnchorRecord, tip_payload, sized, side_byte, step_bytes, branch_bytes, anchor_rest, anchor_payload, entry_of, FitsTip, HasHash, FitsAnchor, HasForm, tip_at, short, part, after, side_at, steps_at, branch_at, anchor_at, record_of, IsRecord}

pub tip_read : (tip : Tip) → FitsTip tip → tip_at (tip_payload tip) ≡ tip
tip_read tip fits = rw (from_be_bytes-to_be_bytes_8 tip.first fits.first, from_be_bytes-to_be_bytes_8 tip.count fits.count) refl

pub short_read : (bytes rest : List ℕ) → length bytes < 2 ^ 16 → short (sized bytes ++ rest) ≡ length bytes
short_read bytes rest lt = from_be_bytes-to_be_bytes_2 (length bytes) lt

pub part_read : (bytes rest : List ℕ) → length bytes < 2 ^ 16 → part (sized bytes ++ rest) ≡ bytes
part_read bytes rest lt = ap (λ (n : ℕ). take n (bytes ++ rest)) (short_read bytes rest lt) ∙ take_at bytes rest (length bytes) refl

pub after_read : (bytes rest : List ℕ) → length bytes < 2 ^ 16 → after (sized bytes ++ rest) ≡ rest
after_read bytes rest lt = ap (λ (n : ℕ). drop n (bytes ++ rest)) (short_read bytes rest lt) ∙ drop_at bytes rest (length bytes) refl

pub side_read : (side : Side) (rest : List ℕ) → side_at (side_byte side ∷ rest) ≡ side
side_read Left rest = refl
side_read Right rest = refl

pub steps_read : (branch : List (Side × List ℕ)) → AllByRecursion HasHash branch → steps_at (length branch) (flat_map step_bytes branch) ≡ branch
steps_read [] fit = refl
steps_read (step ∷ steps) fit =
    let rest = flat_map step_bytes steps in
    rw (side_read step.0 (step.1 ++ rest), take_at step.1 rest 32 fit.0, drop_at step.1 rest 32 fit.0, steps_read steps fit.1) refl

pub branch_read : (branch : List (Side × List ℕ)) → AllByRecursion HasHash branch → branch_at (branch_bytes branch) ≡ branch
branch_read branch fit = steps_read branch fit

pub rest_read : (anchor : Anchor) → FitsAnchor anchor → drop 56 (anchor_payload anchor) ≡ anchor_rest anchor
rest_read anchor fits = drop_at anchor.root (anchor_rest anchor) 32 fits.root

pub anchor_read : (anchor : Anchor) → FitsAnchor anchor → anchor_at (anchor_payload anchor) ≡ anchor
anchor_read anchor fits =
    let message = fits.message in
    let after_prefix = sized anchor.suffix ++ branch_bytes anchor.branch in
    let first = from_be_bytes-to_be_bytes_8 anchor.first fits.first in
    let count = from_be_bytes-to_be_bytes_8 anchor.count fits.count in
    let height = from_be_bytes-to_be_bytes_8 anchor.height (omega (arith, fits.height)) in
    let root = take_at anchor.root (anchor_rest anchor) 32 fits.root in
    let rest = rest_read anchor fits in
    let prefix = part_read anchor.prefix after_prefix (omega arith) in
    let suffix_there = after_read anchor.prefix after_prefix (omega arith) in
    let suffix = part_read anchor.suffix (branch_bytes anchor.branch) (omega arith) in
    let branch_there = after_read anchor.suffix (branch_bytes anchor.branch) (omega arith) in
    rw (first, count, height, root, rest, suffix_there, prefix, suffix, branch_there, branch_read anchor.branch fits.hashes) refl

-- A record is read of its spelling, so its spelling determines it.
pub record_read : (r : Record) → HasForm r → record_of (entry_of r) ≡ r
record_read (CommitRecord commitment) fits = refl
record_read (TipRecord tip) fits = ap TipRecord (tip_read tip fits)
record_read (AnchorRecord anchor) fits = ap AnchorRecord (anchor_read anchor fits)

pub is_record : (r : Record) → HasForm r → IsRecord (entry_of r)
is_record r fits = record {
  spelled = ap entry_of (sym (record_read r fits));
  form = subst HasForm (sym (record_read r fits)) fits;
}
