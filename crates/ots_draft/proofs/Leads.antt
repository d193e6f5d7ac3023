-- Where the way of a file leads, and what waits at its end.
use Rattle.std.proofs.Common.{◌≡◌, ◌∙◌, ◌<◌, ◌≤◌, ◌+◌, ℕ, zero, suc, Bool, true, false, cond, List, [], ◌∷◌, ◌++◌, length, map, take, get_or, Option, None, Some, refl, sym, ap, subst, arith, append-nil, length-append}
use Rattle.std.specs.Prelude.{IsSome, option_and_then}
use Rattle.std.specs.List.{AllByRecursion, slice_get}
use Rattle.std.proofs.lemmas.List.{map-append, take_more}
use Rattle.std.proofs.lemmas.Option.{get_or_from_slice_get, slice_get_within}
use Rattle.sha2.specs.Sha256.{sha256}
use Rattle.sha2.proofs.Facts256.{length-sha256}
use Rattle.ots_attest.specs.declared.attestation.Attestation.TheVariants.{Pending}
use Rattle.ots_calendar_url.specs.CalendarUrl.{Url, text_of}
use Rattle.ots_canon.proofs.Joins.{sound_tree}
use Rattle.ots_canon.specs.Canonical.{IsCanonOf, IsCanonTree}
use Rattle.ots_draft.proofs.Founded.{long_after}
use Rattle.ots_draft.proofs.Lists.{all_same}
use Rattle.ots_draft.specs.Draft.{AreAddresses, IsDraft, IsDraftOf, Waits, post_uri, waiting}
use Rattle.ots_draft.specs.inner.Gathering.{HasPaths, HasPathsAny}
use Rattle.ots_merkle.proofs.PathLaws.{path_leads}
use Rattle.ots_merkle.specs.CalendarTree.{path, root, root_within}
use Rattle.ots_merkle.specs.Hashes.{AreHashes}
use Rattle.ots_ops.specs.Apply.{apply}
use Rattle.ots_ops.specs.Value.{value}
use Rattle.ots_ops.specs.declared.op.Op.{Op}
use Rattle.ots_ops.specs.declared.op.Op.TheVariants.{Append, Sha256}
use Rattle.ots_stamp.specs.Stamped.{leaf}
use Rattle.ots_stamp.specs.Ways.{IsDepth, way_from}
use Rattle.ots_stamp.specs.declared.target.Target.{Target}
use Rattle.ots_tree.proofs.Determined.{same_pre}
use Rattle.ots_tree.specs.Made.{after}
use Rattle.ots_tree.specs.Sound.{IsSoundPath, IsSoundPre, length_after}
use Rattle.ots_tree.specs.Wire.{Path, paths, pre}
use Rattle.ots_tree.specs.declared.detached.Detached.{Detached}
use Rattle.ots_tree.specs.declared.token.Token.{Token}

-- ---- a root has 32 bytes

length_chosen : (which : Bool) (x y : List ℕ) → length x ≡ 32 → length y ≡ 32 → length (cond which x y) ≡ 32
length_chosen true x y lx ly = lx
length_chosen false x y lx ly = ly

first_hash : (hashes : List (List ℕ)) → AreHashes hashes → 0 < length hashes → length (get_or hashes 0 []) ≡ 32
first_hash [] are some = absurd (omega arith)
first_hash (hash ∷ hashes) are some = are.0

length_within : (h : ℕ) (hashes : List (List ℕ)) → AreHashes hashes → 0 < length hashes → length (root_within h hashes) ≡ 32
unfolding root_within
length_within zero hashes are some = first_hash hashes are some
length_within (suc h) hashes are some = length_chosen _ _ _ (length_within h hashes are some) (length-sha256 _)

length_root : (hashes : List (List ℕ)) → AreHashes hashes → 0 < length hashes → length (root hashes) ≡ 32
unfolding root
length_root hashes are some = length_within (length hashes) hashes are some

-- ---- the way

append_nonce : (digest nonce : List ℕ) → length digest ≡ 32 → length nonce ≡ 16 → apply (Append nonce) digest ≡ Some (digest ++ nonce)
append_nonce digest nonce ld ln = rw (ld, ln) refl

hash_both : (m : List ℕ) → length m ≡ 48 → apply Sha256 m ≡ Some (sha256 m)
hash_both m lm = rw lm refl

-- it leads from the file's digest to the root
pub way_leads : (leaves : List (List ℕ)) (i : ℕ) (t : Target) → AreHashes leaves → slice_get leaves i ≡ Some (leaf t)
    → value (way_from leaves i t.nonce) t.digest ≡ Some (root leaves)
way_leads leaves i t are at =
    let both : length (t.digest ++ t.nonce) ≡ 48 = omega (arith, length-append t.digest t.nonce, t.is_sha256, t.is_nonce) in
    ap (option_and_then (value (Sha256 ∷ path leaves i))) (append_nonce t.digest t.nonce t.is_sha256 t.is_nonce)
    ∙ ap (option_and_then (value (path leaves i))) (hash_both (t.digest ++ t.nonce) both)
    ∙ ap (value (path leaves i)) (sym (get_or_from_slice_get leaves i (leaf t) [] at))
    ∙ path_leads leaves i are (slice_get_within leaves i (leaf t) at)

-- ---- what waits at its end

pub all_wait : (ops : List Op) (addresses : List (List ℕ)) → AreAddresses addresses → AllByRecursion (Waits ops) (waiting ops addresses)
all_wait ops [] all = tt
all_wait ops (address ∷ addresses) all = (
  record { same = refl; uri = post_uri address; pending = refl; address = address; post = record { is = refl; scheme = all.0.0; url = all.0.1 } },
  all_wait ops addresses all.1,
)

pub is_draft : (leaves : List (List ℕ)) (i : ℕ) (t : Target) (addresses : List (List ℕ)) (proof : Detached) → AreHashes leaves
    → slice_get leaves i ≡ Some (leaf t) → 1 ≤ length addresses → AreAddresses addresses → IsDraftOf leaves i t addresses proof
    → IsDraft proof (way_from leaves i t.nonce)
is_draft leaves i t addresses proof are at some urls draft =
    let ops = way_from leaves i t.nonce in
    let f = draft.form in
    let within = slice_get_within leaves i (leaf t) at in
    record {
      node = f.node;
      are = f.are;
      wait = subst (AllByRecursion (Waits ops)) (sym f.is_tree.same)
          (all_same (Waits ops) (waiting ops addresses) f.sorted f.is_canon.same (all_wait ops addresses urls));
      message = root leaves;
      reached = ap (value ops) draft.digest ∙ way_leads leaves i t are at;
      hash_long = length_root leaves are (omega (arith, within));
    }

pub after_waiting : (ops : List Op) (addresses : List (List ℕ)) → map (after ops) (waiting [] addresses) ≡ waiting ops addresses
after_waiting ops [] = refl
after_waiting ops (address ∷ addresses) =
    λ i. record { ops = append-nil ops i; end = Pending (post_uri address) } ∷ after_waiting ops addresses i

pub form_of_paths : (ps : List Path) (tree form : List Token) → HasPaths ps tree → IsCanonOf tree form → IsCanonTree ps form
form_of_paths ps tree form has canon =
    subst (λ (qs : List Path). IsCanonTree qs form) (ap paths (same_pre canon.node has.node (canon.are ∙ sym has.are)) ∙ has.paths_are) canon.form

-- each path of a draft is sound
sound_waiting : (n : ℕ) (ops : List Op) (addresses : List (List ℕ)) → length ops + 0 ≤ 255 → IsSome (length_after ops n)
    → AllByRecursion (IsSoundPath n 0) (waiting ops addresses)
sound_waiting n ops [] short some = tt
sound_waiting n ops (address ∷ addresses) short some = (record { short = short; has_result = some }, sound_waiting n ops addresses short some)

pub draft_sound : (leaves : List (List ℕ)) (i : ℕ) (t : Target) (addresses : List (List ℕ)) (tree : List Token) (depth : ℕ) → AreHashes leaves
    → slice_get leaves i ≡ Some (leaf t) → IsDepth leaves depth → depth ≤ 66 → IsCanonTree (waiting (way_from leaves i t.nonce) addresses) tree
    → IsSoundPre (length t.digest) 0 tree
draft_sound leaves i t addresses tree depth are at deepest most canon =
    let ops = way_from leaves i t.nonce in
    let high = deepest.most i (slice_get_within leaves i (leaf t) at) in
    let short : length ops + 0 ≤ 255 = omega (arith, high, most) in
    let reached = long_after ops t.digest (root leaves) (way_leads leaves i t are at) in
    sound_tree (length t.digest) 0 (waiting ops addresses) tree (sound_waiting (length t.digest) ops addresses short (subst IsSome (sym reached) refl)) canon

-- ---- one URL more

pub more_waiting : (urls : List Url) (i : ℕ) (url : Url) → i < length urls → url ≡ get_or urls i url
    → waiting [] (map text_of (take (i + 1) urls)) ≡ waiting [] (map text_of (take i urls)) ++ waiting [] (text_of url ∷ [])
more_waiting urls i url less is =
    ap (λ (us : List Url). waiting [] (map text_of us)) (take_more urls i url less ∙ ap (λ (u : Url). take i urls ++ u ∷ []) (sym is))
    ∙ ap (waiting []) (map-append text_of (take i urls) (url ∷ []))
    ∙ map-append (λ (address : List ℕ). record { ops = []; end = Pending (post_uri address) }) (map text_of (take i urls)) (text_of url ∷ [])

pub some_paths : (urls : List Url) (o : Option (List Token)) → HasPathsAny (waiting [] (map text_of urls)) o → 1 ≤ length urls → IsSome o
some_paths [] o is some = absurd (omega arith)
some_paths (url ∷ urls) None is some = absurd cc
some_paths (url ∷ urls) (Some tree) is some = refl
