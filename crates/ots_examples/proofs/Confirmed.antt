-- A proof of one path, and a table of one header.
use Rattle.std.proofs.Common.{◌≡◌, ℕ, ◌≤◌, Bool, true, false, cond, List, [], ◌∷◌, length, refl, sym, ap, subst, ◌∙◌, arith}
use Rattle.std.specs.Prelude.{Contains, Some, None, find, is_some}
use Rattle.std.proofs.lemmas.Bool.{le-ltb}
use Rattle.std.proofs.Math.Nat.{sub_self}
use Rattle.sha2.specs.Sha256.{sha256}
use Rattle.sha2.proofs.Facts256.{length-sha256}
use Rattle.ots_calendar.specs.Cycle.{IsCycle}
use Rattle.ots_examples.specs.OneHeader.{table}
use Rattle.ots_examples.specs.OneRound.{OneRound, Fits, anchor, entries, transaction}
use Rattle.ots_examples.proofs.Cycle.{are_these}
use Rattle.ots_headers.specs.HeaderTable.{IsTable, root_at}
use Rattle.ots_ops.specs.Value.{value}
use Rattle.ots_ops.specs.declared.hash_op.HashOp.TheVariants as hash
use Rattle.ots_ops.proofs.AppliedLength.{length_of_applied}
use Rattle.ots_stamp.specs.declared.target.Target.{Target}
use Rattle.ots_stamp.proofs.Founded.{lengths}
use Rattle.ots_store.specs.Order.{anchors_of, covers, records_of}
use Rattle.ots_store.specs.Records.{Record}
use Rattle.ots_store.specs.declared.anchor.Anchor.{Anchor}
use Rattle.ots_tree.specs.Made.{lone}
use Rattle.ots_tree.specs.Sound.{IsSoundPre}
use Rattle.ots_tree.specs.Wire.{Node, Path, paths, pre}
use Rattle.ots_tree.specs.declared.detached.Detached.{Detached}
use Rattle.ots_tree.specs.declared.token.Token.{Token}
use Rattle.ots_tree.proofs.MadePaths.{paths-lone, sound_lone}

-- ---- a proof of this path alone

alone_in : (p : Path) (ps : List Path) → ps ≡ p ∷ [] → Contains ps p
alone_in p ps are = subst (λ (l : List Path). Contains l p) (sym are) (0, omega arith, refl)

module _ (t : Target) (p : Path) (root : List ℕ) (leads : value p.ops t.digest ≡ Some root) (few : length p.ops ≤ 223) where
  sound : IsSoundPre (length t.digest) 0 (pre (lone p.ops p.end))
  sound = (sound_lone (length t.digest) 0 p.ops p.end).1 (record {
    short = omega (arith, few);
    has_result = ap is_some (lengths length_of_applied p.ops t.digest root leads);
  })

  pub lone_proof : (proof : Detached) × (node : Node) × (proof.digest ≡ t.digest) × (pre node ≡ proof.tree) × Contains (paths node) p
  lone_proof = (
    record { hash = hash.Sha256; digest = t.digest; tree = pre (lone p.ops p.end); digest_of_hash = t.is_sha256; tree_sound = ∣ sound ∣₁ },
    lone p.ops p.end,
    refl,
    refl,
    alone_in p (paths (lone p.ops p.end)) (paths-lone p.ops p.end),
  )

-- ---- the anchor, and its header

only_one : (b : Bool) (x y : Anchor) → cond b (Some x) None ≡ Some y → y ≡ x
only_one true x y is = cc
only_one false x y is = absurd (cc)

module _ (r : OneRound) where
  pub is_anchored : (digest uri commitment : List ℕ) (stamped completed : List Token) (c : IsCycle (records_of (entries r)) digest uri commitment stamped completed) → Fits r → c.anchor ≡ anchor r
  is_anchored digest uri commitment stamped completed c fits =
      only_one (covers c.index (anchor r)) (anchor r) c.anchor (ap (λ (l : List Record). find (covers c.index) (anchors_of l)) (sym (are_these r fits)) ∙ c.anchor_is)

  pub is_table : Fits r → IsTable (table r)
  is_table fits = record {
    first = omega (arith, fits.height);
    headers = (
      record {
        version = omega arith;
        previous = refl;
        root = length-sha256 (sha256 (transaction r));
        time = omega arith;
        bits = omega arith;
        nonce = omega arith;
      },
      tt,
    );
    some = omega arith;
    at_most = omega arith;
  }

  pub has_root : root_at (table r) (anchor r).height ≡ Some (anchor r).root
  has_root = rw (le-ltb r.height r.height (omega arith), sub_self r.height) refl
