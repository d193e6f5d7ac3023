-- How long the message is that operations make.
use Rattle.std.proofs.Common.{◌≡◌, ◌∙◌, ℕ, Bool, true, false, cond, List, [], ◌∷◌, length, Option, None, Some, refl, sym, ap, subst}
use Rattle.std.specs.Prelude.{option_and_then, option_map}
use Rattle.ots_ops.proofs.AppliedLength.{length_of_applied}
use Rattle.ots_ops.specs.Apply.{applied}
use Rattle.ots_ops.specs.ResultLength.{len, made}
use Rattle.ots_ops.specs.Value.{value}
use Rattle.ots_ops.specs.declared.op.Op.{Op}
use Rattle.ots_tree.specs.Sound.{length_after}

pub record IsReached (ops : List Op) (m : List ℕ) (n : ℕ) : Type 0 where
  pub message : List ℕ
  pub reached : value ops m ≡ Some message
  pub long : length message ≡ n

is_made : (b : Bool) (n r : ℕ) → cond b (Some n) None ≡ Some r → r ≡ n
is_made false n r e = absurd cc
is_made true n r e = cc

reached_by_first : (o : Op) (ops : List Op) (m : List ℕ) (n : ℕ) (x : Option ℕ) → len o (length m) ≡ x
    → ((r : List ℕ) → length_after ops (length r) ≡ Some n → IsReached ops r n) → option_and_then (length_after ops) x ≡ Some n → IsReached (o ∷ ops) m n
reached_by_first o ops m n None e others after = absurd cc
reached_by_first o ops m n (Some k) e others after =
    let long : k ≡ length (applied o m) = is_made _ (made o (length m)) k e ∙ sym (length_of_applied o m) in
    let rest = others (applied o m) (subst (λ (z : ℕ). length_after ops z ≡ Some n) long after) in
    record {
      message = rest.message;
      reached = ap (λ (x : Option ℕ). option_and_then (value ops) (option_map (λ n. applied o m) x)) e ∙ rest.reached;
      long = rest.long;
    }

pub reached_by : (ops : List Op) (m : List ℕ) (n : ℕ) → length_after ops (length m) ≡ Some n → IsReached ops m n
reached_by [] m n is = record { message = m; reached = refl; long = cc }
reached_by (o ∷ ops) m n is = reached_by_first o ops m n (len o (length m)) refl (λ r. reached_by ops r n) is

-- ---- and the other way round

long_first : (o : Op) (ops : List Op) (m r : List ℕ) (x : Option ℕ) → len o (length m) ≡ x
    → ((y : List ℕ) → value ops y ≡ Some r → length_after ops (length y) ≡ Some (length r))
    → option_and_then (value ops) (option_map (λ n. applied o m) x) ≡ Some r → option_and_then (length_after ops) x ≡ Some (length r)
long_first o ops m r None e others is = absurd cc
long_first o ops m r (Some n) e others is =
    subst (λ (z : ℕ). length_after ops z ≡ Some (length r)) (length_of_applied o m ∙ sym (is_made _ (made o (length m)) n e)) (others (applied o m) is)

pub long_after : (ops : List Op) (m r : List ℕ) → value ops m ≡ Some r → length_after ops (length m) ≡ Some (length r)
long_after [] m r is = ap (option_map length) is
long_after (o ∷ ops) m r is = long_first o ops m r (len o (length m)) refl (λ y. long_after ops y r) is
