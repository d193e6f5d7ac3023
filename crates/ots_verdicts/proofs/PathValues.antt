-- A walk over the tokens of a tree comes to the value of each path.
use Rattle.std.proofs.Common.{◌≡◌, ℕ, List, [], ◌∷◌, ◌++◌, map, Option, Some, None, refl, sym, ap, ◌∙◌}
use Rattle.std.specs.Prelude.{option_and_then}
use Rattle.std.specs.List.{flat_map}
use Rattle.std.proofs.lemmas.Grind.{flat_map-append}
use Rattle.std.proofs.lemmas.List.{map-append}
use Rattle.ots_ops.specs.Apply.{apply}
use Rattle.ots_ops.specs.declared.op.Op.{Op}
use Rattle.ots_attest.specs.declared.attestation.Attestation.{Attestation}
use Rattle.ots_tree.specs.declared.token.Token.{Token}
use Rattle.ots_tree.specs.declared.token.Token.TheVariants as token
use Rattle.ots_tree.specs.Wire.{Node, Item, last, more, attested, step, pre, Path, paths, paths_of_item, below}
use Rattle.ots_ops.specs.Value.{value}
use Rattle.ots_tree.specs.Walk.{Met}
use Rattle.ots_tree.proofs.Walks.{met_in, met_along, tree_met}
use Rattle.ots_verdicts.specs.Walked.{message_after, messages}

-- an attestation and the message that it stands on
pub record End : Type 0 where
  pub message : Option (List ℕ)
  pub attestation : Attestation

-- the ends that a walk comes to
abbrev pub end_at : Token → Option (List ℕ) → List End
end_at token.Fork m = []
end_at (token.Op o) m = []
end_at (token.Attestation a) m = record { message = m; attestation = a } ∷ []

abbrev pub ends : List (Met (Option (List ℕ))) → List End
ends ms = flat_map (λ m. end_at m.token m.carried) ms

-- the end of a path from a message
abbrev pub end_from : Option (List ℕ) → Path → End
end_from m p = record { message = option_and_then (value p.ops) m; attestation = p.end }

no_operation : (m : Option (List ℕ)) → m ≡ option_and_then (value []) m
no_operation None = refl
no_operation (Some x) = refl

first_operation : (o : Op) (ops : List Op) (m : Option (List ℕ)) → option_and_then (value ops) (option_and_then (apply o) m) ≡ option_and_then (value (o ∷ ops)) m
first_operation o ops None = refl
first_operation o ops (Some x) = refl

after : (o : Op) (m : Option (List ℕ)) (ps : List Path) → map (end_from (option_and_then (apply o) m)) ps ≡ map (end_from m) (map (below o) ps)
after o m [] = refl
after o m (p ∷ ps) =
    ap (λ (z : Option (List ℕ)). record { message = z; attestation = p.end } ∷ map (end_from (option_and_then (apply o) m)) ps) (first_operation o p.ops m)
    ∙ ap (λ (z : List End). end_from m (below o p) ∷ z) (after o m ps)

mutual
  node_ends : (t : Node) (m : Option (List ℕ)) → ends (met_in message_after m t) ≡ map (end_from m) (paths t)
  node_ends (last i) m = item_ends i m
  node_ends (more i t) m =
      flat_map-append (λ n. end_at n.token n.carried) (met_along message_after m i) (met_in message_after m t)
      ∙ ap (λ (z : List End). z ++ ends (met_in message_after m t)) (item_ends i m)
      ∙ ap (λ (z : List End). map (end_from m) (paths_of_item i) ++ z) (node_ends t m)
      ∙ sym (map-append (end_from m) (paths_of_item i) (paths t))

  item_ends : (i : Item) (m : Option (List ℕ)) → ends (met_along message_after m i) ≡ map (end_from m) (paths_of_item i)
  item_ends (attested a) m = ap (λ (z : Option (List ℕ)). record { message = z; attestation = a } ∷ []) (no_operation m)
  item_ends (step o t) m = node_ends t (message_after o m) ∙ after o m (paths t)

-- from the root
pub all_ends : (t : Node) (digest : List ℕ) → ends (messages digest (pre t)) ≡ map (end_from (Some digest)) (paths t)
all_ends t digest = ap ends (tree_met message_after t (Some digest)) ∙ node_ends t (Some digest)
