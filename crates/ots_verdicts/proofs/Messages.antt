-- A walk with the messages before the tokens that are left.
use Rattle.std.proofs.Common.{◌≡◌, ℕ, ◌+◌, ◌<◌, ◌≤◌, Bool, List, length, get_or, drop, Option, Some, refl, sym, ap, ◌∙◌}
use Rattle.std.proofs.lemmas.List.{drop_all}
use Rattle.ots_tree.specs.declared.token.Token.{Token}
use Rattle.ots_tree.specs.Wire.{IsPre}
use Rattle.ots_tree.specs.Walk.{Open, met, Position, begun, open_at, IsStep, Ends}
use Rattle.ots_tree.proofs.Walks.{tree_ends, moves_at}
use Rattle.ots_headers.specs.HeaderTable.{Table}
use Rattle.ots_verdicts.specs.declared.best.Best.{Best}
use Rattle.ots_verdicts.specs.Walked.{message_after, messages_by, messages, noted, walked, nothing}

-- the tokens that are left add what all add to nothing
pub record Left (bitcoin : Table) (litecoin : Option Table) (all b : Best) (s : Open (Option (List ℕ))) (ts : List Token) : Type 0 where
  pub adds : walked bitcoin litecoin b (met messages_by s ts) ≡ all
  pub ends : Ends messages_by s ts

pub all_left : (bitcoin : Table) (litecoin : Option Table) (digest : List ℕ) (b : Best) (s : Open (Option (List ℕ))) (ts : List Token) → b ≡ nothing → s ≡ begun (Some digest) → IsPre ts
    → Left bitcoin litecoin (walked bitcoin litecoin nothing (messages digest ts)) b s ts
all_left bitcoin litecoin digest b s ts none is tree = record { adds = rw (none, is) refl; ends = tree_ends message_after (Some digest) s ts is tree }

pub one_noted : (bitcoin : Table) (litecoin : Option Table) (all b c : Best) (w v : Position (Option (List ℕ))) (going : Bool) (ts : List Token) (i : ℕ) (x : Token) (m : Option (List ℕ))
    → i < length ts → x ≡ get_or ts i x → Left bitcoin litecoin all b (open_at w) (drop i ts) → c ≡ noted bitcoin litecoin x m b → m ≡ w.last → IsStep messages_by x w v going
    → Left bitcoin litecoin all c (open_at v) (drop (i + 1) ts)
one_noted bitcoin litecoin all b c w v going ts i x m low here h is last_is on =
    let n = moves_at messages_by w v going ts i x low here h.ends on in
    let added : c ≡ noted bitcoin litecoin x w.last b = is ∙ ap (λ (z : Option (List ℕ)). noted bitcoin litecoin x z b) last_is in
    record {
      adds =
          ap (λ (z : Best). walked bitcoin litecoin z (met messages_by (open_at v) (drop (i + 1) ts))) added
          ∙ ap (walked bitcoin litecoin b) (sym n.0) ∙ h.adds;
      ends = n.1;
    }

-- where no token is left
pub none_left : (bitcoin : Table) (litecoin : Option Table) (all b : Best) (s : Open (Option (List ℕ))) (ts : List Token) (n : ℕ) → length ts ≤ n → Left bitcoin litecoin all b s (drop n ts) → b ≡ all
none_left bitcoin litecoin all b s ts n over h = ap (λ (z : List Token). walked bitcoin litecoin b (met messages_by s z)) (sym (drop_all n ts over)) ∙ h.adds
