-- What is made of a proof and the trees at some of their places is no longer than its completed tree.
use Rattle.std.proofs.Common.{◌≡◌, ◌<◌, ℕ, List, length, map, Option, None, Some, arith}
use Rattle.std.specs.Prelude.{option_map, IsTrue}
use Rattle.std.specs.List.{AllByRecursion}
use Rattle.ots_tree.specs.declared.token.Token.{Token}
use Rattle.ots_tree.specs.declared.detached.Detached.{Detached}
use Rattle.ots_tree.specs.Sound.{IsSoundPre}
use Rattle.ots_tree.specs.Wire.{Node, paths, pre, spelled, IsToken}
use Rattle.ots_canon.specs.Canonical.{IsCanonOf}
use Rattle.ots_pending.specs.Parts.{IsFormOfPart, IsSoundlyCompleted}
use Rattle.ots_pending.specs.Pairs.{PairAt, ArePairs}
use Rattle.ots_pending.specs.Completed.{AreSoundFor, IsCompleted, IsCompletedWithin, IsToldWithin}
use Rattle.ots_pending.specs.Limits.{HaveLimits}
use Rattle.ots_pending.specs.declared.completing.Part.{Part}
use Rattle.ots_pending.proofs.Completion.{part_is_within, whole_is_completed}
use Rattle.ots_pending.proofs.Existing.{completed_exists}
use Rattle.ots_pending.proofs.Shorter.{shorter}
use Rattle.ots_pending.proofs.SoundTrees.{completed_sound}

module _ (proof : Detached) (pairs : List PairAt) (trees : List (Option (List Token))) (pairs_are : ArePairs proof pairs) (sound : AreSoundFor pairs trees)
    (tree_sound : IsSoundPre (length proof.digest) 0 proof.tree) where
  pub soundly : (made : List Token) → IsCompleted proof pairs trees made → IsSoundlyCompleted proof pairs trees made
  soundly made h = record { completed = h; sound = completed_sound proof pairs trees made pairs_are sound tree_sound h }

  -- no completed tree is as short
  pub all_too_long : (form : List Token) (given : List (Option Node)) (most : ℕ) → IsCanonOf proof.tree form → map (option_map pre) given ≡ trees → HaveLimits trees → AllByRecursion IsToken proof.tree
      → ((made : List Token) → IsCompleted proof pairs trees made → most < length (spelled made)) → IsCompletedWithin proof pairs trees most None
  all_too_long form given most canon given_are limits within long =
      let all = completed_exists pairs trees given (Some proof.digest) canon.node proof.tree given_are canon.are limits within in
      let completed : IsCompleted proof pairs trees all.0 = record { node = canon.node; tree = canon.are; given = given; given_are = given_are; form = all.1 } in
      let s = soundly all.0 completed in
      record { made = all.0; completed = completed; sound = s.sound; told = long all.0 completed }

  module _ (given : List (Option Node)) (form : List Token) (part : Part) (given_are : map (option_map pre) given ≡ trees) (canon : IsCanonOf proof.tree form)
      (h : IsFormOfPart pairs given (Some proof.digest) form part) where
    -- a part that is too long
    pub too_long : (most : ℕ) → HaveLimits trees → AllByRecursion IsToken proof.tree → most < length (spelled part.tree) → IsCompletedWithin proof pairs trees most None
    too_long most limits within long =
        let all = completed_exists pairs trees given (Some proof.digest) canon.node proof.tree given_are canon.are limits within in
        let completed : IsCompleted proof pairs trees all.0 = record { node = canon.node; tree = canon.are; given = given; given_are = given_are; form = all.1 } in
        let s = soundly all.0 completed in
        let less = shorter (paths h.is.made) _ part.tree all.0 h.canonical all.1 (part_is_within proof pairs trees given form given_are canon part h) in
        record { made = all.0; completed = completed; sound = s.sound; told = (let l = long in omega arith) }

    -- the last part
    pub told_whole : (most : ℕ) (result : Option (List Token)) → IsTrue part.is_whole → IsToldWithin most part.tree result → IsCompletedWithin proof pairs trees most result
    told_whole most result whole told =
        let s = soundly part.tree (whole_is_completed proof pairs trees given form given_are canon part h whole) in
        record { made = part.tree; completed = s.completed; sound = s.sound; told = told }

-- a completed tree is told
pub told_completed : (proof : Detached) (pairs : List PairAt) (trees : List (Option (List Token))) (most : ℕ) (made : List Token) (result : Option (List Token))
    → IsCompleted proof pairs trees made → IsSoundPre (length proof.digest) 0 made → IsToldWithin most made result → IsCompletedWithin proof pairs trees most result
told_completed proof pairs trees most made result completed sound told = record { made = made; completed = completed; sound = sound; told = told }
