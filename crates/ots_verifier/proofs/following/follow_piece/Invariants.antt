use Rattle.std.proofs.Common.{◌≡◌, ℕ, List, ◌-◌, length}
use Rattle.std.specs.Option.{option_copied}
use Rattle.ots_verifier.specs.Following.{Follows, reserved_by}
use Rattle.ots_verifier.proofs.OneToken.{IsFollowed}
use Rattle.ots_verifier.proofs.following.follow_piece.Given as goal

abbrev pub invariant-loop-next : goal.invariant-loop-next
invariant-loop-next l = ((digest : List ℕ) → Follows l.bitcoin (option_copied l.litecoin) digest l.fn.following.reader l.fn.following.messages.position l.fn.following.best
    → IsFollowed l.bitcoin (option_copied l.litecoin) digest l.fn.following.reader l.piece l.following.reader l.following.messages.position l.following.best l.at) × (reserved_by l.following ≡ reserved_by l.fn.following)

abbrev pub decreases-loop-next : goal.decreases-loop-next
decreases-loop-next l = length l.piece - l.at
