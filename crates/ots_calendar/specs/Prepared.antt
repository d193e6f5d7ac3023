-- The answer that is prepared: what was found of a commitment, before those beside it are hashed.
use Rattle.std.specs.Prelude.{List, ◌+◌, ◌≤◌, length}
use Rattle.ots_anchor.specs.Path.{complete_way}
use Rattle.ots_attest.specs.declared.attestation.Attestation.TheVariants.{Bitcoin}
use Rattle.ots_base.specs.declared.limits.TheConstants.{MAX_MESSAGE}
use Rattle.ots_tree.specs.Made.{lone}
use Rattle.ots_tree.specs.Wire.{pre}
use Rattle.ots_tree.specs.declared.token.Token.{Token}
use Rattle.ots_calendar.specs.declared.answer.Answer.{Answer}
use Rattle.ots_calendar.specs.declared.answer.Answer.TheVariants as answer
use Rattle.ots_calendar.specs.declared.prepared.Covered.{Covered}
use Rattle.ots_calendar.specs.declared.prepared.Found.{Found}
use Rattle.ots_calendar.specs.declared.prepared.Found.TheVariants as found

-- the tree of the one path to the root of the anchor's block
abbrev pub tree_in : Covered → List Token
tree_in c = pre (lone (complete_way c.way c.prefix c.suffix c.branch) (Bitcoin c.height))

abbrev pub answer_in : Found → Answer
answer_in (found.Covered c) = answer.Complete (tree_in c)
answer_in found.Pending = answer.Pending
answer_in found.Unknown = answer.Unknown

-- Between prefix and suffix a root makes no more than a message.
abbrev pub IsMessage : Found → Type 0
IsMessage (found.Covered c) = length c.prefix + 32 + length c.suffix ≤ MAX_MESSAGE
IsMessage found.Pending = Unit {0}
IsMessage found.Unknown = Unit {0}
