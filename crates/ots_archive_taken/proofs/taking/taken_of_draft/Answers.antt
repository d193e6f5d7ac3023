use Rattle.std.proofs.Common.{◌≡◌, ap, arith, length}
use Rattle.ots_archive_taken.proofs.DraftPairs.{sound_good}
use Rattle.ots_archive_taken.proofs.Told.{draft_stamped, draft_told_big}
use Rattle.ots_archive_taken.specs.Taken.{few}
use Rattle.ots_archive_taken.specs.declared.taking.Taken.TheVariants.{TooFew}
use Rattle.ots_sheet.specs.declared.request.Kind.TheVariants.{Post}
use Rattle.ots_archive_taken.proofs.taking.taken_of_draft.Goals as goal

pub returns-then-len-least : goal.returns-then-len-least
returns-then-len-least c =
    few c.in_ok-trees.trees.items (record { pairs = c.in_ok-pairs.pairs; are = c.in_ok-pairs.ensures.pairs; good = c.in_ok-trees.ensures })
    (let test = c.if-len-least.true in let count = c.len.ensures in omega (arith, test, count))
    (let same : c.len-then-len-least.result ≡ length c.in_ok-trees.trees.items = omega arith in ap TooFew same)

pub proof_of_draft-requires-clause-sound : goal.proof_of_draft-requires-clause-sound
proof_of_draft-requires-clause-sound c =
    rw c.deref.ensures.value
    (sound_good c.args.replies.now Post c.args.proof.now c.args.ops.now c.in_ok-pairs.pairs c.in_ok-trees.trees.items c.requires.draft c.in_ok-pairs.ensures.pairs c.in_ok-trees.ensures)

pub returns-in-Some : goal.returns-in-Some
returns-in-Some c =
    draft_stamped c.args.replies.now c.args.proof.now c.args.ops.now c.args.least c.in_ok-trees.trees.items c.deref.result.now c.in_ok-made.field-0 c.in-Some.made c.stamped.result
    (record { pairs = c.in_ok-pairs.pairs; are = c.in_ok-pairs.ensures.pairs; good = c.in_ok-trees.ensures })
    (let test = c.if-len-least.false in let count = c.len.ensures in omega (arith, test, count)) c.deref.ensures.value c.in_ok-made.ensures c.in-Some.is c.stamped.ensures

pub returns : goal.returns
returns c =
    draft_told_big c.args.replies.now c.args.proof.now c.args.ops.now c.args.least c.in_ok-trees.trees.items c.deref.result.now c.in_ok-made.field-0
    (record { pairs = c.in_ok-pairs.pairs; are = c.in_ok-pairs.ensures.pairs; good = c.in_ok-trees.ensures })
    (let test = c.if-len-least.false in let count = c.len.ensures in omega (arith, test, count)) c.deref.ensures.value c.in_ok-made.ensures c.in-None.is
