use Rattle.std.proofs.Common.{sym, ap, ◌∙◌, arith}
use Rattle.std.proofs.lemmas.List.{take_more_set}
use Rattle.ots_tree.specs.Wire.{spell}
use Rattle.ots_calendar_text.proofs.Spelling.{prefix_of_chunk}
use Rattle.ots_calendar_text.proofs.lines.spell_token.Goals as goal

pub returns-in-Fork-clause-spelled : goal.returns-in-Fork-clause-spelled
returns-in-Fork-clause-spelled c = take_more_set c.args.room.now 0 255 (omega arith) ∙ ap spell (sym c.in-Fork.is)

pub returns-in-Some-clause-spelled : goal.returns-in-Some-clause-spelled
returns-in-Some-clause-spelled c =
    prefix_of_chunk _ c.spell_op.new.out _ _ _ c.spell_op.ensures.spelled c.spell_op.ensures.length ∙ ap spell (sym c.in-Op.is)

pub returns-in-Some-first_chunk_mut-clause-spelled : goal.returns-in-Some-first_chunk_mut-clause-spelled
returns-in-Some-first_chunk_mut-clause-spelled c =
    prefix_of_chunk _ c.spell_attestation.new.out _ _ _ c.spell_attestation.ensures.spelled c.spell_attestation.ensures.length
    ∙ ap spell (sym c.in-Attestation.is)
