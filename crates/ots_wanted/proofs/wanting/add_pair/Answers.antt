use Rattle.std.proofs.Common.{arith}
use Rattle.std.proofs.lemmas.List.{length-map}
use Rattle.std.proofs.lemmas.Option.{slice_get_within}
use Rattle.ots_wanted.specs.Wanted.{texts_of}
use Rattle.ots_wanted.proofs.Taking.{added_pair, other_pair, past_pair}
use Rattle.ots_calendar_url.specs.CalendarUrl.{text_of}
use Rattle.ots_wanted.proofs.wanting.add_pair.Goals as goal

pub returns-in_default-clause-takes : goal.returns-in_default-clause-takes
returns-in_default-clause-takes c = other_pair c.args.set.now c.args.kind c.args.uri.now c.args.message.now c.address_of.result.now c.address_of.ensures c.in_default.ensures.none

pub add-requires-clause-place : goal.add-requires-clause-place
add-requires-clause-place c =
    omega (arith, slice_get_within (texts_of c.args.set.now) c.in-Some.place c.address_of.result.now c.in-Some.ensures.some, length-map c.args.set.now.urls text_of)

pub returns-in_ok-add-clause-takes : goal.returns-in_ok-add-clause-takes
returns-in_ok-add-clause-takes c =
    added_pair c.args.set.now c.add.new.self c.args.kind c.args.uri.now c.args.message.now c.address_of.result.now c.in-Some.place c.address_of.ensures c.in-Some.ensures.some
    (c.is_within.ensures.0 c.if-is_within.true) c.in_ok-add.ensures.added

pub returns-else-is_within-clause-takes : goal.returns-else-is_within-clause-takes
returns-else-is_within-clause-takes c =
    past_pair c.args.set.now c.args.kind c.args.uri.now c.args.message.now c.address_of.result.now c.in-Some.place c.address_of.ensures c.in-Some.ensures.some
    (λ within. let fits = c.is_within.ensures.1 within in let past = c.if-is_within.false in absurd cc)
