use Rattle.std.proofs.Common.{◌≡◌, ◌<◌, ◌∷◌, [], List, length, refl, sym, ap, subst, ◌∙◌, rules, arith}
use Rattle.ots_arguments.specs.Values.{texts}
use Rattle.ots_canon.proofs.SoundResults.{sound_canon}
use Rattle.ots_client_endings.specs.Ending.{prints}
use Rattle.ots_client_text.specs.Refusal.{refusal_text}
use Rattle.ots_client_text.specs.declared.status.Status.TheVariants.{Done, TooFew}
use Rattle.ots_client_endings.proofs.Finished.{acts_finish, both_finish, ending}
use Rattle.ots_stamping.specs.Answered.{EndsStamping, enough, too_few}
use Rattle.ots_stamping.specs.Stamp.{calendars_text, stamp_acts}
use Rattle.ots_stamp.specs.Stamped.{AreSoundBelow, GathersAny, IsGatheredBelow, good_trees}
use Rattle.ots_asking.specs.declared.outcome.Outcome.{Outcome}
use Rattle.ots_stamping.proofs.submitting.write_answers.Goals as goal
use Rattle.ots_stamping.proofs.submitting.write_answers.Goals.{in_default-via-in-Some+else-got-submission, in_default-via-in_default}

pub new-stamped-requires-clause-sound : goal.new-stamped-requires-clause-sound
new-stamped-requires-clause-sound g c =
    let sound = subst (IsGatheredBelow c.args.batch) c.in-Some.is
    (c.in_ok-good.ensures.below c.args.batch (subst (AreSoundBelow c.args.batch) (search rules) c.requires.sound)) in
    (sound.0, sound.1, sound_canon _ sound.0 _ _ sound.2 c.in_ok-form-in-Some.ensures)

pub returns-in_ok-form-in-Some-clause-finishes : goal.returns-in_ok-form-in-Some-clause-finishes
returns-in_ok-form-in-Some-clause-finishes g c =
    acts_finish (EndsStamping c.args.submission c.args.batch c.args.outcomes.items) Done
    (prints (calendars_text c.args.submission.calendars.items c.args.outcomes.items) ∷ stamp_acts c.args.batch (good_trees c.args.outcomes.items) 0 (texts c.args.submission.files.items))
    (enough (let is : c.deref-2.result.now ≡ c.args.outcomes.items = search rules in let count = c.count_good-got.ensures ∙ ap (λ (z : List Outcome). length (good_trees z)) is in omega (arith, count)) refl)
    c.make_stamps.ensures.sink.later (rw c.new-stamped.ensures at c.make_stamps.ensures.made)

pub returns-in_default-clause-finishes : goal.returns-in_default-clause-finishes
returns-in_default-clause-finishes g c =
    let is : c.deref-2.result.now ≡ c.args.outcomes.items = search rules in
    let count : c.count_good-got.result ≡ length (good_trees c.args.outcomes.items) = c.count_good-got.ensures ∙ ap (λ (z : List Outcome). length (good_trees z)) is in
    let few : length (good_trees c.args.outcomes.items) < c.args.submission.least = elim c.in_default.branch [
      | in_default-via-in-Some+else-got-submission w ↦ omega (arith, count, w.if-got-submission.false)
      | in_default-via-in_default w ↦
          let first : c.deref.result.now ≡ c.args.outcomes.items = search rules in
          let none = sym (ap (λ (z : List Outcome). length (good_trees z)) first) ∙ ap length (subst (GathersAny (good_trees c.deref.result.now)) w.in_default.is c.in_ok-good.ensures.gathered) in
          let some = c.args.submission.wanted in
          omega (arith, none, some)
    ] in
    both_finish (EndsStamping c.args.submission c.args.batch c.args.outcomes.items) (λ bytes. bytes ≡ calendars_text c.args.submission.calendars.items c.args.outcomes.items)
    (TooFew c.count_good-got.result c.args.submission.least) (refusal_text [] (TooFew c.count_good-got.result c.args.submission.least)) _ _
    (λ bytes same. too_few few (λ i. ending (TooFew (count i) c.args.submission.least) (prints (same i) ∷ prints (refusal_text [] (TooFew (count i) c.args.submission.least)) ∷ [])))
    c.refuse_after.ensures.sink.later c.refuse_after.ensures.printed
