use Rattle.std.proofs.Common.{refl, arith}
use Rattle.ots_wanted.proofs.Few.{few_skipped}
use Rattle.ots_wanted.specs.Wanted.{texts_of}
use Rattle.ots_archive_ask.proofs.gathering.add_proof.Goals as goal

pub overflow_add-gathered : goal.overflow_add-gathered
overflow_add-gathered c =
    let takes = c.in_ok-skipped.ensures.takes in
    let file = c.requires.file in
    let room = c.requires.room in
    let few = few_skipped (texts_of c.args.gathered.now.set) c.args.all c.args.proof.now takes.wanted c.in_ok-skipped.skipped file.0 takes.wants file.1 in
    omega (arith, few, room)

pub returns-clause-few : goal.returns-clause-few
returns-clause-few c =
    let takes = c.in_ok-skipped.ensures.takes in
    let file = c.requires.file in
    let few = few_skipped (texts_of c.args.gathered.now.set) c.args.all c.args.proof.now takes.wanted c.in_ok-skipped.skipped file.0 takes.wants file.1 in
    omega (arith, few)

pub returns-clause-adds : goal.returns-clause-adds
returns-clause-adds c = record {
  few = c.in_ok-skipped.skipped;
  takes = c.in_ok-skipped.ensures.takes;
  skipped = refl;
  status = refl;
}
