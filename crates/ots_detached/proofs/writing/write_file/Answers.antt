use Rattle.std.proofs.Common.{ap, ◌∙◌}
use Rattle.std.proofs.lemmas.Result.{on_ok_weaker}
use Rattle.ots_tree.specs.Wire.{spelled}
use Rattle.ots_detached.specs.File.{file_of, header}
use Rattle.ots_detached.proofs.Written.{whole_written, first_cut, second_cut}
use Rattle.ots_detached.proofs.writing.write_file.Goals as goal

pub returns-in_err-write_all-clause-prefix : goal.returns-in_err-write_all-clause-prefix
unfolding file_of
returns-in_err-write_all-clause-prefix g c =
    let p = c.args.proof.now in
    first_cut _ _ _ (header p.hash p.digest) (spelled p.tree)
    (c.put_header-length.ensures.prefix ∙ ap (header p.hash) c.bytes.ensures.bytes) c.in_err-write_all.ensures.prefix

pub returns-clause-whole : goal.returns-clause-whole
unfolding file_of
returns-clause-whole g c =
    let p = c.args.proof.now in
    on_ok_weaker _ (whole_written _ _ _ _ (header p.hash p.digest) (spelled p.tree)
    (c.put_header-length.ensures.prefix ∙ ap (header p.hash) c.bytes.ensures.bytes) c.in_ok-write_all.ensures.whole) c.spell_to.ensures.whole

pub returns-clause-prefix : goal.returns-clause-prefix
unfolding file_of
returns-clause-prefix g c =
    let p = c.args.proof.now in
    second_cut _ _ _ _ (header p.hash p.digest) (spelled p.tree)
    (c.put_header-length.ensures.prefix ∙ ap (header p.hash) c.bytes.ensures.bytes) c.in_ok-write_all.ensures.whole c.spell_to.ensures.prefix
