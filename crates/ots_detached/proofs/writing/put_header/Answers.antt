use Rattle.std.proofs.Common.{◌≡◌, length, refl, arith, length-drop}
use borrow.Rule.Slice.PartMut.{post_of}
use Rattle.ots_detached.proofs.Written.{put_after}
use Rattle.ots_detached.specs.File.{magic}
use Rattle.ots_detached.proofs.writing.put_header.Goals as goal

pub returns-clause-prefix : goal.returns-clause-prefix
returns-clause-prefix c =
    let rest : length (post_of 0 31 c.args.out.now) ≡ 34 = omega (arith, length-drop 31 c.args.out.now, c.told-out) in
    put_after _ magic c.args.digest.now _ _ 1 _ _ _ c.copy_from_slice.ensures.after refl rest c.tag.ensures c.copy_from_slice-2.ensures.after refl
