use Rattle.std.proofs.Common.{ℕ, List, Option, length, subst, sym}
use Rattle.ots_disk.specs.Disk.{Torn, Follows}
use Rattle.ots_file.specs.FileCalls.{images_told}
use Rattle.ots_file.specs.Told.{told_images}
use Rattle.ots_file.proofs.file_disk.FileDiskDisk.write_at.Goals as goal

pub returns-clause-torn : goal.returns-clause-torn
returns-clause-torn g c =
    subst (λ (f : Option (List ℕ)). Follows (Torn c.args.place (length c.args.piece.now)) (images_told g.F.FileCalls c.args.self.now.file) (told_images f (g.F.FileCalls.history c.write_of-answer.new.file)))
    (sym c.write_of-answer.ensures.leaves.kept) c.write_of-answer.ensures.grows.torn
