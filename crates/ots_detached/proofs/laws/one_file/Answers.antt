use Rattle.std.proofs.Common.{List, ℕ, [], ◌++◌, ap}
use Rattle.ots_detached.proofs.Files.{file_apart}
use Rattle.ots_detached.proofs.laws.one_file.Goals as goal

pub returns : goal.returns
returns c = λ h k d e t u f g same. let parts = file_apart h k d e t u [] [] f g (ap (λ (z : List ℕ). z ++ []) same) in (parts.hash, parts.digest, parts.tree)
