-- Files that are named, one of them.
use Rattle.std.proofs.Common.{◌≡◌, ◌<◌, ℕ, List, Bor, Some, length, map, get_or, arith}
use Rattle.std.specs.List.{slice_get}
use Rattle.std.proofs.lemmas.List.{length-map}
use Rattle.ots_arguments.specs.Values.{texts}
use Rattle.ots_sums.proofs.Keeping.{get_mapped}
use Rattle.ots_archive_steps.specs.Entries.{word}

pub word_at : (words : List (Bor (List ℕ))) (i : ℕ) (x : Bor (List ℕ)) → i < length (map word (texts words)) → x ≡ get_or words i x
    → slice_get (map word (texts words)) i ≡ Some (word x.now)
word_at words i x less is = get_mapped word (λ s. s.now) words i x (omega (arith, less, length-map (texts words) word, length-map words (λ (s : Bor (List ℕ)). s.now))) is
