-- What came of a source was fed.
use Rattle.std.proofs.Common.{◌≡◌, ℕ, ◌+◌, ◌≤◌, List, [], ◌++◌, length, take, Option, refl, ap, subst, arith, append-nil, length-append}
use Rattle.std.specs.Prelude.{Result, Ok, Err}
use Rattle.std.specs.Io.KnownBytes.{IsAtEnd}
use Rattle.std.proofs.lemmas.List.{length-take-le}
use Rattle.ots_outside.specs.Streams.{Gives, Gives-trans}
use Rattle.ots_headers.specs.HeaderTable.{Table}
use Rattle.ots_verifier.specs.declared.checked.Checked.{Checked}
use Rattle.ots_verifier.specs.declared.checked.CheckError.{CheckError}
use Rattle.ots_verifier.specs.declared.checked.CheckError.TheVariants.{TooBig, BadProof}
use Rattle.ots_verifier.specs.declared.source.SourceError.{SourceError}
use Rattle.ots_verifier.specs.Checked.{Checks}
use Rattle.ots_verifier.specs.Source.{ChecksSource, Tells, answered}

pub count_more : (fed piece after : List ℕ) (came n : ℕ) → came ≡ length fed → n ≤ length piece → after ≡ fed ++ take n piece → came + n ≡ length after
count_more fed piece after came n counted room is = omega (arith, ap length is, length-append fed (take n piece), length-take-le n piece room)

pub fed_more : (a b c : Option (List ℕ)) (fed piece after : List ℕ) (n : ℕ) → Gives a b fed → Gives b c (take n piece) → after ≡ fed ++ take n piece → Gives a c after
fed_more a b c fed piece after n p q is = rw is (Gives-trans a b c fed (take n piece) p q)

tells : (bitcoin : Table) (litecoin : Option Table) (bytes : List ℕ) (whole : Type 0) (r : Result Checked CheckError) → whole → Checks bitcoin litecoin bytes r
    → Tells bitcoin litecoin bytes whole (answered r)
tells bitcoin litecoin bytes whole (Ok c) end h = (end, h)
tells bitcoin litecoin bytes whole (Err TooBig) end h = h
tells bitcoin litecoin bytes whole (Err (BadProof f)) end (size, fault) = (end, size, fault)

-- at the end of input
pub all_fed : (bitcoin : Table) (litecoin : Option Table) (a b c : Option (List ℕ)) (fed piece : List ℕ) (n : ℕ) (r : Result Checked CheckError) (s : Result Checked SourceError) → n ≡ 0
    → Gives a b fed → Gives b c (take n piece) → IsAtEnd c → length fed ≤ 4194305 → Checks bitcoin litecoin fed r → s ≡ answered r → ChecksSource bitcoin litecoin a c s
all_fed bitcoin litecoin a b c fed piece n r s none p q end few checks is = record {
  came = fed;
  gave = subst (Gives a c) (append-nil fed) (fed_more a b c fed piece (fed ++ []) n p q (rw none refl));
  at_most = few;
  tells = rw is (tells bitcoin litecoin fed (IsAtEnd c) r end checks);
}
