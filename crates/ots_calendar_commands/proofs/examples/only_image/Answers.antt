use Rattle.std.proofs.Common.{inl, inr, [], ◌∷◌, refl, arith}
use Rattle.ots_calendar_commands.specs.Examples.{some_commitment, some_image}
use Rattle.ots_calendar_commands.proofs.examples.only_image.Goals as goal

pub returns-clause-empty : goal.returns-clause-empty
returns-clause-empty c = record { bytes = []; is_told = refl; stand = inl (omega arith, refl); only = λ b is. is }

pub returns-clause-one : goal.returns-clause-one
returns-clause-one c = record {
  bytes = some_image;
  is_told = refl;
  stand = inr (record {
    long = omega arith;
    groups = (some_commitment ∷ []) ∷ [];
    gate = 0;
    rest = [];
    begins = record { whole = refl; fit = (record { some = omega arith; most = omega arith; payloads = ((omega arith, omega arith), tt) }, tt) };
    closed = λ is. absurd (omega (arith, is));
    joined = refl;
  });
  only = λ b is. is;
}
