-- How the tables of `src/rounds.rt` spell the steps of a line.
use Rattle.std.specs.Prelude.{ℕ, List, slice_index}
use Rattle.ots_ripemd.specs.Ripemd160.{Step, f1, f2, f3, f4, f5, round}
use Rattle.ots_ripemd.specs.declared.rounds.Function.{Function}
use Rattle.ots_ripemd.specs.declared.rounds.Function.TheVariants.{F1, F2, F3, F4, F5}
use Rattle.ots_ripemd.specs.declared.rounds.Round.{Round}

abbrev pub function_of : Function → ℕ → ℕ → ℕ → ℕ
function_of F1 = f1
function_of F2 = f2
function_of F3 = f3
function_of F4 = f4
function_of F5 = f5

-- step j of a round
abbrev pub step_of : Round → ℕ → Step
step_of r j = record {
  function = function_of r.function;
  constant = r.constant;
  place = slice_index r.places j;
  turn = slice_index r.turns j;
}

-- its sixteen steps
abbrev pub steps_of : Round → List Step
steps_of r = round (function_of r.function) r.constant r.places r.turns
