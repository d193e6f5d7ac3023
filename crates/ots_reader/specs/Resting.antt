-- A reader of tokens once it has its token back.
use Rattle.std.specs.Prelude.{⊤}
use Rattle.std.specs.Borrow.{follows_so, Fml, MutBor}
use mathlib.Core.Option.{none}
use Rattle.ots_reader.specs.contracts.token_reader.TokenReader.{the_row}
use Rattle.ots_reader.specs.Tokens.{Tokens}

-- This holds of the reader once the token that it handed out is let go.
abbrev pub Rests : MutBor Tokens → (Tokens → Type 0) → Fml
Rests reader P = follows_so the_row the_row reader.ghost_name none (λ _ _. ⊤) P
