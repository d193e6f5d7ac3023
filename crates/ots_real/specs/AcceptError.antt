-- Why the system took no connection.
use Rattle.std.specs.Prelude.{ℕ, ℤ, pos, Bool, false, ◌||◌, if◌then◌else◌, List, [], ◌∷◌, Option, None, Some}
use Rattle.std.specs.Ordering.{int_eq}
use Rattle.ots_real.specs.declared.accept_error.AcceptError.{AcceptError}
use Rattle.ots_real.specs.declared.accept_error.AcceptError.TheVariants.{OfOneConnection, Short, Other}

-- The numbers of ENOMEM, ENFILE, EMFILE and ENOBUFS on Linux: memory, file descriptors or buffers are short.
abbrev pub short_numbers : List ℕ
short_numbers = 12 ∷ 23 ∷ 24 ∷ 105 ∷ []

-- The numbers of EPERM, EINTR, EAGAIN, ENONET, EPROTO, ENOPROTOOPT, EOPNOTSUPP, ENETDOWN, ENETUNREACH, ECONNABORTED,
-- ECONNRESET, ETIMEDOUT, EHOSTDOWN and EHOSTUNREACH, which accept(2) says are no reason to stop.
abbrev pub passing_numbers : List ℕ
passing_numbers = 1 ∷ 4 ∷ 11 ∷ 64 ∷ 71 ∷ 92 ∷ 95 ∷ 100 ∷ 101 ∷ 103 ∷ 104 ∷ 110 ∷ 112 ∷ 113 ∷ []

-- The error of this number is one of these.
abbrev pub is_one_of : List ℕ → ℤ → Bool
is_one_of [] number = false
is_one_of (n ∷ ns) number = int_eq number (pos n) || is_one_of ns number

-- What an error with this number of the system's comes of; one that isn't the system's has none.
abbrev pub cause_of : Option ℤ → AcceptError
cause_of None = Other
cause_of (Some number) =
    if is_one_of short_numbers number then Short
    else if is_one_of passing_numbers number then OfOneConnection
    else Other
