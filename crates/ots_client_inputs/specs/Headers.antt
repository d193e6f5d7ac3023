-- A file that is a header table or none.
use Rattle.std.specs.Prelude.{◌≡◌, ◌+◌, ◌<◌, ℕ, List, length}
use Rattle.ots_base.specs.declared.limits.TheConstants.{MAX_HEADER_FILE}
use Rattle.ots_headers.specs.TableRead.{IsCut}
use Rattle.ots_headers.specs.declared.headers.HeadersError.{HeadersError}
use Rattle.ots_headers.specs.declared.headers.HeadersError.TheVariants as headers
use Rattle.ots_inputs.specs.declared.error.InputError.{InputError}
use Rattle.ots_inputs.specs.declared.error.InputError.TheVariants.{ReadFault, Refused, OutOfMemory}
use Rattle.ots_client_text.specs.declared.status.Status.{Status}
use Rattle.ots_client_text.specs.declared.status.Status.TheVariants.{BadHeaders}

-- No headers, by the number of bytes: none, or no multiple of 80, or more than 83,886,080, of which one past that is
-- told.
pub data RefusesTable (bytes : List ℕ) (s : Status) : Type 0 where
  cut : IsCut (length bytes) → s ≡ BadHeaders (length bytes) → RefusesTable bytes s
  too_many : MAX_HEADER_FILE < length bytes → s ≡ BadHeaders (MAX_HEADER_FILE + 1) → RefusesTable bytes s

-- ---- for the code

-- why a source gives no headers
abbrev pub refused_headers : HeadersError → InputError Status
refused_headers headers.ReadFault = ReadFault
refused_headers (headers.BadHeaders n) = Refused (BadHeaders n)
refused_headers headers.OutOfMemory = OutOfMemory
