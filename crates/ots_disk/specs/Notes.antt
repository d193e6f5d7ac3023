-- What a disk in memory notes of its calls.
use Rattle.std.specs.Prelude.{ℕ, ◌+◌, ◌==◌, Bool, List, [], ◌∷◌, ◌++◌, length, nat_le, if◌then◌else◌}
use Rattle.std.specs.List.{list_any}
use Rattle.ots_base.specs.Cause.{one_more}
use Rattle.ots_disk.specs.declared.disk_call.DiskCall.{DiskCall}
use Rattle.ots_disk.specs.declared.disk_call.MadeCall.{MadeCall}

pub record NotesTold : Type 0 where
  -- the calls made, in order
  pub calls : List MadeCall
  -- how many calls it can note
  pub room : ℕ
  -- the numbers of the calls that are to fail, the first call being number 1
  pub failing : List ℕ
  -- how many calls failed, up to 2^64 - 1, where the count stays
  pub faults : ℕ

-- There is no room for another call.
abbrev pub is_full : NotesTold → Bool
is_full n = nat_le n.room (length n.calls)

-- The next call is listed to fail.
abbrev pub is_next_listed : NotesTold → Bool
is_next_listed n = list_any (λ number. number == length n.calls + 1) n.failing

-- A call that goes past what was reserved is a fault and is not noted.
abbrev pub refused : NotesTold → NotesTold
refused n = record n { faults = one_more n.faults }

abbrev pub with_call : NotesTold → DiskCall → NotesTold
with_call n call = record n {
  calls = n.calls ++ (record { call = call; failed = is_next_listed n }) ∷ [];
  faults = if is_next_listed n then one_more n.faults else n.faults;
}

abbrev pub after_note : NotesTold → DiskCall → NotesTold
after_note n call = if is_full n then refused n else with_call n call
