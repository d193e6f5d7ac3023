-- What a command draws and asks.
use Rattle.std.specs.Prelude.{◌≡◌, ◌⊎◌, ℕ, List, length, Option, Some, None}
use Rattle.ots_client_endings.specs.Outside.{DrawsSome}
use Rattle.ots_client_words.specs.Words.{ClientCommand, info, canon, merge, prune, verify, stamp, upgrade}
use Rattle.ots_client_words.specs.Words.{sample, chain}
use Rattle.ots_completing.specs.Asking.{AsksUpTo}
use Rattle.ots_outside.specs.Dialer.{DialerTold}
use Rattle.ots_outside.specs.Shelf.{Names}
use Rattle.ots_stamping.specs.Asking.{StampsUpTo}

-- No calendar is asked.
abbrev pub IsOffline : Option ClientCommand → Type 0
IsOffline None = Unit {0}
IsOffline (Some (info proof)) = Unit {0}
IsOffline (Some (canon from to)) = Unit {0}
IsOffline (Some (merge first second to)) = Unit {0}
IsOffline (Some (prune from to)) = Unit {0}
IsOffline (Some (verify v)) = Unit {0}
IsOffline (Some (stamp s)) = ⊥
IsOffline (Some (upgrade u)) = ⊥
IsOffline (Some (sample n)) = Unit {0}
IsOffline (Some (chain c)) = Unit {0}

-- What a command draws, whatever its status is: a nonce for each file that is stamped, as far as it came.
abbrev pub DrawsFor : {N : Type 0} → (N → Option (List ℕ)) → Option ClientCommand → N → N → Type 0
DrawsFor left None old new = new ≡ old
DrawsFor left (Some (info proof)) old new = new ≡ old
DrawsFor left (Some (canon from to)) old new = new ≡ old
DrawsFor left (Some (merge first second to)) old new = new ≡ old
DrawsFor left (Some (prune from to)) old new = new ≡ old
DrawsFor left (Some (verify v)) old new = new ≡ old
DrawsFor left (Some (stamp s)) old new = DrawsSome left (length s.files) old new
DrawsFor left (Some (upgrade u)) old new = new ≡ old
DrawsFor left (Some (sample n)) old new = new ≡ old
DrawsFor left (Some (chain c)) old new = new ≡ old

-- What a command asks, whatever its status is: nothing, or some of what it is to ask.
abbrev pub Asks : {D N : Type 0} → (D → DialerTold) → (D → ℕ) → (N → Option (List ℕ)) → Option Names
    → Option ClientCommand → D → D → N → N → Type 0
Asks told faults left names None old new before now = new ≡ old
Asks told faults left names (Some (info proof)) old new before now = new ≡ old
Asks told faults left names (Some (canon from to)) old new before now = new ≡ old
Asks told faults left names (Some (merge first second to)) old new before now = new ≡ old
Asks told faults left names (Some (prune from to)) old new before now = new ≡ old
Asks told faults left names (Some (verify v)) old new before now = new ≡ old
Asks told faults left names (Some (stamp s)) old new before now = (new ≡ old)
    ⊎ StampsUpTo told faults left names s old new before now
Asks told faults left names (Some (upgrade u)) old new before now = (new ≡ old) ⊎ AsksUpTo told faults names u old new
Asks told faults left names (Some (sample n)) old new before now = new ≡ old
Asks told faults left names (Some (chain c)) old new before now = new ≡ old
