-- What `stamp` asks of calendars.
use Rattle.std.specs.Prelude.{◌≡◌, ℕ, List, map, Option}
use Rattle.ots_address.specs.Address.{AddressParts}
use Rattle.ots_address.specs.AddressList.{IsListOf}
use Rattle.ots_asking.specs.Conversation.{ConverseUpTo}
use Rattle.ots_client_endings.specs.Outside.{Draws}
use Rattle.ots_client_words.specs.Words.{Stamping}
use Rattle.ots_merkle.specs.CalendarTree.{root}
use Rattle.ots_outside.specs.Dialer.{DialerTold}
use Rattle.ots_outside.specs.Shelf.{Names}
use Rattle.ots_stamp.specs.Stamped.{leaves}
use Rattle.ots_stamp.specs.Stamping.{to_stamp}
use Rattle.ots_stamp.specs.Ways.{IsDepth}
use Rattle.ots_stamp.specs.declared.target.Target.{Target}
use Rattle.ots_stamping.specs.Hashing.{AreHashed}

-- Nonces were drawn, one for each of these files, and of what calendars are then asked some was asked in order, the
-- last of it perhaps in part.
pub record StampsUpTo {D N : Type 0} (told : D → DialerTold) (faults : D → ℕ) (left : N → Option (List ℕ))
    (names : Option Names) (s : Stamping) (old new : D)
    (before now : N) : Type 0 where
  pub calendars : List AddressParts
  pub is_list : IsListOf s.calendars calendars
  pub digests : List (List ℕ)
  pub are_hashed : AreHashed names s.files digests
  pub targets : List Target
  pub digests_are : map (λ t. t.digest) targets ≡ digests
  pub drawn : Draws left (map (λ t. t.nonce) targets) before now
  pub depth : ℕ
  pub depth_is : IsDepth (leaves targets) depth
  pub asks : ConverseUpTo told faults (map (to_stamp (root (leaves targets)) depth) calendars) old new
