-- What a clause reads of a stream some bytes of which were read before it was handed out.
use Rattle.std.specs.Prelude.{◌≡◌, ℕ, List, Option, drop}
use Rattle.std.specs.Io.Cursor.{cursor_inner, cursor_position}
use Rattle.std.specs.Io.KnownBytes.{prepend_known}
use Rattle.ots_real.specs.declared.ahead.Ahead.{Ahead}
use Rattle.ots_real.specs.declared.heard.Heard.{Heard}

-- What was heard of a peer, and is kept.
abbrev pub heard_bytes : Heard → List ℕ
heard_bytes heard = heard.bytes.items

-- The bytes that were read and not given yet, and then what the stream has left, where that is known.
abbrev pub ahead_remaining : {S : Type 0} → (S → Option (List ℕ)) → Ahead S → Option (List ℕ)
ahead_remaining remaining ahead =
    prepend_known (drop (cursor_position ahead.bytes) (cursor_inner ahead.bytes).items) (remaining ahead.stream)

-- What the stream holds.
abbrev pub ahead_contents : {S : Type 0} → (S → Option (List ℕ)) → Ahead S → Option (List ℕ)
ahead_contents contents ahead = contents ahead.stream

-- These bytes come before what the stream has left, however that is known.
abbrev pub HasAhead : {S : Type 0} → List ℕ → S → Ahead S → Type 0
HasAhead {S} bytes stream ahead = (view : S → Option (List ℕ)) → ahead_remaining view ahead ≡ prepend_known bytes (view stream)
