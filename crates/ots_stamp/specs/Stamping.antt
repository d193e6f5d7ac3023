-- What each calendar is asked when a digest is to be timestamped.
use Rattle.std.specs.Prelude.{ℕ, List, length}
use Rattle.ots_address.specs.Address.{AddressParts}
use Rattle.ots_asking.specs.Conversation.{Question}
use Rattle.ots_http.specs.declared.asking.Asked.TheVariants.{Post}

abbrev pub to_stamp : List ℕ → ℕ → AddressParts → Question
to_stamp root depth address = record { address = address; asked = Post root; length = length root; depth = depth }
