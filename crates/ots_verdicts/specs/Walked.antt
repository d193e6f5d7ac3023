-- How a walk over the tokens of a tree finds the least confirmed heights. It serves the functions
-- that walk; what they find is said by IsVerdict.
use Rattle.std.specs.Prelude.{ℕ, List, [], ◌∷◌, nat_lt, bytes_eq, if◌then◌else◌, Option, Some, None, option_and_then}
use Rattle.ots_ops.specs.Apply.{apply}
use Rattle.ots_ops.specs.declared.op.Op.{Op}
use Rattle.ots_attest.specs.declared.attestation.Attestation.{Attestation}
use Rattle.ots_attest.specs.declared.attestation.Attestation.TheVariants as attestation
use Rattle.ots_tree.specs.declared.token.Token.{Token}
use Rattle.ots_tree.specs.declared.token.Token.TheVariants as token
use Rattle.ots_tree.specs.Walk.{Met, met, begun, always}
use Rattle.ots_headers.specs.declared.header.Header.{Header}
use Rattle.ots_headers.specs.HeaderTable.{Table, header_at}
use Rattle.ots_verdicts.specs.declared.verdicts.Chain.TheVariants as chain
use Rattle.ots_verdicts.specs.declared.verdicts.Verdict.{Verdict}
use Rattle.ots_verdicts.specs.declared.verdicts.Confirmation.{Confirmation}
use Rattle.ots_verdicts.specs.Confirmed.{verdict_by}
use Rattle.ots_verdicts.specs.declared.best.Best.{Best}
use Rattle.ots_verdicts.specs.declared.best.Found.{Found}

-- the message of an operation's result; none where it has none, or an operation before has none
abbrev pub message_after : Op → Option (List ℕ) → Option (List ℕ)
message_after o m = option_and_then (apply o) m

-- a walk carries it to each open node
abbrev pub messages_by : Op → Option (List ℕ) → Option (Option (List ℕ))
messages_by o m = always message_after o m

-- each token of a tree with the message before it
abbrev pub messages : List ℕ → List Token → List (Met (Option (List ℕ)))
messages digest tokens = met messages_by (begun (Some digest)) tokens

-- what a header says of a message: the time, where the message is its Merkle root
abbrev pub found_in : ℕ → List ℕ → Header → Option Found
found_in height message h = if bytes_eq message h.root then Some (record { height = height; time = h.time }) else None

-- what a table says of a message that an attestation of this height stands on
abbrev pub found_at : ℕ → Table → List ℕ → Option Found
found_at height table message = option_and_then (found_in height message) (header_at table height)

-- the one with the lesser height
abbrev pub lesser : Option Found → Option Found → Option Found
lesser None g = g
lesser (Some f) None = Some f
lesser (Some f) (Some g) = if nat_lt g.height f.height then Some g else Some f

-- the least so far, with what an attestation on a message adds
abbrev pub noted_end : Table → Option Table → Attestation → List ℕ → Best → Best
noted_end bitcoin litecoin (attestation.Bitcoin height) message b =
    record { bitcoin = lesser b.bitcoin (found_at height bitcoin message); litecoin = b.litecoin }
noted_end bitcoin litecoin (attestation.Litecoin height) message b =
    record {
      bitcoin = b.bitcoin;
      litecoin = lesser b.litecoin
          (option_and_then (λ table. found_at height table message) litecoin);
    }
noted_end bitcoin litecoin (attestation.Pending uri) message b = b
noted_end bitcoin litecoin (attestation.Unknown other) message b = b

abbrev pub noted : Table → Option Table → Token → Option (List ℕ) → Best → Best
noted bitcoin litecoin (token.Attestation a) (Some message) b = noted_end bitcoin litecoin a message b
noted bitcoin litecoin (token.Attestation a) None b = b
noted bitcoin litecoin token.Fork m b = b
noted bitcoin litecoin (token.Op o) m b = b

-- the least of all, with what these tokens add
abbrev pub walked : Table → Option Table → Best → List (Met (Option (List ℕ))) → Best
walked bitcoin litecoin b [] = b
walked bitcoin litecoin b (m ∷ ms) = walked bitcoin litecoin (noted bitcoin litecoin m.token m.carried b) ms

abbrev pub nothing : Best
nothing = record { bitcoin = None; litecoin = None }

-- Bitcoin comes first
abbrev pub confirmation_of_found : Option Found → Option Found → Option Confirmation
confirmation_of_found (Some f) g = Some (record { chain = chain.Bitcoin; height = f.height; time = f.time })
confirmation_of_found None (Some g) = Some (record { chain = chain.Litecoin; height = g.height; time = g.time })
confirmation_of_found None None = None

abbrev pub confirmation_of : Best → Option Confirmation
confirmation_of b = confirmation_of_found b.bitcoin b.litecoin

abbrev pub verdict_of_found : Option Found → Option Found → Verdict
verdict_of_found f g = verdict_by (confirmation_of_found f g)

abbrev pub verdict_of : Best → Verdict
verdict_of b = verdict_of_found b.bitcoin b.litecoin
