-- What a node answers to bytes that aren't a message, and to a message whose signature doesn't verify.
use Rattle.std.specs.Prelude.{◌≡◌, ℕ, ◌<◌, false, List, [], ◌∷◌, ◌++◌, length, take, Some, None, Ok}
use Rattle.channel_values.specs.Parts.{StateParts}
use Rattle.channel_values.specs.declared.chain.Signed.{Signed}
use Rattle.channel_values.specs.Rules.{Rules, is_signed_well}
use Rattle.call_history.specs.Limits.{IsMessage}
use Rattle.call_history.specs.Reading.{message_of}
use Rattle.call_history.specs.Spelling.{Message, message}
use Rattle.call_history.specs.declared.event.Deed.TheVariants as deeds
use Rattle.call_history.specs.declared.event.NodeRefusal.{NodeRefusal}
use Rattle.call_history.specs.declared.event.NodeRefusal.TheVariants.{BadBytes, BadSignature}
use Rattle.channel_store.specs.Keeping.{is_ended, next_of}
use Rattle.channel_store.specs.Storing.{kept_of}
use Rattle.channel_store.specs.declared.kept.Kept.{Kept}
use Rattle.channel_node.specs.Tables.{Tables}
use Rattle.channel_node.specs.Minds.{Mind, facts_of}
use Rattle.channel_node.specs.Nodes.{NodeOf, handled}
use Rattle.channel_node.specs.Refusing.{not_open, message_refusal}

-- ---- a refusal

-- with one more line: that it refused these bytes, and why
abbrev pub with_refused : List ℕ → NodeRefusal → NodeOf → NodeOf
with_refused bytes refusal n =
    record n { journal = n.journal ++ record { seen = n.mind.view.count; deed = deeds.Handled bytes (Some refusal) } ∷ [] }

-- A node refuses these bytes, says why, and changes nothing but that its journal says so.
pub record Refuses (t : Tables) (r : Rules) (bytes : List ℕ) (refusal : NodeRefusal) (n : NodeOf) : Type 0 where
  pub told : message_refusal t r n.mind (message_of bytes) ≡ Some refusal
  pub left : handled t r bytes n ≡ with_refused bytes refusal n

-- ---- bytes that aren't a message

abbrev pub FrontsAreRefused : Type 0
FrontsAreRefused =
    (t : Tables) (r : Rules) (node : NodeOf) (v : Message) (n : ℕ) → IsMessage v → n < length (message v)
    → Refuses t r (take n (message v)) BadBytes node

abbrev pub TrailingIsRefused : Type 0
TrailingIsRefused =
    (t : Tables) (r : Rules) (node : NodeOf) (v : Message) (b : ℕ) (more : List ℕ) → IsMessage v
    → Refuses t r (message v ++ b ∷ more) BadBytes node

-- ---- signatures

abbrev pub with_signature : List ℕ → Signed → Signed
with_signature signature s = record s { signature = signature }

-- The channel is kept, every live channel is open, the chain isn't ended, and the state's turn is the next one.
pub record ComesNext (t : Tables) (m : Mind) (channel : List ℕ) (k : Kept) (s : StateParts) : Type 0 where
  pub keeps : kept_of channel m.kept ≡ Some k
  pub live : not_open t (facts_of m) ≡ None
  pub lasts : is_ended k ≡ false
  pub next : s.turn ≡ next_of k

abbrev pub BadSignaturesAreTold : Type 0
BadSignaturesAreTold =
    (t : Tables) (r : Rules) (node : NodeOf) (channel : List ℕ) (k : Kept) (s : Signed) (other bytes : List ℕ)
    → ComesNext t node.mind channel k s.state → is_signed_well r k.chain.fixed (with_signature other s) ≡ false
    → message_of bytes ≡ Ok (channel, with_signature other s) → Refuses t r bytes BadSignature node

-- of a message that is taken, another signature that doesn't verify
abbrev pub TakenOnesAreSigned : Type 0
TakenOnesAreSigned =
    (t : Tables) (r : Rules) (node : NodeOf) (channel : List ℕ) (k : Kept) (s : Signed) (other taken bytes : List ℕ)
    → kept_of channel node.mind.kept ≡ Some k → message_of taken ≡ Ok (channel, s)
    → message_refusal t r node.mind (message_of taken) ≡ None
    → is_signed_well r k.chain.fixed (with_signature other s) ≡ false
    → message_of bytes ≡ Ok (channel, with_signature other s) → Refuses t r bytes BadSignature node
