-- Keys that are made of a seed.
use Rattle.std.specs.Prelude.{◌≡◌, List, length}
use Rattle.call_history.specs.History.{Legal}
use Rattle.call_history.specs.declared.entry.Entry.{Entry}
use Rattle.channel_safety.specs.Honest.{Honest}
use Rattle.channel_node.specs.Nodes.{NodeOf, told_of}
use Rattle.channel_node.specs.Standing.{Stands}
use Rattle.channel_node.specs.Places.{lines_of}
use Rattle.channel_node.specs.Tables.{Tables}
use Rattle.channel_node.specs.Playing.{SignerOf, signing_of, SignsWell}
use Rattle.lms_signatures.specs.Made.{made_key}
use Rattle.lms_signatures.specs.Signing.{IsHeight}
use Rattle.support_rules.specs.Real.{real}

-- the identifier and the height that a signer may have
pub record FitsSigner (s : SignerOf) : Type 0 where
  pub sixteen : length s.id ≡ 16
  pub height : IsHeight s.h

abbrev pub MadeKeysSignWell : Type 0
MadeKeysSignWell = (s : SignerOf) → FitsSigner s → SignsWell real (signing_of s)

abbrev pub MadeNodesAreHonest : Type 0
MadeNodesAreHonest =
    (t : Tables) (h : List Entry) (n : NodeOf) → FitsSigner n.signer → Legal real h → Stands t real (signing_of n.signer) h n
    → Honest real (made_key n.signer.seed n.signer.id n.signer.h) h (lines_of (made_key n.signer.seed n.signer.id n.signer.h) (told_of n))
