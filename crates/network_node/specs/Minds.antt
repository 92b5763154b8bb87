-- What a node knows, with its signer.
use Rattle.channel_node.specs.Minds.{Mind}
use Rattle.lms_signatures.specs.Signing.{Signing}

pub record MindOf : Type 0 where
  pub known : Mind
  pub signer : Signing
