-- A made signature verifies.
use Rattle.channel_node.specs.Keys.{MadeKeysSignWell, MadeNodesAreHonest}
use Rattle.channel_node.specs.Playing.{signing_of}
use Rattle.channel_node.proofs.Calling.{standing_nodes_are_honest}
use Rattle.lms_signatures.proofs.Signers.{made_is_signed}
use Rattle.support_rules.specs.Real.{real}

pub made_keys_sign_well : MadeKeysSignWell
unfolding signing_of
made_keys_sign_well s sound index message below = made_is_signed s.seed s.id s.h index message sound.sixteen sound.height below

pub made_nodes_are_honest : MadeNodesAreHonest
unfolding signing_of
made_nodes_are_honest t h n sound legal stands = standing_nodes_are_honest t real (signing_of n.signer) h n (made_keys_sign_well n.signer sound) legal stands
