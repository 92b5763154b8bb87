use Rattle.channel_node.proofs.Keys.{made_keys_sign_well}
use Rattle.channel_node.proofs.node_laws.made_keys_sign_well.Goals as goal

pub returns : goal.returns
returns c = made_keys_sign_well
