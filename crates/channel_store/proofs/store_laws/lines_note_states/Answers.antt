use Rattle.channel_store.proofs.Holding.{lines_note_states}
use Rattle.channel_store.proofs.store_laws.lines_note_states.Goals as goal

pub returns : goal.returns
returns c = lines_note_states
