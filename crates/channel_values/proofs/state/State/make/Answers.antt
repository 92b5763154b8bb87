use Rattle.std.proofs.Common.{[], length, arith, rules}
use Rattle.channel_values.specs.Parts.{StateParts, IsState, state_with}
use Rattle.channel_values.specs.Spelling.{state}
use Rattle.channel_values.specs.Reading.{state_at}
use Rattle.channel_values.proofs.States.{state_again}
use Rattle.channel_values.proofs.Format.{is_made}
use Rattle.channel_values.proofs.state.State.make.Goals as goal

pub returns-clause-made : goal.returns-clause-made
returns-clause-made c =
    let s : StateParts = state_with c.args.turn c.args.is_final c.args.outcome c.args.app_bytes.items in
    let put = c.in_ok-put_state.ensures in
    is_made state_at (state s) s (IsState s) c.read_state.result (state_again (length (state s)) s [] (omega arith, put.outcome_fits, rw (← c.deref.ensures.value) put.data_fit)) (search rules)
