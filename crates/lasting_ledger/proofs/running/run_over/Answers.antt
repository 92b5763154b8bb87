use Rattle.std.proofs.Common.{rules, ◌≡◌, true, is_ok}
use Rattle.lasting_lines.specs.Opening.{IsPlayed}
use Rattle.lasting_ledger.specs.Ledgers.{ledger_ways, unplayed}
use Rattle.lasting_ledger.proofs.Results.{from_ok}
use Rattle.lasting_ledger.proofs.running.run_over.Goals as goal

pub returns-clause-ready : goal.returns-clause-ready
returns-clause-ready g c = λ n played ended.
    let served : is_ok c.serve_ledger-served.result ≡ true = c.serving_status-status.ensures ended in
    let ready = from_ok c.serve_ledger-served.result c.serve_ledger-served.ensures.ready served in
    let again : IsPlayed ledger_ways unplayed c.args.state.bytes.items n c.args.begun.played c.deref.result.now = search rules in
    ready unplayed c.args.state.bytes.items n c.new-outside.ensures again
