use Rattle.std.proofs.Common.{rules, ◌≡◌, true, is_ok}
use Rattle.lasting_lines.specs.Opening.{IsPlayed}
use Rattle.lasting_node.specs.Machines.{node_ways, unplayed}
use Rattle.lasting_node.specs.Runs.{signer_of}
use Rattle.lasting_node.proofs.Results.{from_ok}
use Rattle.lasting_node.proofs.running.run_over.Goals as goal

pub returns-clause-ready : goal.returns-clause-ready
returns-clause-ready g c = λ n played ended.
    let served : is_ok c.serve_node-served.result ≡ true = c.serving_status-status.ensures ended in
    let ready = from_ok c.serve_node-served.result c.serve_node-served.ensures.ready served in
    let again : IsPlayed node_ways (unplayed (signer_of c.args.start)) c.args.state.bytes.items n c.args.begun.played c.deref.result.now = search rules in
    ready (unplayed (signer_of c.args.start)) c.args.state.bytes.items n c.new-outside.ensures again
