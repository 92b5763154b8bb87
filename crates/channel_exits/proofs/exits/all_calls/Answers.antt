use Rattle.std.proofs.Common.{ℕ, List, ◌++◌, ◌∙◌, ap}
use Rattle.std.specs.List.{flat_map}
use Rattle.call_history.specs.declared.call.Call.{Call}
use Rattle.channel_exits.specs.Calls.{root_calls, other_calls, of_each}
use Rattle.channel_exits.specs.Exits.{ended_in}
use Rattle.channel_exits.proofs.exits.all_calls.Goals as goal

pub returns-clause-value : goal.returns-clause-value
returns-clause-value c =
    c.in_ok-put_all_others.ensures.value
    ∙ ap (λ (calls : List Call). calls ++ flat_map (of_each (ended_in c.args.world.now) (other_calls (ended_in c.args.world.now) c.args.me.now c.args.parts.now)) c.args.parts.now)
    (c.in_ok-put_all_roots.ensures.value
    ∙ (ap (λ (calls : List Call). calls ++ flat_map (of_each (ended_in c.args.world.now) (root_calls (ended_in c.args.world.now) c.args.me.now c.deref.result.now)) c.args.parts.now) c.new-calls.ensures.items
    ∙ ap (λ (names : List (List ℕ)). flat_map (of_each (ended_in c.args.world.now) (root_calls (ended_in c.args.world.now) c.args.me.now names)) c.args.parts.now) (c.deref.ensures.value ∙ c.in_ok-names.ensures)))
