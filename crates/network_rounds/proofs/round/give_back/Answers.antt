use Rattle.std.proofs.Common.{List, [], ◌∷◌, ◌++◌, sym, ◌∙◌, ap, subst, arith, append_assoc, append-nil}
use Rattle.std.proofs.lemmas.Bool.{eqb-true}
use Rattle.network_rounds.specs.Views.{Giving}
use Rattle.network_rounds.proofs.Phasing.{empty_is}
use Rattle.network_rounds.proofs.Works.{first_of}
use Rattle.network_rounds.proofs.Crewing.{gave_node, gave_actor}
use Rattle.network_rounds.proofs.round.give_back.Goals as goal

pub loop-workers-preserved-in-Node : goal.loop-workers-preserved-in-Node
loop-workers-preserved-in-Node g c =
    let i = c.loop-workers.invariant in
    let w = c.remove.result in
    let rest = c.remove.new.self.items in
    let front = first_of c.loop-workers.workers.items w (omega (arith, c.remove.ensures.len, c.loop-workers.workers.ok.0)) c.remove.ensures.value ∙ ap (λ (l : List _). w ∷ l) (sym c.remove.ensures.items) in
    record {
      done = (
        i.done.0 ++ w ∷ [],
        i.done.1 ∙ (ap (λ (l : List _). i.done.0 ++ l) front ∙ sym (append_assoc i.done.0 (w ∷ []) rest)),
        gave_node i.done.0 w _ _ _ _ _ _ _ i.done.2 c.in-Node.is c.in_ok-push-in-Node.ensures.items c.in_ok-append-in-Node.ensures.items,
      );
    }

pub loop-workers-preserved : goal.loop-workers-preserved
loop-workers-preserved g c =
    let i = c.loop-workers.invariant in
    let w = c.remove.result in
    let rest = c.remove.new.self.items in
    let front = first_of c.loop-workers.workers.items w (omega (arith, c.remove.ensures.len, c.loop-workers.workers.ok.0)) c.remove.ensures.value ∙ ap (λ (l : List _). w ∷ l) (sym c.remove.ensures.items) in
    record {
      done = (
        i.done.0 ++ w ∷ [],
        i.done.1 ∙ (ap (λ (l : List _). i.done.0 ++ l) front ∙ sym (append_assoc i.done.0 (w ∷ []) rest)),
        gave_actor i.done.0 w _ _ _ _ _ _ _ i.done.2 c.in-Actor.is c.in_ok-push-in-Actor.ensures.items c.in_ok-append-in-Actor.ensures.items,
      );
    }

pub returns : goal.returns
returns g c =
    let i = c.loop-workers.invariant in
    let none = empty_is c.loop-workers.workers.items (omega (arith, eqb-true _ 0 (sym c.is_empty.ensures ∙ c.loop-workers-test.false), c.loop-workers.workers.ok.0)) in
    let all = i.done.1 ∙ (ap (λ (l : List _). i.done.0 ++ l) none ∙ append-nil i.done.0) in
    λ tells told. subst (λ (ws : List _). Giving ws c.loop-workers.crew.nodes.items c.loop-workers.crew.cast.items c.loop-workers.crew.post.items) (sym all) i.done.2 tells told
