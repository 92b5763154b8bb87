use Rattle.std.proofs.Common.{◌≡◌, Bool, true, false, not, List, [], ◌∷◌, ◌++◌, refl, sym, ◌∙◌, ap, arith, append_assoc, append-nil}
use Rattle.std.proofs.lemmas.Bool.{eqb-true}
use Rattle.network_rounds.specs.Workers.{a_node, an_actor}
use Rattle.network_rounds.specs.Views.{player_of}
use Rattle.network_rounds.proofs.Crewing.{took_node, added_none, added_done, added_actor, took_all}
use Rattle.network_rounds.proofs.Phasing.{empty_is}
use Rattle.network_rounds.proofs.Works.{first_of}
use Rattle.network_rounds.proofs.round.take_workers.Goals as goal

not-true : (b : Bool) → not b ≡ true → b ≡ false
not-true true e = cc
not-true false e = refl

not-false : (b : Bool) → not b ≡ false → b ≡ true
not-false true e = refl
not-false false e = cc

pub loop-nodes-preserved : goal.loop-nodes-preserved
loop-nodes-preserved g c =
    let i = c.loop-nodes.invariant in
    let m = c.remove-member.result in
    let rest = c.remove-member.new.self.items in
    let front = first_of c.loop-nodes.nodes.items m (omega (arith, c.remove-member.ensures.len, c.loop-nodes.nodes.ok.0)) c.remove-member.ensures.value ∙ ap (λ (l : List _). m ∷ l) (sym c.remove-member.ensures.items) in
    record {
      done = (
        i.done.0 ++ m ∷ [],
        i.done.1 ∙ (ap (λ (l : List _). i.done.0 ++ l) front ∙ sym (append_assoc i.done.0 (m ∷ []) rest)),
        took_node i.done.0 _ _ m _ i.done.2 (λ tells told. ap (λ (l : List _). a_node m l) c.new-in-loop-nodes.ensures.items) c.in_ok-push.ensures.items,
      );
    }

pub loop-alloc-init : goal.loop-alloc-init
loop-alloc-init g c = record { done = ([], refl, added_none _ _ refl) }

pub loop-alloc-preserved-in-Continue-branch-2 : goal.loop-alloc-preserved-in-Continue-branch-2
loop-alloc-preserved-in-Continue-branch-2 g c =
    let i = c.loop-alloc.invariant in
    let m = c.remove-cast.result in
    let rest = c.remove-cast.new.self.items in
    let front = first_of c.loop-alloc.actors.items m (omega (arith, c.remove-cast.ensures.len, c.loop-alloc.actors.ok.0)) c.remove-cast.ensures.value ∙ ap (λ (l : List _). m ∷ l) (sym c.remove-cast.ensures.items) in
    record {
      done = (
        i.done.0 ++ m ∷ [],
        i.done.1 ∙ (ap (λ (l : List _). i.done.0 ++ l) front ∙ sym (append_assoc i.done.0 (m ∷ []) rest)),
        added_actor _ _ _ i.done.0 m _ i.done.2 (not-true m.done c.if-not-cast.true) (λ tells told. ap (λ (l : List _). an_actor (player_of tells told m) l) c.new-then-not-cast.ensures.items) c.in_ok-push-2.ensures.items,
      );
    }

pub loop-alloc-preserved : goal.loop-alloc-preserved
loop-alloc-preserved g c =
    let i = c.loop-alloc.invariant in
    let m = c.remove-cast.result in
    let rest = c.remove-cast.new.self.items in
    let front = first_of c.loop-alloc.actors.items m (omega (arith, c.remove-cast.ensures.len, c.loop-alloc.actors.ok.0)) c.remove-cast.ensures.value ∙ ap (λ (l : List _). m ∷ l) (sym c.remove-cast.ensures.items) in
    record {
      done = (
        i.done.0 ++ m ∷ [],
        i.done.1 ∙ (ap (λ (l : List _). i.done.0 ++ l) front ∙ sym (append_assoc i.done.0 (m ∷ []) rest)),
        added_done _ _ i.done.0 m i.done.2 (not-false m.done c.if-not-cast.false),
      );
    }

pub returns-clause-workers : goal.returns-clause-workers
returns-clause-workers g c =
    let i = c.loop-nodes.invariant in
    let j = c.loop-alloc.invariant in
    let none = empty_is c.loop-nodes.nodes.items (omega (arith, eqb-true _ 0 (sym c.is_empty.ensures ∙ c.loop-nodes-test.false), c.loop-nodes.nodes.ok.0)) in
    let gone = empty_is c.loop-alloc.actors.items (omega (arith, eqb-true _ 0 (sym c.is_empty-in-loop-alloc.ensures ∙ c.loop-alloc-test.false), c.loop-alloc.actors.ok.0)) in
    took_all i.done.0 _ _ j.done.0 _ _
    (ap (λ (v : _). v.items) (sym c.replace-nodes.ensures.value) ∙ (i.done.1 ∙ (ap (λ (l : List _). i.done.0 ++ l) none ∙ append-nil i.done.0)))
    (ap (λ (v : _). v.items) (sym c.replace-actors.ensures.value) ∙ (j.done.1 ∙ (ap (λ (l : List _). j.done.0 ++ l) gone ∙ append-nil j.done.0)))
    i.done.2 j.done.2
