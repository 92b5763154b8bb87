use Rattle.std.proofs.Common.{◌∙◌, [], ◌∷◌, List, ap, subst, arith}
use Rattle.shared_object.specs.Caller.{Caller}
use Rattle.shared_object.proofs.Sums.{starts_trans}
use Rattle.thread_tests.specs.declared.counter.Addition.{Addition}
use Rattle.thread_tests.specs.Seats.{AreOf, parts}
use Rattle.thread_tests.proofs.Dealt.{are_of-last, parts-append}
use Rattle.thread_tests.proofs.seats.gather.Goals as goal

pub join-requires-clause-other : goal.join-requires-clause-other
join-requires-clause-other c = (are_of-last _ _ _ (subst (λ (l : List (Caller Addition)). AreOf c.args.book.now l) c.in-Some.ensures.items c.loop-other.invariant.seats)).1

pub loop-other-preserved : goal.loop-other-preserved
loop-other-preserved c =
    let i = c.loop-other.invariant in
    let j = c.join.ensures in
    let items = c.in-Some.ensures.items in record {
      book = ap (λ x. x.book) j.joined ∙ i.book;
      seats = (are_of-last _ _ _ (subst (λ (l : List (Caller Addition)). AreOf c.args.book.now l) items i.seats)).0;
      part = omega (arith, i.part, ap (λ x. x.part) j.joined, ap parts items, parts-append c.pop.new.self.items (c.in-Some.other ∷ []));
      later = starts_trans _ _ _ j.both.0 i.later;
    }
