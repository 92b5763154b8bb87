use Rattle.std.proofs.Common.{◌≡◌, List, [], ◌∷◌, ◌++◌, refl, sym, ap, ◌∙◌, arith}
use Rattle.std.specs.Prelude.{IfOk}
use Rattle.call_history.specs.declared.entry.Entry.{Entry}
use Rattle.shared_object.specs.Caller.{Caller}
use Rattle.network_rounds.proofs.Dealt.{gathers_none, gathers_more}
use Rattle.network_rounds.proofs.Phasing.{rest_all, took_ok, more_workers, more_seats}
use Rattle.network_rounds.proofs.Works.{first_of}
use Rattle.network_rounds.proofs.seats.collect.Goals as goal

pub loop-results-init : goal.loop-results-init
loop-results-init g c = record { book = refl; of_book = λ i d lt. c.requires.results i d (omega (arith, lt, c.args.results.ok.0)); done = ([], refl, c.new-workers.ensures.items, gathers_none _) }

pub loop-results-preserved : goal.loop-results-preserved
loop-results-preserved g c =
    let i = c.loop-results.invariant in
    let r = c.remove.result in
    let job = c.in_ok-other.field-0 in
    let front = first_of c.loop-results.results.items r (omega (arith, c.remove.ensures.len, c.loop-results.results.ok.0)) c.remove.ensures.value ∙ ap (λ (l : List _). r ∷ l) (sym c.remove.ensures.items) in
    record {
      book = ap (λ (x : Caller Entry). x.book) c.join.ensures.joined ∙ i.book;
      of_book = rest_all (λ x. IfOk x (λ j. j.seat.book ≡ c.args.book.now)) _ _ _ front i.of_book;
      done = (
        i.done.0 ++ job ∷ [],
        took_ok _ _ _ i.done.0 r job i.done.1 front c.in_ok-other.was,
        more_workers i.done.0 job _ _ job.worker i.done.2 refl c.in_ok-push.ensures.items,
        more_seats i.done.0 job _ _ (gathers_more _ _ _ job.seat _ i.done.3 c.join.ensures.joined c.join.ensures.both.0 c.join.ensures.both.1 c.join.ensures.sound),
      );
    }
