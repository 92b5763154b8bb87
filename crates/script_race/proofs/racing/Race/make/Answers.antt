use Rattle.std.proofs.Common.{false, sym, ◌∙◌, ap, subst}
use Rattle.shared_object.specs.Caller.{Caller, IsCaller}
use Rattle.call_history.specs.History.{newest_first, now_of}
use Rattle.call_history.specs.declared.entry.Entry.{Entry}
use Rattle.network_rounds.specs.Views.{players}
use Rattle.script_race.proofs.Driving.{opens}
use Rattle.script_race.proofs.racing.Race.make.Goals as goal

pub returns-clause-seated : goal.returns-clause-seated
returns-clause-seated g c =
    let is = c.in-Ok.ensures in
    record {
      book = ap (λ (c : Caller Entry). c.book) is;
      part = ap (λ (c : Caller Entry). c.part) is;
      sound = subst (λ (c : Caller Entry). IsCaller c) (sym is) (opens _);
      now = sym (ap (λ (c : Caller Entry). now_of (newest_first c.seen)) is);
    }

pub returns-clause-starts : goal.returns-clause-starts
returns-clause-starts g c =
    let cast = players (λ b. (goal.Actor-dyn g b).tells b.1) (λ b. (goal.Actor-dyn g b).told b.1) c.args.cast.items in
    let history = ap (λ (c : Caller Entry). newest_first c.seen) c.in-Ok.ensures in
    let rounds = c.make-4.ensures ∙ c.new-3.ensures.items in
    λ i. record {
      scene = record {
        names = c.make-3.ensures i;
        world = record { history = history i; members = c.new.ensures.items i; is_lost = false };
        post = c.new-2.ensures.items i;
        rounds = rounds i;
      };
      cast = cast;
    }
