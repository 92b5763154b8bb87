use Rattle.std.proofs.Common.{◌≤◌, List, length, refl, sym, ◌∙◌, ap, subst, take, fold}
use Rattle.std.proofs.lemmas.List.Sums.{fold_more}
use Rattle.call_history.specs.declared.entry.Entry.{Entry}
use Rattle.channel_safety.specs.Journals.{In}
use Rattle.network.specs.Worlds.{WorldOf, happened}
use Rattle.network.specs.declared.happening.Happening.TheVariants as happenings
use Rattle.step_meanings.specs.declared.people.Person.{Person}
use Rattle.script_race.specs.Driving.{world_of}
use Rattle.script_play.specs.Rounds.{seen_by}
use Rattle.script_race.proofs.driver.see_all.Goals as goal

pub loop-person-init : goal.loop-person-init
loop-person-init g c = record { looked = record { book = refl; part = refl; sound = c.requires.sound; seen = refl }; seen = refl }

pub see-requires-clause-book : goal.see-requires-clause-book
see-requires-clause-book g c = c.loop-person.invariant.looked.book ∙ c.requires.book

pub see-requires-clause-part : goal.see-requires-clause-part
see-requires-clause-part g c = c.loop-person.invariant.looked.part ∙ c.requires.part

pub see-requires-clause-followed : goal.see-requires-clause-followed
see-requires-clause-followed g c = λ m i.
    subst (λ (l : List Entry). g.P.Party.ways.seen m.node ≤ length l) (sym c.loop-person.invariant.looked.seen)
    (c.requires.followed c.loop-person.person-index m (subst (λ (w : WorldOf g.row.P.Denot). In m w.members) c.loop-person.invariant.seen i))

pub loop-person-preserved : goal.loop-person-preserved
loop-person-preserved g c =
    let was = c.loop-person.invariant in
    let now = c.in_ok-see.ensures in
    let ways = g.P.Party.ways in
    let people = c.args.people.now in
    let i = c.loop-person.person-index in
    let person = c.person-item.result in
    let start = world_of c.args.seat.now.seen c.args.nodes.now.items in
    record {
      looked = record { book = now.looked.book ∙ was.looked.book; part = now.looked.part ∙ was.looked.part; sound = now.looked.sound; seen = now.looked.seen ∙ was.looked.seen };
      seen =
          ap (λ (l : List Entry). world_of l c.see.new.nodes.items) (sym was.looked.seen)
          ∙ now.seen
          ∙ ap (λ (l : List Entry). happened ways (happenings.See person.number) (world_of l c.loop-person.nodes.items)) was.looked.seen
          ∙ ap (happened ways (happenings.See person.number)) was.seen
          ∙ ap (λ (p : Person). seen_by ways (fold (seen_by ways) start (take i people)) p) c.person-item.is
          ∙ sym (fold_more (seen_by ways) start people i person c.loop-person-test.true);
    }
