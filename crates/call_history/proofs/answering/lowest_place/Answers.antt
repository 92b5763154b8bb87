use Rattle.std.proofs.Common.{◌≡◌, ◌≤◌, ℕ, List, ap, sym, subst, take, length, ◌∙◌}
use Rattle.std.proofs.lemmas.List.{take_all}
use Rattle.channel_values.specs.declared.chain.Mark.{Mark}
use Rattle.call_history.specs.Marked.{lowest}
use Rattle.call_history.proofs.LoweredMarks.{lowest_le, lowest_at}
use Rattle.call_history.proofs.answering.lowest_place.Goals as goal

whole : (place n least : ℕ) (marks : List Mark) → length marks ≤ n → least ≡ lowest place (take n marks) → least ≡ lowest place marks
whole place n least marks end is = is ∙ ap (λ (ms : List Mark). lowest place ms) (take_all n marks end)

pub returns-clause-inside : goal.returns-clause-inside
returns-clause-inside c =
    let least : c.loop-mark.least ≡ lowest c.args.place c.args.marks.now =
    whole c.args.place c.loop-mark.mark-index c.loop-mark.least c.args.marks.now c.loop-mark-test.false c.loop-mark.invariant in
    subst (λ (x : ℕ). x ≤ c.args.place) (sym least) (lowest_le c.args.place c.args.marks.now)

pub returns-clause-below : goal.returns-clause-below
returns-clause-below c i m e =
    let least : c.loop-mark.least ≡ lowest c.args.place c.args.marks.now =
    whole c.args.place c.loop-mark.mark-index c.loop-mark.least c.args.marks.now c.loop-mark-test.false c.loop-mark.invariant in
    subst (λ (x : ℕ). x ≤ m.place) (sym least) (lowest_at c.args.place c.args.marks.now i m e)
