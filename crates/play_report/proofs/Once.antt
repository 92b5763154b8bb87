-- What a play came to has one report.
use Rattle.std.proofs.Common.{◌≡◌, Bool, true, false, List, [], ◌∷◌, ℕ, sym, ◌∙◌, ap, subst, refl}
use Rattle.std.specs.Prelude.{IsTrue, ◌↔◌, Option, reverse, map, flat_map}
use Rattle.std.proofs.lemmas.List.{reverse-reverse}
use Rattle.call_history.specs.History.{flows_of, newest_first}
use Rattle.call_history.specs.declared.entry.Entry.{Entry}
use Rattle.asset_holder.specs.Receipts.{assets_of}
use Rattle.run_record.specs.Sums.{sums_of}
use Rattle.channel_values.specs.Parts.{FixedParts}
use Rattle.premises.specs.declared.journal.Journal.{Journal}
use Rattle.run_record.specs.declared.run_record.Ending.{Ending}
use Rattle.node_guarantees.specs.Endings.{ending_of}
use Rattle.report_text.specs.declared.report.Judged.{Judged}
use Rattle.report_text.specs.declared.report.Load.{Load}
use Rattle.report_text.specs.declared.report.Report.{Report}
use Rattle.channel_node.specs.Exiting.{until_exit}
use Rattle.report_text.specs.declared.report.Share.{Share}
use Rattle.script_play.specs.Play.{SceneOf}
use Rattle.network.specs.Ways.{Ways}
use Rattle.network.specs.declared.command.Command.{Command}
use Rattle.node_guarantees.specs.Promised.{Pairwise, share_at_end, share_after}
use Rattle.play_report.specs.Reported.{IsJudged, AreJudged, shares_of, exits_after, events, Tells}

same-word : (a b : Bool) (Q : Type 0) → IsTrue a ↔ Q → IsTrue b ↔ Q → a ≡ b
same-word true true Q f g = refl
same-word true false Q f g = sym (g.1 (f.0 refl))
same-word false true Q f g = f.1 (g.0 refl)
same-word false false Q f g = refl

none : ℕ → List FixedParts
none place = []

same-judged : (h : List Entry) (journals : List Journal) (j : Journal) (p q : Judged) → IsJudged h journals j p → IsJudged h journals j q → p ≡ q
same-judged h journals j p q a b =
    let person = a.person ∙ sym b.person in
    let unforged = same-word p.unforged q.unforged _ (a.unforged none) (b.unforged none) in
    let distinct = same-word p.distinct q.distinct _ a.distinct b.distinct in
    let in_time = same-word p.in_time q.in_time _ (a.in_time none) (b.in_time none) in
    λ i. record { person = person i; unforged = unforged i; distinct = distinct i; in_time = in_time i }

same-all : (h : List Entry) (all js : List Journal) (ps qs : List Judged) → Pairwise (IsJudged h all) js ps → Pairwise (IsJudged h all) js qs → ps ≡ qs
same-all h all [] [] [] a b = refl
same-all h all [] [] (q ∷ qs) a b = absurd b
same-all h all [] (p ∷ ps) qs a b = absurd a
same-all h all (j ∷ js) [] qs a b = absurd a
same-all h all (j ∷ js) (p ∷ ps) [] a b = absurd b
same-all h all (j ∷ js) (p ∷ ps) (q ∷ qs) a b = λ i. same-judged h all j p q a.0 b.0 i ∷ same-all h all js ps qs a.1 b.1 i

same_in_time : (h k : List Entry) → newest_first h ≡ newest_first k → h ≡ k
same_in_time h k e = sym (reverse-reverse h) ∙ ap reverse e ∙ reverse-reverse k

-- what is told of shares is told by the history and the journals
module _ (commands : ℕ → Option Command) where
  abbrev ends : List Entry → List Journal → List Share
  ends h journals = flat_map (λ j. shares_of j.key (share_at_end (newest_first h) j.key (events commands j)) (assets_of (flows_of h))) journals

  abbrev leaves : List Entry → List Journal → List Share
  leaves h journals = flat_map (λ j. exits_after (share_after (newest_first h) j.key (events commands j)) j.key (assets_of (flows_of h)) (until_exit (events commands j))) journals

  abbrev endings : List Entry → List Journal → List Ending
  endings h journals = map (λ j. ending_of h j.key (events commands j)) journals

  pub one_report : {P : Type 0} (ways : Ways P) (load : Option Load) (r q : Report) (s : SceneOf P) → Tells commands ways load r s → Tells commands ways load q s → r ≡ q
  one_report ways load r q s a b =
      let history = same_in_time r.history q.history (a.history ∙ sym b.history) in
      let journals = a.journals ∙ sym b.journals in
      let rounds = a.rounds ∙ sym b.rounds in
      let labels = a.labels ∙ sym b.labels in
      let moved : AreJudged q.history q.journals r.premises =
      subst (λ h. AreJudged h q.journals r.premises) history (subst (λ js. AreJudged r.history js r.premises) journals a.judged)
      in
      let premises = same-all q.history q.journals q.journals r.premises q.premises moved b.judged in
      let shared = a.shares ∙ ap (λ h. ends h r.journals) history ∙ ap (ends q.history) journals ∙ sym b.shares in
      let exited = a.exits ∙ ap (λ h. leaves h r.journals) history ∙ ap (leaves q.history) journals ∙ sym b.exits in
      let ended = a.ends ∙ ap (λ h. endings h r.journals) history ∙ ap (endings q.history) journals ∙ sym b.ends in
      let summed = a.sums ∙ ap (λ h. sums_of (flows_of h)) history ∙ sym b.sums in
      let noted = a.noted ∙ sym b.noted in
      λ i.
      record {
        history = history i;
        journals = journals i;
        rounds = rounds i;
        labels = labels i;
        premises = premises i;
        shares = shared i;
        exits = exited i;
        ends = ended i;
        sums = summed i;
        load = noted i;
      }
