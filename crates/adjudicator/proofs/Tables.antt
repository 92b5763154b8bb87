-- Recording a row, and its deadline beside it.
use Rattle.std.proofs.Common.{◌≡◌, ℕ, ◌<◌, ◌^◌, List, [], Bool, true, false, cond, Some, None, refl, sym, ◌∙◌, ap, lit<}
use Rattle.std.proofs.lemmas.Slice.Eq.{bytes_eq-Decides}
use Rattle.std.specs.Prelude.{Ok, Option, nat_le}
use Rattle.call_history.specs.declared.standing.Standing.TheVariants.{Final, Challenged}
use Rattle.std.specs.Str.{bytes_eq}
use Rattle.call_history.specs.Mode.{mode_at, is_final}
use Rattle.channel_values.specs.Rules.{Rules}
use Rattle.call_history.specs.Rows.{row_or_blank}
use Rattle.call_history.specs.History.{row, now_of}
use Rattle.call_history.specs.declared.entry.Entry.{Entry}
use Rattle.call_history.specs.declared.row.Row.{Row}
use Rattle.adjudicator.specs.Due.{deadline_in, come, AreOrdered}
use Rattle.adjudicator.specs.Standing.{Standing, StandsFor, row_in, row_after, AreTurns, AreFinals}
use Rattle.adjudicator.specs.Table.{IsDated}
use Rattle.adjudicator.proofs.Stands.{row_found}

-- turns stay those of states
turns_after : (old new : List (List ℕ × Row)) (name : List ℕ) (row : Row) → AreTurns old → row.turn < 2 ^ 48
    → ((c : List ℕ) → row_in new c ≡ row_after name (Ok row) c (row_in old c)) → AreTurns new
turns_after old new name row turns small after c = rw (after c) (go (bytes_eq name c))
  where
    go : (b : Bool) → (row_or_blank (cond b (Some row) (row_in old c))).turn < 2 ^ 48
    go true = small
    go false = turns c

-- and the deadlines those of the rows
pub dated_after : (old new : List (List ℕ × Row)) (before after : List (ℕ × List ℕ)) (name : List ℕ) (row : Row) → IsDated old before → row.turn < 2 ^ 48
    → ((c : List ℕ) → row_in new c ≡ row_after name (Ok row) c (row_in old c))
    → ((c : List ℕ) → deadline_in after c ≡ cond (bytes_eq name c) row.deadline (deadline_in before c)) → IsDated new after
dated_after old new before after name row dated small rows deadlines = record {
  turns = turns_after old new name row dated.turns small rows;
  deadlines = λ c. deadlines c ∙ go c (bytes_eq name c) ∙ ap (λ (o : Option Row). (row_or_blank o).deadline) (sym (rows c));
}
  where
    go : (c : List ℕ) (b : Bool) → cond b row.deadline (deadline_in before c) ≡ (row_or_blank (cond b (Some row) (row_in old c))).deadline
    go c true = refl
    go c false = dated.deadlines c

pub nothing_dated : IsDated [] []
nothing_dated = record { turns = λ c. lit< tt; deadlines = λ c. refl }

itself : (a : List ℕ) → bytes_eq a a ≡ true
itself a = (bytes_eq-Decides a a).1 refl

-- a deadline that was cleared is none
pub cleared : (now was : List (ℕ × List ℕ)) (channel : List ℕ) → ((c : List ℕ) → deadline_in now c ≡ cond (bytes_eq channel c) None (deadline_in was c)) → deadline_in now channel ≡ None
cleared now was channel h = h channel ∙ ap (λ b. cond b None (deadline_in was channel)) (itself channel)

pub cleared_and_set : (b : Bool) (new old : Option ℕ) → cond b new (cond b None old) ≡ cond b new old
cleared_and_set true new old = refl
cleared_and_set false new old = refl

pub cleared_for_none : (b : Bool) (old : Option ℕ) → cond b None old ≡ cond b None old
cleared_for_none b old = refl

-- what has come by now is what is final
come_is : (deadline : Option ℕ) (now : ℕ) → come now deadline ≡ cond (is_final (mode_at deadline now)) deadline None
come_is None now = refl
come_is (Some d) now = go (nat_le d now)
  where
    go : (b : Bool) → cond b (Some d) None ≡ cond (is_final (cond b Final Challenged)) (Some d) None
    go true = refl
    go false = refl

-- so the rows that are due are the final channels
pub due_finals : (r : Rules) (h : List Entry) (s : Standing) (due : List (ℕ × List ℕ)) → AreOrdered due
    → ((channel : List ℕ) → deadline_in due channel ≡ come s.now (row_or_blank (row_in s.rows channel)).deadline) → StandsFor r h s → AreFinals r h due
due_finals r h s due ordered each st = record {
  ordered = ordered;
  deadlines = λ channel.
      each channel
      ∙ ap (λ (x : Row). come s.now x.deadline) (row_found r h s st channel)
      ∙ ap (λ n. come n (row r channel h).deadline) st.now
      ∙ come_is (row r channel h).deadline (now_of h);
}
