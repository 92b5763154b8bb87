-- All that is said of an entry, and a report.
use Rattle.std.proofs.Common.{◌≡◌, ℕ, Bool, List, [], ◌∷◌, ◌++◌, refl, sym, ◌∙◌, ap, subst}
use Rattle.std.specs.Prelude.{IsTrue, ◌↔◌, Option}
use Rattle.std.proofs.lemmas.List.{append_assoc}
use Rattle.channel_values.specs.Parts.{FixedParts}
use Rattle.call_history.specs.History.{reply_to}
use Rattle.call_history.specs.declared.entry.Entry.{Entry}
use Rattle.support_rules.specs.Real.{real}
use Rattle.network.specs.Entered.{oldest_first}
use Rattle.premises.specs.Collision.{Distinct}
use Rattle.premises.specs.Persons.{IsUnforged, IsInTime}
use Rattle.premises.specs.declared.journal.Journal.{Journal}
use Rattle.node_lines.specs.Texts.{report_text}
use Rattle.node_lines.specs.declared.effects.Effect.{Effect}
use Rattle.node_lines.specs.declared.entries.LedgerEntry.{LedgerEntry}
use Rattle.lasting_node.specs.Effects.{calls, of_entry, of_time}
use Rattle.lasting_node.specs.Machines.{entering, seeing, looking, new_calls, time_of, entry_effects, after_entry}
use Rattle.lasting_node.specs.Queries.{journal_of, IsReport}
use Rattle.lasting_node.specs.declared.machine.NodeMachine.{NodeMachine}

entry-told : (e : LedgerEntry) (m : NodeMachine) (a1 a2 a3 : List Effect)
    → ((x : Entry) (past : List Entry) → (seeing (entering e m)).ledger ≡ x ∷ past
    → a1 ≡ of_entry (time_of m) (seeing (entering e m)).node x.op x.reply)
    → a2 ≡ a1 ++ calls 0 (new_calls (seeing (entering e m))) → a3 ≡ a2 ++ of_time (after_entry e m).node → a3 ≡ entry_effects e m
entry-told e m a1 a2 a3 told more time =
    let said = of_entry (time_of m) (seeing (entering e m)).node e.op (reply_to real m.ledger e.op) in
    let given = calls 0 (new_calls (seeing (entering e m))) in
    let first : a1 ≡ said = told _ m.ledger refl in
    time ∙ ap (λ (z : List Effect). z ++ of_time (after_entry e m).node) (more ∙ ap (λ (z : List Effect). z ++ given) first)
    ∙ append_assoc said given (of_time (after_entry e m).node)

-- over machines that are known to be those of the definition, and the time before
pub entry_told : (e : LedgerEntry) (m m1 m2 m3 : NodeMachine) (before : ℕ) (a0 a1 a2 a3 : List Effect)
    → before ≡ time_of m → m1 ≡ entering e m → m2 ≡ seeing m1 → m3 ≡ looking 0 m2 → a0 ≡ []
    → ((x : Entry) (past : List Entry) → m2.ledger ≡ x ∷ past → a1 ≡ a0 ++ of_entry before m2.node x.op x.reply)
    → a2 ≡ a1 ++ calls 0 (new_calls m2) → a3 ≡ a2 ++ of_time m3.node → a3 ≡ entry_effects e m
entry_told e m m1 m2 m3 before a0 a1 a2 a3 was q1 q2 q3 none told more time =
    let s : m2 ≡ seeing (entering e m) = q2 ∙ ap seeing q1 in
    let l : m3 ≡ after_entry e m = q3 ∙ ap (looking 0) s in
    entry-told e m a1 a2 a3
    (λ x past is.
    subst (λ (t : ℕ). a1 ≡ of_entry t (seeing (entering e m)).node x.op x.reply) was
    (subst (λ (n : NodeMachine). a1 ≡ of_entry before n.node x.op x.reply) s
    (told x past (ap (λ (n : NodeMachine). n.ledger) s ∙ is) ∙ ap (λ (z : List Effect). z ++ of_entry before m2.node x.op x.reply) none)))
    (more ∙ ap (λ (n : NodeMachine). a1 ++ calls 0 (new_calls n)) s)
    (time ∙ ap (λ (n : NodeMachine). a2 ++ of_time n.node) l)

pub report_of : (m : NodeMachine) (h : List Entry) (j : Journal) (u d t : Bool) (exit : Option (List (ℕ × ℕ))) (text : List ℕ)
    → h ≡ oldest_first m.ledger → j ≡ journal_of m.node → exit ≡ m.node.exits
    → ((adds : ℕ → List FixedParts) → IsTrue u ↔ IsUnforged h adds j) → (IsTrue d ↔ Distinct h (j ∷ []))
    → ((adds : ℕ → List FixedParts) → IsTrue t ↔ IsInTime h adds j) → text ≡ report_text u d t exit → IsReport m text
report_of m h j u d t exit text qh qj qe own apart watched is =
    record {
      unforged = u;
      distinct = d;
      in_time = t;
      own = λ adds.
          subst (λ (k : Journal). IsTrue u ↔ IsUnforged (oldest_first m.ledger) adds k) qj
          (subst (λ (k : List Entry). IsTrue u ↔ IsUnforged k adds j) qh (own adds));
      apart =
          subst (λ (k : Journal). IsTrue d ↔ Distinct (oldest_first m.ledger) (k ∷ [])) qj
          (subst (λ (k : List Entry). IsTrue d ↔ Distinct k (j ∷ [])) qh apart);
      watched = λ adds.
          subst (λ (k : Journal). IsTrue t ↔ IsInTime (oldest_first m.ledger) adds k) qj
          (subst (λ (k : List Entry). IsTrue t ↔ IsInTime k adds j) qh (watched adds));
      is = is ∙ ap (report_text u d t) qe;
    }
