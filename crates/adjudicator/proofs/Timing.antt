-- What a time entry does to what an adjudicator stands for.
use Rattle.std.proofs.Common.{◌≡◌, ℕ, ◌<◌, ◌≤◌, ◌^◌, Bool, true, false, refl, sym, ◌∙◌, ap, arith}
use Rattle.std.proofs.lemmas.Bool.Decides.{nat_tests}
use Rattle.std.specs.Prelude.{Result, Ok, Err, nat_lt}
use Rattle.channel_values.specs.Rules.{Rules}
use Rattle.call_history.specs.Refusing.{told, refuse_if}
use Rattle.call_history.specs.Replies as replies
use Rattle.call_history.specs.History.{is_accepted, reply_to}
use Rattle.call_history.specs.declared.call.Op.TheVariants as ops
use Rattle.call_history.specs.declared.refusal.Refusal.{Refusal}
use Rattle.call_history.specs.declared.refusal.Refusal.TheVariants.{Backwards, TooLate}
use Rattle.call_history.specs.declared.refusal.Reply.TheVariants.{Now, No}
use Rattle.adjudicator.specs.Standing.{Standing, Serves}
use Rattle.adjudicator.proofs.Stands.{stands_unchanged, stands_timed}

-- what a time answers, by its two tests
abbrev answer_by : Bool → Bool → ℕ → ℕ → Result ℕ Refusal
answer_by back late now to = refuse_if back (Backwards now) (refuse_if late TooLate (Ok to))

pub earlier : (now to : ℕ) → to < now → replies.time now to ≡ Err (Backwards now)
earlier now to lt = let back : nat_lt to now ≡ true = grind (arith, nat_tests) in ap (λ b. answer_by b (nat_lt (2 ^ 62) to) now to) back

not_back : (now to : ℕ) → now ≤ to → nat_lt to now ≡ false
not_back now to le = grind (arith, nat_tests)

pub too_late : (now to : ℕ) → now ≤ to → 2 ^ 62 < to → replies.time now to ≡ Err TooLate
too_late now to le lt =
    let late : nat_lt (2 ^ 62) to ≡ true = grind (arith, nat_tests) in
    ap (λ b. answer_by b (nat_lt (2 ^ 62) to) now to) (not_back now to le) ∙ ap (λ b. answer_by false b now to) late

pub in_order : (now to : ℕ) → now ≤ to → to ≤ 2 ^ 62 → replies.time now to ≡ Ok to
in_order now to le most =
    let late : nat_lt (2 ^ 62) to ≡ false = grind (arith, nat_tests) in
    ap (λ b. answer_by b (nat_lt (2 ^ 62) to) now to) (not_back now to le) ∙ ap (λ b. answer_by false b now to) late

pub time_refused : (r : Rules) (s : Standing) (to : ℕ) (refusal : Refusal) → replies.time s.now to ≡ Err refusal → Serves r s (ops.Time to) (No refusal) s
unfolding reply_to
time_refused r s to refusal e = record {
  reply = λ h st. ap (told Now) (sym e ∙ ap (λ n. replies.time n to) st.now);
  stands = λ h number by st. stands_unchanged r h s number by (ops.Time to) refusal st;
  refused = λ other said. refl;
}

pub time_set : (r : Rules) (s t : Standing) (to : ℕ) → replies.time s.now to ≡ Ok to → t.now ≡ to → t.rows ≡ s.rows → t.funds ≡ s.funds → t.items ≡ s.items
    → Serves r s (ops.Time to) (Now to) t
unfolding reply_to
time_set r s t to e now rows funds items = record {
  reply = λ h st. ap (told Now) (sym e ∙ ap (λ n. replies.time n to) st.now);
  stands = λ h number by st. stands_timed r h s t number by to st funds items rows now;
  refused = λ refusal said. (let never : true ≡ false = ap is_accepted said in absurd cc);
}
