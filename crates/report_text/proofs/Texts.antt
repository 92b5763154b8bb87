-- What one more entry or refused command adds to a text.
use Rattle.std.proofs.Common.{◌≡◌, ◌+◌, ◌<◌, ℕ, List, [], ◌∷◌, ◌++◌, take, length, get_or, sym, ◌∙◌, ap}
use Rattle.std.specs.Prelude.{reverse}
use Rattle.std.specs.Ordering.{nat_cmp}
use Rattle.std.specs.BTreeSet.{insert_key}
use Rattle.std.proofs.lemmas.List.{take_more, reverse-append}
use Rattle.std.proofs.lemmas.List.Sums.{fold_more}
use Rattle.call_history.specs.History.{newest_first, time_set, or_before, now_of, flow_of, flows_of}
use Rattle.call_history.specs.declared.entry.Entry.{Entry}
use Rattle.call_history.proofs.Conservation.{flows_of-push}
use Rattle.report_text.specs.People.{refused_steps}
use Rattle.report_text.specs.declared.commands.Refused.{Refused}

-- one more refused command
pub steps_of_more : (refused : List Refused) (i : ℕ) (seen new : List ℕ) (d : Refused) → i < length refused → seen ≡ refused_steps (take i refused) → new ≡ insert_key nat_cmp seen (get_or refused i d).step → new ≡ refused_steps (take (i + 1) refused)
steps_of_more refused i seen new d h before after =
    after ∙ ap (λ s. insert_key nat_cmp s (get_or refused i d).step) before ∙ sym (fold_more (λ (s : List ℕ) (r : Refused). insert_key nat_cmp s r.step) [] refused i d h)

-- the newest entry comes first
pub newest_first-push : (h : List Entry) (e : Entry) → newest_first (h ++ e ∷ []) ≡ e ∷ newest_first h
newest_first-push h e = reverse-append h (e ∷ [])

newest_first_more : (h : List Entry) (i : ℕ) (d : Entry) → i < length h → newest_first (take (i + 1) h) ≡ get_or h i d ∷ newest_first (take i h)
newest_first_more h i d l = ap reverse (take_more h i d l) ∙ newest_first-push (take i h) (get_or h i d)

pub now_of_more : (h : List Entry) (i : ℕ) (before after : ℕ) (d : Entry) → i < length h → before ≡ now_of (newest_first (take i h))
    → after ≡ or_before (time_set (get_or h i d).op (get_or h i d).reply) before → after ≡ now_of (newest_first (take (i + 1) h))
now_of_more h i before after d l old new =
    new ∙ ap (or_before (time_set (get_or h i d).op (get_or h i d).reply)) old ∙ sym (ap now_of (newest_first_more h i d l))

pub flows_of_more : (h : List Entry) (i : ℕ) (d : Entry) → i < length h → flows_of (take (i + 1) h) ≡ flows_of (take i h) ++ flow_of (get_or h i d).op (get_or h i d).reply
flows_of_more h i d l = ap flows_of (take_more h i d l) ∙ flows_of-push (take i h) (get_or h i d)
