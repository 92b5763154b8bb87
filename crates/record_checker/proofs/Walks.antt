-- A checker that goes on by one entry.
use Rattle.std.proofs.Common.{◌≡◌, ℕ, suc, ◌+◌, ◌-◌, ◌<◌, ◌≤◌, List, [], ◌∷◌, ◌++◌, length, take, get_or, refl, sym, ◌∙◌, ap, subst, arith}
use Rattle.std.proofs.lemmas.List.{take_more, take_all, reverse-append, length-reverse}
use Rattle.call_history.specs.History.{Legal, newest_first, flow_of, flows_of, reply_to}
use Rattle.call_history.specs.declared.entry.Entry.{Entry}
use Rattle.call_history.specs.declared.funds.Flow.{Flow}
use Rattle.call_history.specs.declared.refusal.Reply.{Reply}
use Rattle.call_history.proofs.Conservation.{flows_of-push}
use Rattle.adjudicator.specs.Standing as core
use Rattle.adjudicator.specs.Standing.{Serves}
use Rattle.support_rules.specs.Real.{real}
use Rattle.record_checker.specs.Past.{Rests, AreRests}
use Rattle.run_record.specs.Sound.{IsLegal}
use Rattle.record_checker.specs.Faults.{IsFirstWrong}
use Rattle.record_checker.specs.Walking.{WalksTo}

-- the newest entry comes first
pub newest_push : (g : List Entry) (e : Entry) → newest_first (g ++ e ∷ []) ≡ e ∷ newest_first g
newest_push g e = reverse-append g (e ∷ [])

-- the entry has the next number and the adjudicator's reply
pub record IsNext (g : List Entry) (e : Entry) : Type 0 where
  pub number : e.number ≡ suc (length (newest_first g))
  pub reply : e.reply ≡ reply_to real (newest_first g) e.op

pub next_legal : (g : List Entry) (e : Entry) → IsLegal g → IsNext g e → Legal real (e ∷ newest_first g)
next_legal g e legal next = (legal, next.number, next.reply)

pub is_next : (g : List Entry) (e : Entry) (number : ℕ) (reply : Reply) → number ≡ length g + 1 → e.number ≡ number → e.reply ≡ reply → reply ≡ reply_to real (newest_first g) e.op → IsNext g e
is_next g e number reply counted numbered same replied = record {
  number = omega (arith, counted, numbered, length-reverse g);
  reply = same ∙ replied;
}

-- a legal history has the next number and the reply
pub was_next : (g : List Entry) (e : Entry) → IsLegal (g ++ e ∷ []) → IsNext g e
was_next g e legal =
    let parts : Legal real (e ∷ newest_first g) = subst (Legal real) (newest_push g e) legal in
    record { number = parts.1; reply = parts.2 }

pub goes_on : (g : List Entry) (e : Entry) (reply : Reply) (old new : core.Standing) (rests : Rests) (flows more : List Flow)
    → IsLegal g → flows ≡ flows_of g → core.StandsFor real (newest_first g) old → e.reply ≡ reply → IsNext g e
    → Serves real old e.op reply new → AreRests (e ∷ newest_first g) rests → more ≡ flows ++ flow_of e.op e.reply
    → WalksTo (g ++ e ∷ []) new rests more
goes_on g e reply old new rests flows more legal flow stand same next serves are adds =
    let pushed = newest_push g e in
    let stood : core.StandsFor real (record { number = e.number; by = e.by; op = e.op; reply = reply } ∷ newest_first g) new = serves.stands (newest_first g) e.number e.by stand in
    let stood_for : core.StandsFor real (e ∷ newest_first g) new = subst (λ (r : Reply). core.StandsFor real (record { number = e.number; by = e.by; op = e.op; reply = r } ∷ newest_first g) new) (sym same) stood in
    record {
      legal = subst (Legal real) (sym pushed) (next_legal g e legal next);
      past = record {
        stands = subst (λ (h : List Entry). core.StandsFor real h new) (sym pushed) stood_for;
        left = subst (λ (h : List Entry). AreRests h rests) (sym pushed) are;
      };
      flow = adds ∙ ap (λ (fs : List Flow). fs ++ flow_of e.op e.reply) flow ∙ sym (flows_of-push g e);
    }

-- at the start
pub walks_from : (a : core.Standing) (rests : Rests) (flows : List Flow) → core.StandsFor real [] a → rests ≡ [] → flows ≡ [] → WalksTo [] a rests flows
walks_from a rests flows stand none no_flows = record {
  legal = tt;
  past = record { stands = stand; left = subst (AreRests []) (sym none) (λ channel. refl) };
  flow = no_flows;
}

-- what is walked to after one more entry of a list
pub walked_on : (h : List Entry) (i : ℕ) (e : Entry) (a : core.Standing) (rests : Rests) (flows : List Flow) → i < length h → e ≡ get_or h i e → WalksTo (take i h ++ e ∷ []) a rests flows → WalksTo (take (i + 1) h) a rests flows
walked_on h i e a rests flows inside is walked =
    subst (λ (g : List Entry). WalksTo g a rests flows) (ap (λ (x : Entry). take i h ++ x ∷ []) is ∙ sym (take_more h i e inside)) walked

pub walked_all : (h : List Entry) (i : ℕ) (a : core.Standing) (rests : Rests) (flows : List Flow) → length h ≤ i → WalksTo (take i h) a rests flows → WalksTo h a rests flows
walked_all h i a rests flows le walked = subst (λ (g : List Entry). WalksTo g a rests flows) (take_all i h le) walked

-- one more of a list
pub first_wrong : (h : List Entry) (i : ℕ) (e : Entry) → i < length h → e ≡ get_or h i e → IsLegal (take i h) → (IsLegal (take i h ++ e ∷ []) → ⊥) → IsFirstWrong h (i + 1)
first_wrong h i e inside is before wrong = record {
  counted = omega arith;
  inside = omega (arith, inside);
  before = subst (λ (n : ℕ). IsLegal (take n h)) at before;
  wrong = λ legal. wrong (subst IsLegal (take_more h i e inside ∙ ap (λ (x : Entry). take i h ++ x ∷ []) (sym is)) legal);
}
  where
    at : i ≡ i + 1 - 1
    at = omega arith
