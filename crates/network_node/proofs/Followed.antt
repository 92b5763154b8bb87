-- How far a node followed the entries that it is shown.
use Rattle.std.proofs.Common.{◌≡◌, ℕ, zero, suc, ◌+◌, ◌<◌, ◌≤◌, arith, List, [], ◌∷◌, length, refl, sym, ◌∙◌, ap, drop, get_or, add-one, drop-cons}
use Rattle.call_history.specs.declared.entry.Entry.{Entry}
use Rattle.channel_node.specs.Nodes.{NodeOf, saw_one, saw_all}
use Rattle.channel_node.specs.Answers.{SameJournal}
use Rattle.support_rules.specs.Real.{real}

pub record Seeing (entries : List Entry) (start : NodeOf) (i : ℕ) (n : NodeOf) : Type 0 where
  pub rest : saw_all real entries start ≡ saw_all real (drop i entries) n
  pub same : SameJournal start n
  pub signer : n.signer ≡ start.signer

pub seeing_steps : (entries : List Entry) (start : NodeOf) (i : ℕ) (n new : NodeOf) (d e : Entry) → i < length entries → e ≡ get_or entries i d → Seeing entries start i n → new ≡ saw_one real n e
    → Seeing entries start (i + 1) new
seeing_steps entries start i n new d e below is before new-is =
    let split : drop i entries ≡ e ∷ drop (i + 1) entries = rw (is, add-one) (drop-cons entries i d below) in
    record {
      rest = before.rest ∙ ap (λ (xs : List Entry). saw_all real xs n) split ∙ ap (saw_all real (drop (i + 1) entries)) (sym new-is);
      same = record { journal = ap (λ (k : NodeOf). k.journal) new-is ∙ before.same.journal; commands = ap (λ (k : NodeOf). k.commands) new-is ∙ before.same.commands };
      signer = ap (λ (k : NodeOf). k.signer) new-is ∙ before.signer;
    }

-- one entry more that memory cut off
pub same_after : (start mid new : NodeOf) → SameJournal start mid → SameJournal mid new → SameJournal start new
same_after start mid new first second = record { journal = second.journal ∙ first.journal; commands = second.commands ∙ first.commands }

none-left : (entries : List Entry) (i : ℕ) → length entries ≤ i → drop i entries ≡ []
none-left [] zero h = refl
none-left [] (suc i) h = refl
none-left (e ∷ entries) zero h = absurd (omega arith)
none-left (e ∷ entries) (suc i) h = none-left entries i (omega arith)

-- at the end
pub seen_whole : (entries : List Entry) (start : NodeOf) (i : ℕ) (n : NodeOf) → Seeing entries start i n → length entries ≤ i → n ≡ saw_all real entries start
seen_whole entries start i n before past = sym (before.rest ∙ ap (λ (xs : List Entry). saw_all real xs n) (none-left entries i past))
