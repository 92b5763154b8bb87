-- What a node signs, by what is kept of the channel.
use Rattle.std.proofs.Common.{◌≡◌, ℕ, ◌==◌, ◌&&◌, Bool, true, false, cond, List, Some, None, refl, sym, ◌∙◌, ap}
use Rattle.std.specs.Prelude.{Option, is_none}
use Rattle.channel_values.specs.Parts.{StateParts}
use Rattle.channel_values.specs.Rows.{mover}
use Rattle.channel_values.specs.Rules.{Rules, people}
use Rattle.call_history.proofs.Names.{bytes_eq_self}
use Rattle.channel_store.specs.Keeping.{next_of}
use Rattle.channel_store.specs.Storing.{kept_of}
use Rattle.channel_store.specs.declared.kept.Kept.{Kept}
use Rattle.funding_plans.specs.Known.{FactsOf}
use Rattle.network.specs.declared.command.Command.{Command}
use Rattle.network.specs.declared.command.Command.TheVariants.{Pay}
use Rattle.channel_node.specs.Minds.{Mind, facts_of}
use Rattle.channel_node.specs.Refusing.{is_open, stands_in, not_open, paying, follows, can_sign, if_signable, wish_staying, signs_of, signs_in}
use Rattle.channel_node.specs.Tables.{Tables}

signs_no : (ts : Tables) (r : Rules) (pending : Option Command) (m : Mind) (channel : List ℕ) → None ≡ kept_of channel m.kept → None ≡ signs_in ts r pending m channel
signs_no ts r pending m channel e = ap (signs_of ts r pending m channel) e

pub signs_nothing : (ts : Tables) (r : Rules) (m : Mind) (channel : List ℕ) → None ≡ kept_of channel m.kept → None ≡ signs_in ts r None m channel
signs_nothing ts r m channel e = signs_no ts r None m channel e

pub signs_wanted : (ts : Tables) (r : Rules) (m : Mind) (channel : List ℕ) (k : Kept) (f : FactsOf) (state signed : Option StateParts) → f ≡ facts_of m → Some k ≡ kept_of channel m.kept
    → state ≡ cond m.left None (cond (is_none (not_open ts (facts_of m))) (ts.wanted (facts_of m) channel) None) → signed ≡ if_signable r f channel k state → signed ≡ signs_in ts r None m channel
signs_wanted ts r m channel k f state signed facts found wished is =
    is ∙ ap (if_signable r f channel k) wished
    ∙ ap (λ (g : FactsOf). if_signable r g channel k (cond m.left None (cond (is_none (not_open ts (facts_of m))) (ts.wanted (facts_of m) channel) None))) facts
    ∙ ap (signs_of ts r None m channel) found

-- ---- payments

signs_no_more : (ts : Tables) (r : Rules) (pending : Option Command) (m : Mind) (channel : List ℕ) (o : Option Kept) → m.left ≡ true → None ≡ signs_of ts r pending m channel o
signs_no_more ts r pending m channel None gone = refl
signs_no_more ts r pending m channel (Some k) gone = sym (ap (λ (b : Bool). if_signable r (facts_of m) channel k (cond b None (wish_staying ts pending m channel k))) gone)

-- nothing once it left
pub pays_nothing_more : (ts : Tables) (r : Rules) (m : Mind) (channel : List ℕ) (asset amount : ℕ) → m.left ≡ true → None ≡ signs_in ts r (Some (Pay channel asset amount)) m channel
pays_nothing_more ts r m channel asset amount gone = signs_no_more ts r (Some (Pay channel asset amount)) m channel (kept_of channel m.kept) gone

pub signs_no_payment : (ts : Tables) (r : Rules) (m : Mind) (channel : List ℕ) (asset amount : ℕ) → None ≡ kept_of channel m.kept → None ≡ signs_in ts r (Some (Pay channel asset amount)) m channel
signs_no_payment ts r m channel asset amount e = signs_no ts r (Some (Pay channel asset amount)) m channel e

pays : (ts : Tables) (r : Rules) (m : Mind) (channel : List ℕ) (asset amount : ℕ) (k : Kept) → m.left ≡ false → Some k ≡ kept_of channel m.kept
    → if_signable r (facts_of m) channel k (Some (paying m channel asset amount k)) ≡ signs_in ts r (Some (Pay channel asset amount)) m channel
pays ts r m channel asset amount k stays found =
    ap (λ (b : Bool). if_signable r (facts_of m) channel k (cond b (Some (paying m channel asset amount k)) None)) (sym (bytes_eq_self channel))
    ∙ ap (λ (b : Bool). if_signable r (facts_of m) channel k (cond b None (wish_staying ts (Some (Pay channel asset amount)) m channel k))) (sym stays)
    ∙ ap (signs_of ts r (Some (Pay channel asset amount)) m channel) found

pub signs_payment : (ts : Tables) (r : Rules) (m : Mind) (channel : List ℕ) (asset amount : ℕ) (k : Kept) (f : FactsOf) (state : StateParts) (signed : Option StateParts) → m.left ≡ false → f ≡ facts_of m → Some k ≡ kept_of channel m.kept
    → state ≡ paying m channel asset amount k → signed ≡ if_signable r f channel k (Some state) → signed ≡ signs_in ts r (Some (Pay channel asset amount)) m channel
signs_payment ts r m channel asset amount k f state signed stays facts found paid is =
    is ∙ ap (λ (g : FactsOf). if_signable r g channel k (Some state)) facts
    ∙ ap (λ (s : StateParts). if_signable r (facts_of m) channel k (Some s)) paid
    ∙ pays ts r m channel asset amount k stays found

no_turn : (a b c : Bool) → (a && ((b && false) && c)) ≡ false
no_turn true true c = refl
no_turn true false c = refl
no_turn false b c = refl

pub signs_at_own_turn : (ts : Tables) (r : Rules) (m : Mind) (channel : List ℕ) (asset amount : ℕ) (k : Kept) → m.left ≡ false → Some k ≡ kept_of channel m.kept → (mover (people k.chain.fixed) (next_of k) == k.me) ≡ false
    → None ≡ signs_in ts r (Some (Pay channel asset amount)) m channel
signs_at_own_turn ts r m channel asset amount k stays found others =
    sym (ap (λ (b : Bool). cond b (Some (paying m channel asset amount k)) None) cannot) ∙ pays ts r m channel asset amount k stays found
  where
    cannot : can_sign r (facts_of m) channel k (paying m channel asset amount k) ≡ false
    cannot =
        ap (λ (b : Bool). follows r k (paying m channel asset amount k) && (((next_of k == next_of k) && b) && is_open (stands_in (facts_of m) channel))) others
        ∙ no_turn (follows r k (paying m channel asset amount k)) (next_of k == next_of k) (is_open (stands_in (facts_of m) channel))
