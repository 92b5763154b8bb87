-- What is fair lowers nothing that a funded plan is worth.
use Rattle.std.proofs.Common.{◌≡◌, ℕ, ◌+◌, ◌≤◌, Bool, true, false, ◌||◌, List, refl, sym, ◌∙◌, ap, subst, arith, inl, inr, ◌⊎◌}
use Rattle.std.proofs.Math.Path.{fun_ext}
use Rattle.std.proofs.lemmas.Bool.{false≢true}
use Rattle.std.specs.Str.{bytes_eq}
use Rattle.channel_values.specs.Outcomes.{AreApart, total}
use Rattle.channel_values.specs.declared.value.Dest.{Dest}
use Rattle.channel_values.specs.declared.value.Dest.TheVariants.{Person, Channel}
use Rattle.channel_values.specs.declared.value.Item.{Item}
use Rattle.channel_values.specs.Amounts.{amt, has}
use Rattle.call_history.specs.Flows.{is_among}
use Rattle.channel_safety.specs.Journals.{In}
use Rattle.funding_plans.specs.declared.plan.Part.{Part}
use Rattle.funding_plans.specs.declared.plan.Part.TheVariants.{Root, OnLedger, End, Middle}
use Rattle.funding_plans.specs.declared.plan.Virtual.{Virtual}
use Rattle.share_laws.specs.Books.{Books}
use Rattle.share_laws.specs.Worth.{no_reach, worth}
use Rattle.funding_plans.specs.Parts.{own_channel, own_ledger, own_guarantor, channels_of, ledgers_of}
use Rattle.share_laws.specs.Funded.{up_to}
use Rattle.share_laws.specs.Plans.{IsPlan, IsBare, reaches}
use Rattle.share_laws.specs.Moves.{owing, IsApart, IsApartBetween, IsInFull, Backs, Joins, JoinsEnd, JoinsBetween, stays, improves, sets_aside, takes_back, joins, parts}
use Rattle.share_laws.specs.SigningLaws.{FairMovesKeepWorth}
use Rattle.call_history.proofs.Names.{same_bytes, bytes_eq_self}
use Rattle.share_laws.proofs.Choices.{differ-flip}
use Rattle.share_laws.proofs.Apart.{or-none}
use Rattle.share_laws.proofs.Counts.{or-left, or-right, part-apart}
use Rattle.share_laws.proofs.Funded.{funded-covers, ledger-off}
use Rattle.share_laws.proofs.LedgerMoves.{ledger_moves, Backs-ledger, last-two}
use Rattle.share_laws.proofs.JointMoves.{joint_moves, has_joint-has, Joins-joint}
use Rattle.share_laws.proofs.Payments.{payments_lower}

module _ (held : List ℕ → ℕ) (counts : List ℕ → Bool) (list : List ℕ → List Dest) (before after : List ℕ → List Item) (n : List ℕ)
    (others : (m : List ℕ) → bytes_eq m n ≡ false → after m ≡ before m) (me : List ℕ) where
  abbrev b : Books
  b = owing held counts list before

  abbrev c : Books
  c = owing held counts list after

  same : (m : List ℕ) → bytes_eq n m ≡ false → before m ≡ after m
  same m ne = sym (others m (differ-flip n m ne))

  -- the part has the same of a ledger in both, where the ledger's items alone differ
  Backs-same : (p : Part) (x : List ℕ) (mine all : ℕ) → is_among n (channels_of p) ≡ false → Backs b me p n x mine all → Backs c me p n x mine all
  Backs-same (Root m) x mine all out k = absurd k
  Backs-same (OnLedger m y) x mine all out k =
      let e : before y ≡ after y = same y (or-none (bytes_eq n y) false out).0 in
      (k.0, k.1, subst (λ (xs : List Item). amt xs (Person me) ≡ mine) e k.2, subst (λ (xs : List Item). up_to xs (Person me) ≤ all) e k.3)
  Backs-same (End v) x mine all out k =
      let e : before v.joint ≡ after v.joint = same v.joint (last-two (bytes_eq n v.guarantor_a) (bytes_eq n v.guarantor_b) _ (bytes_eq n v.channel) out).0 in
      (k.0, k.1, k.2, k.3, k.4, subst (λ (xs : List Item). IsApart me v.channel mine xs) e k.5)
  Backs-same (Middle v) x mine all out k =
      let e : before v.joint ≡ after v.joint = same v.joint (last-two (bytes_eq n v.guarantor_a) (bytes_eq n v.guarantor_b) _ (bytes_eq n v.channel) out).0 in
      record {
        a = k.a;
        c = k.c;
        joint = subst (λ (xs : List Item). IsApartBetween c me v k.a k.c xs) e
            (record { channel = k.joint.channel; first = k.joint.first; second = k.joint.second; own = k.joint.own; whole = k.joint.whole });
        counts = k.counts;
        whole = k.whole;
        side = k.side;
      }

  InFull-same : (l g : List ℕ) (all : ℕ) → bytes_eq n l ≡ false → IsInFull b l g all → IsInFull c l g all
  InFull-same l g all ne f =
      let e : before l ≡ after l = same l ne in
      record {
        counts = f.counts;
        named = subst (λ (xs : List Item). has xs (Channel g) ≡ true) e f.named;
        amount = subst (λ (xs : List Item). amt xs (Channel g) ≡ all) e f.amount;
      }

  -- the part has the same beside its joint channel in both, where the joint channel's items alone differ
  Joins-same : (p : Part) (js ks : List Item) → ((l : List ℕ) → is_among l (ledgers_of p) ≡ true → bytes_eq n l ≡ false) →
      ((v : Virtual) → p ≡ End v → bytes_eq n v.channel ≡ false) → Joins b me p n js ks → Joins c me p n js ks
  Joins-same (Root m) js ks nl nx k = absurd k
  Joins-same (OnLedger m y) js ks nl nx k = absurd k
  Joins-same (End v) js ks nl nx k =
      let e : before v.channel ≡ after v.channel = same v.channel (nx v refl) in
      let j : JoinsEnd b me v js ks = k.1 in (
        k.0,
        record {
          mine = j.mine;
          apart = j.apart;
          together = j.together;
          own = subst (λ (xs : List Item). amt xs (Person me) ≡ j.mine) e j.own;
          within = subst (λ (xs : List Item). up_to xs (Person me) ≤ v.total) e j.within;
          full = InFull-same (own_ledger v) (own_guarantor v) v.total (nl (own_ledger v) (or-left _ false (bytes_eq_self (own_ledger v)))) j.full;
        },
      )
  Joins-same (Middle v) js ks nl nx k =
      let j : JoinsBetween b me v js ks = k.1 in (
        k.0,
        record {
          a = j.a;
          c = j.c;
          apart = record { channel = j.apart.channel; first = j.apart.first; second = j.apart.second; own = j.apart.own; whole = j.apart.whole };
          together = record { channel = j.together.channel; first = j.together.first; second = j.together.second; own = j.together.own };
          full_a = InFull-same v.ledger_a v.guarantor_a v.total (nl v.ledger_a (or-left _ _ (bytes_eq_self v.ledger_a))) j.full_a;
          full_b = InFull-same v.ledger_b v.guarantor_b v.total (nl v.ledger_b (or-right (bytes_eq v.ledger_b v.ledger_a) _ (or-left _ false (bytes_eq_self v.ledger_b)))) j.full_b;
        },
      )

  -- its ledgers aren't the joint channel, nor is its payment channel
  ledgers-off : (ps : List Part) → IsPlan ps → (p : Part) → In p ps → (js ks : List Item) → Joins b me p n js ks →
      (l : List ℕ) → is_among l (ledgers_of p) ≡ true → bytes_eq n l ≡ false
  ledgers-off ps plan p i js ks k l h = by_test (bytes_eq n l) refl
    where
      by_test : (t : Bool) → bytes_eq n l ≡ t → t ≡ false
      by_test true e =
          let out : is_among l (channels_of p) ≡ false = ledger-off ps plan p i l h in
          let is : is_among n (channels_of p) ≡ true = has_joint-has n p (Joins-joint b me p n js ks k) in
          absurd (false≢true (sym out ∙ subst (λ (z : List ℕ). is_among z (channels_of p) ≡ true) (same_bytes n l e) is))
      by_test false e = refl

  channel-off : (ps : List Part) → IsPlan ps → (p : Part) → In p ps → (js ks : List Item) → Joins b me p n js ks → bytes_eq n (own_channel p) ≡ false
  channel-off ps plan p i js ks k = by_kind p (part-apart ps plan.apart p i) k
    where
      by_kind : (q : Part) → AreApart bytes_eq (channels_of q) → Joins b me q n js ks → bytes_eq n (own_channel q) ≡ false
      by_kind (Root m) a j = absurd j
      by_kind (OnLedger m y) a j = absurd j
      by_kind (End v) a j = subst (λ (z : List ℕ). bytes_eq z v.channel ≡ false) j.0 (or-none (bytes_eq v.joint v.channel) false a.1.1.0).0
      by_kind (Middle v) a j = subst (λ (z : List ℕ). bytes_eq z v.channel ≡ false) j.0 (or-none (bytes_eq v.joint v.channel) false a.1.1.0).0

pub fair_moves : FairMovesKeepWorth
fair_moves me ps plan held counts list before after n others funded fair = elim fair [
  | stays e ↦ below (ap (λ (items : List ℕ → List Item). worth (owing held counts list items) me ps no_reach) (fun_ext (λ m. each e m (bytes_eq m n) (same_bytes m n) (others m))))
  | improves out affords ↦
      let e : worth (owing held counts list before) me ps no_reach ≤ worth (owing held counts list after) me ps no_reach + 0 =
      payments_lower me ps plan held counts list before after n others out 0 (λ r. let a = affords r in omega (arith, a)) in
      omega (arith, e)
  | sets_aside p x mine all i k s ↦
      let there : is_among n (ledgers_of p) ≡ true = Backs-ledger (owing held counts list before) me p n x mine all k in
      below (ledger_moves me ps plan held counts list before after n others (inl (funded-covers (owing held counts list before) me ps plan funded p i n there)) x mine all s p i k)
  | takes_back p x mine all i k s ↦
      let there : is_among n (ledgers_of p) ≡ true = Backs-ledger (owing held counts list before) me p n x mine all k in
      let cov : total (before n) ≤ reaches (owing held counts list before) no_reach ps n = funded-covers (owing held counts list before) me ps plan funded p i n there in
      let out : is_among n (channels_of p) ≡ false = ledger-off ps plan p i n there in
      let w : total (before n) ≡ total (after n) = s.whole in
      below (sym (ledger_moves me ps plan held counts list after before n (λ m ne. sym (others m ne)) (inr (omega (arith, w, cov))) x mine all s p i
      (Backs-same held counts list before after n others me p x mine all out k)))
  | joins p i bare k ↦
      below (joint_moves me ps plan held counts list before after n others p i bare (λ l h. inl (funded-covers (owing held counts list before) me ps plan funded p i l h)) k)
  | parts p i bare k ↦
      let nl : (l : List ℕ) → is_among l (ledgers_of p) ≡ true → bytes_eq n l ≡ false = ledgers-off held counts list before after n others me ps plan p i (after n) (before n) k in
      let nx : bytes_eq n (own_channel p) ≡ false = channel-off held counts list before after n others me ps plan p i (after n) (before n) k in
      below (sym (joint_moves me ps plan held counts list after before n (λ m ne. sym (others m ne)) p i
      (subst (λ (xs : List Item). IsBare ps (own_channel p) xs) (sym (others (own_channel p) (differ-flip n (own_channel p) nx))) bare)
      (λ l h. inr (subst (λ (xs : List Item). total xs ≤ reaches (owing held counts list before) no_reach ps l) (sym (others l (differ-flip n l (nl l h))))
      (funded-covers (owing held counts list before) me ps plan funded p i l h)))
      (Joins-same held counts list before after n others me p (after n) (before n) nl
      (λ v e. subst (λ (z : Part). bytes_eq n (own_channel z) ≡ false) e nx) k)))
]
  where
    below : worth (owing held counts list before) me ps no_reach ≡ worth (owing held counts list after) me ps no_reach →
        worth (owing held counts list before) me ps no_reach ≤ worth (owing held counts list after) me ps no_reach
    below e = omega (arith, e)

    each : after n ≡ before n → (m : List ℕ) (t : Bool) → (t ≡ true → m ≡ n) → (t ≡ false → after m ≡ before m) → before m ≡ after m
    each e m true is rest = subst (λ (z : List ℕ). before z ≡ after z) (sym (is refl)) (sym e)
    each e m false is rest = sym (rest refl)
