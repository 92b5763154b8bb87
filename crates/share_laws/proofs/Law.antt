-- Flows keep shares: each entry that moves funds, or is refused, lowers the share under no choice.
use Rattle.std.proofs.Common.{◌≡◌, ℕ, ◌+◌, ◌-◌, ◌≤◌, Bool, true, false, cond, ◌||◌, not, List, [], ◌∷◌, ◌++◌, refl, sym, ◌∙◌, ap, subst, arith, inl, inr}
use Rattle.std.specs.Prelude.{◌==◌, map, Option, Some, None, Result, Ok, Err}
use Rattle.std.specs.Str.{bytes_eq}
use Rattle.std.proofs.lemmas.Bool.{eqb-true}
use Rattle.channel_values.specs.Parts.{FixedParts}
use Rattle.channel_values.specs.Outcomes.{is_same}
use Rattle.channel_values.specs.declared.value.AssetOutcome.{AssetOutcome}
use Rattle.channel_values.specs.declared.value.Dest.{Dest}
use Rattle.channel_values.specs.declared.value.Dest.TheVariants.{Person, Channel}
use Rattle.channel_values.specs.declared.value.Item.{Item}
use Rattle.channel_values.specs.declared.value.Shape.{Shape}
use Rattle.channel_values.specs.declared.value.Shape.TheVariants.{Allocation}
use Rattle.channel_values.specs.Rules.{Rules}
use Rattle.call_history.specs.Mode.{is_final}
use Rattle.call_history.specs.Dues.{place_of, shape_in}
use Rattle.call_history.specs.Flows.{AreCovered, HasMoved, brings, held_in, paid_in}
use Rattle.call_history.specs.Refusing.{told}
use Rattle.call_history.specs.Rest.{lower_at}
use Rattle.call_history.specs.Replies as replies
use Rattle.call_history.specs.History.{Legal, is_accepted, now_of, row, mode, settled, item_dest, listed_dest, place_in, flow_to, flow_of, flows_of, held_of, paid_to, paid_of, payment_of, deposited_of, reply_to}
use Rattle.call_history.specs.Calls.{make_transfer, make_claim}
use Rattle.call_history.specs.declared.call.Call.TheVariants.{Deposit, Transfer, Claim}
use Rattle.call_history.specs.declared.call.DepositCall.{DepositCall}
use Rattle.call_history.specs.declared.call.Op.{Op}
use Rattle.call_history.specs.declared.call.Op.TheVariants as ops
use Rattle.call_history.specs.declared.entry.Entry.{Entry}
use Rattle.call_history.specs.declared.funds.Due.{Due}
use Rattle.call_history.specs.declared.funds.Flow.{Flow}
use Rattle.call_history.specs.declared.refusal.Refusal.{Refusal}
use Rattle.call_history.specs.declared.refusal.Reply.{Reply}
use Rattle.call_history.specs.declared.refusal.Reply.TheVariants.{Held, Paid, No}
use Rattle.call_history.proofs.Legality.{covered, moved_cons}
use Rattle.channel_safety.specs.Journals.{In, Line}
use Rattle.funding_plans.specs.Shapes.{items_of, list_of}
use Rattle.share_laws.specs.Books.{outcome_in, counts_in, varying}
use Rattle.share_laws.specs.Share.{worth_under}
use Rattle.share_laws.specs.Places.{plan, possible, channels, counting, counting_among, balances}
use Rattle.channel_safety.specs.Strings.{outcomes_in}
use Rattle.channel_safety.specs.Occurring.{NoCollision}
use Rattle.share_laws.specs.ShareLaws.{moves_funds, AreSeen, FlowsKeepShares}
use Rattle.share_laws.specs.Sound.{IsPromise, Guarantees}
use Rattle.share_laws.proofs.Counted.{outcome-changed, counts-changed, varying-changed}
use Rattle.share_laws.proofs.Least.{Takes, least_over-kept}
use Rattle.share_laws.proofs.Moving.{of_asset, Balanced, balanced, books_at, lowered-none, items-after, list-after, counts-after, promise-after}
use Rattle.share_laws.proofs.PartShares.{still, Pays, pays-kept}
use Rattle.share_laws.proofs.Paying.{Moved-still, elsewhere, transfers, claims}
use Rattle.share_laws.proofs.Payouts.{Ends, TransferDue, ClaimDue, ClaimOk, transfer_ok, claim_ok}
use Rattle.share_laws.proofs.Possible.{lowered, possible-same, possible-lowered}
use Rattle.share_laws.proofs.Quiet.{IsQuiet, is_quiet}
use Rattle.channel_safety.proofs.Settled.{final-told}
use Rattle.share_laws.proofs.Finals.{final-is}

-- ---- nothing is paid out

pub refused_moves_nothing : (op : Op) (reply : Reply) → is_accepted reply ≡ false → (flow_of op reply ≡ []) × (payment_of op reply ≡ [])
refused_moves_nothing (ops.Call (Deposit d)) (No refusal) h = (refl, refl)
refused_moves_nothing (ops.Call (Transfer t)) (No refusal) h = (refl, refl)
refused_moves_nothing (ops.Call (Claim k)) (No refusal) h = (refl, refl)
refused_moves_nothing op (No refusal) h = (refl, refl)
refused_moves_nothing op reply h = cc

same-none : (n : List ℕ) → (λ (o : List AssetOutcome). o) [] ≡ []
same-none n = refl

-- balances that don't fall, and no payment
pub record Rises (past : List Entry) (e : Entry) (me : List ℕ) : Type 0 where
  pub payment : payment_of e.op e.reply ≡ []
  pub held : (n : List ℕ) (a : ℕ) → held_of past n a ≤ held_of (e ∷ past) n a
  pub received : (a : ℕ) → paid_to past me a ≤ paid_to (e ∷ past) me a

no_flow : (past : List Entry) (e : Entry) (me : List ℕ) → flow_of e.op e.reply ≡ [] → payment_of e.op e.reply ≡ [] → Rises past e me
no_flow past e me flow payment = record {
  payment = payment;
  held = λ n a. let p : held_of (e ∷ past) n a ≡ held_of past n a = ap (λ (fs : List Flow). held_in (fs ++ flows_of past) n a) flow in omega (arith, p);
  received = λ a. let p : paid_to (e ∷ past) me a ≡ paid_to past me a = ap (λ (fs : List Flow). paid_in (fs ++ flows_of past) me a) flow in omega (arith, p);
}

deposited : (past : List Entry) (e : Entry) (me channel : List ℕ) (asset amount : ℕ) → AreCovered (flows_of past) →
    flow_of e.op e.reply ≡ record { from = None; to = Channel channel; asset = asset; amount = amount } ∷ [] → payment_of e.op e.reply ≡ [] → Rises past e me
deposited past e me channel asset amount cover flow payment = record {
  payment = payment;
  held = λ n a.
      let p : held_of (e ∷ past) n a ≡ held_in (x ∷ flows_of past) n a = ap (λ (fs : List Flow). held_in (fs ++ flows_of past) n a) flow in
      let m : held_in (x ∷ flows_of past) n a ≡ (held_of past n a + brings (Channel n) a x) - 0 = moved.held n a in
      omega (arith, p, m);
  received = λ a.
      let p : paid_to (e ∷ past) me a ≡ paid_in (x ∷ flows_of past) me a = ap (λ (fs : List Flow). paid_in (fs ++ flows_of past) me a) flow in
      let m = moved.paid me a in
      omega (arith, p, m);
}
  where
    x : Flow
    x = record { from = None; to = Channel channel; asset = asset; amount = amount }

    moved : HasMoved (flows_of past) x (x ∷ flows_of past)
    moved = moved_cons (flows_of past) x cover tt

-- ---- an entry

-- the entry is a payment or none in each asset and under each choice, and changes no choice
pub record Moves (r : Rules) (e : Entry) (past : List Entry) (front : List Line) (fs : List FixedParts) (me : List ℕ) : Type 0 where
  pub pays : (a : ℕ) (taken : List (List ℕ)) →
      Pays (books_at r past front fs a taken) (books_at r (e ∷ past) front fs a taken) (counting_among r past front fs) me (paid_to past me a) (paid_to (e ∷ past) me a)
  pub choices : varying (counting_among r (e ∷ past) front fs) ≡ varying (counting_among r past front fs)
  pub promises : (n joint : List ℕ) (list : List Dest) → Guarantees (counting_among r past front fs) n joint list → Guarantees (counting_among r (e ∷ past) front fs) n joint list

module _ (r : Rules) (e : Entry) (past : List Entry) (front : List Line) (fs : List FixedParts) (me : List ℕ) (legal : Legal r (e ∷ past)) (tell : NoCollision r (e ∷ past) front)
    (seen : AreSeen past front) (quiet : IsQuiet r e) where
  by_nothing : Rises past e me → Moves r e past front fs me
  by_nothing rises = record {
    pays = λ a taken. record {
      payer = [];
      owner = [];
      to = Person [];
      amount = 0;
      moved = Moved-still (books_at r past front fs a taken) (books_at r (e ∷ past) front fs a taken) [] [] (Person []) (λ n. rises.held n a)
          (λ n. ap (λ (o : List AssetOutcome). items_of (shape_in o a)) (outcomes taken n)) counts
          (λ n. ap (λ (o : List AssetOutcome). list_of (shape_in o a)) (outcomes taken n)) (λ n d. refl);
      received = let p = rises.received a in let z = none in omega (arith, p, z);
      guarantors = λ joint list promised. still refl;
    };
    choices = varying-changed (λ n o. o) same-none r past (e ∷ past) front changed fs;
    promises = λ n joint list p taken a. subst (λ (o : List AssetOutcome). IsPromise joint list (shape_in o a)) (sym (outcomes taken n)) (p taken a);
  }
    where
      changed : (f : FixedParts) → possible r (e ∷ past) front f ≡ map (λ o. o) (possible r past front f)
      changed f = possible-same r e past quiet front seen rises.payment f

      outcomes : (taken : List (List ℕ)) (n : List ℕ) → outcome_in (counting_among r (e ∷ past) front fs) taken n ≡ outcome_in (counting_among r past front fs) taken n
      outcomes taken n = outcome-changed (λ n o. o) same-none r past (e ∷ past) front changed fs taken n

      counts : (n : List ℕ) → counts_in (counting_among r (e ∷ past) front fs) n ≡ counts_in (counting_among r past front fs) n
      counts n = counts-changed (λ n o. o) same-none r past (e ∷ past) front changed fs n

      none : cond (is_same (Person []) (Person me)) 0 0 ≤ 0
      none = go (is_same (Person []) (Person me)) 0 (omega arith)
        where
          go : (t : Bool) (k : ℕ) → k ≤ 0 → cond t k 0 ≤ 0
          go true k h = h
          go false k h = omega arith

  refused : is_accepted e.reply ≡ false → Moves r e past front fs me
  refused h = by_nothing (no_flow past e me (refused_moves_nothing e.op e.reply h).0 (refused_moves_nothing e.op e.reply h).1)

  by_deposit : (d : DepositCall) → e.op ≡ ops.Call (Deposit d) → (x : Result ℕ Refusal) → e.reply ≡ told Held x → Moves r e past front fs me
  by_deposit d is (Ok n) reply =
      by_nothing (deposited past e me d.channel d.asset d.amount (covered r past legal.0)
      (ap (λ (op : Op). flow_of op e.reply) is ∙ ap (λ (y : Reply). flow_of (ops.Call (Deposit d)) y) reply)
      (ap (λ (op : Op). payment_of op e.reply) is ∙ ap (λ (y : Reply). payment_of (ops.Call (Deposit d)) y) reply))
  by_deposit d is (Err refusal) reply = refused (ap is_accepted reply)

  by_transfer : (channel : List ℕ) (outcome : List AssetOutcome) (asset index : ℕ) → e.op ≡ ops.Call (make_transfer channel outcome asset index) →
      (x : Result Due Refusal) → replies.transfer r (row r channel past) (now_of past) (paid_of past channel asset) (held_of past channel asset) channel outcome asset index ≡ x →
      e.reply ≡ told (λ due. Paid due.amount) x → Moves r e past front fs me
  by_transfer channel outcome asset index is (Err refusal) answer reply = refused (ap is_accepted reply)
  by_transfer channel outcome asset index is (Ok d) answer reply = record {
    pays = λ a taken. go a taken (asset == a) refl;
    choices = varying-changed (lowered channel asset index d.amount) (lowered-none channel asset index d.amount) r past (e ∷ past) front changed fs;
    promises = λ n joint list p taken a. promise-after r e past front fs channel asset index d.amount changed a taken joint list n (p taken a);
  }
    where
      call : Op
      call = ops.Call (make_transfer channel outcome asset index)

      ok : Ends r (row r channel past) (now_of past) outcome × TransferDue (paid_of past channel asset) (held_of past channel asset) (shape_in outcome asset) index d
      ok = transfer_ok r (row r channel past) (now_of past) (paid_of past channel asset) (held_of past channel asset) channel outcome asset index d answer

      final : is_final (mode r channel past) ≡ true
      final = ok.0.final

      on : settled r channel past ≡ Some outcome
      on = final-told.told r channel (e ∷ []) past front outcome legal.0 tell (final-is (mode r channel past) final)
          (e, inl refl, subst (λ (op : Op). In outcome (outcomes_in op)) (sym is) (inl refl)) (sym ok.0.digest)

      due : TransferDue (paid_of past channel asset) (held_of past channel asset) (shape_in outcome asset) index d
      due = ok.1

      flow : flow_of e.op e.reply ≡ record { from = Some channel; to = d.to; asset = asset; amount = d.amount } ∷ []
      flow =
          ap (λ (op : Op). flow_of op e.reply) is
          ∙ (ap (λ (y : Reply). flow_of call y) reply
          ∙ (ap (λ (s : Option Shape). flow_to (Some channel) (item_dest s index) asset d.amount) due.shape_is
          ∙ ap (λ (t : Option Dest). flow_to (Some channel) t asset d.amount) due.to_is))

      payment : payment_of e.op e.reply ≡ record { channel = channel; asset = asset; place = index; amount = d.amount } ∷ []
      payment = ap (λ (op : Op). payment_of op e.reply) is ∙ ap (λ (y : Reply). payment_of call y) reply

      changed : (f : FixedParts) → possible r (e ∷ past) front f ≡ map (lowered channel asset index d.amount (r.named f)) (possible r past front f)
      changed = possible-lowered r e past quiet front seen channel asset index d.amount payment final

      bal : (a : ℕ) → Balanced past e me channel d.to a (of_asset asset a d.amount)
      bal = balanced past e me channel d.to asset d.amount (covered r past legal.0) flow due.within

      go : (a : ℕ) (taken : List (List ℕ)) (t : Bool) → (asset == a) ≡ t →
          Pays (books_at r past front fs a taken) (books_at r (e ∷ past) front fs a taken) (counting_among r past front fs) me (paid_to past me a) (paid_to (e ∷ past) me a)
      go a taken false h =
          elsewhere r e past front fs me a taken channel channel d.to index d.amount
          (subst (λ (u : Bool). Balanced past e me channel d.to a (cond u d.amount 0)) h (bal a))
          (λ n. items-after r e past front fs channel asset index d.amount changed a taken n
          ∙ ap (λ (u : Bool). cond (bytes_eq channel n) (cond u (lower_at ((books_at r past front fs a taken).items n) index d.amount) ((books_at r past front fs a taken).items n)) ((books_at r past front fs a taken).items n)) h)
          (counts-after r e past front fs channel asset index d.amount changed a taken) (list-after r e past front fs channel asset index d.amount changed a taken)
      go a taken true h =
          transfers r e past front fs me a taken channel outcome index d final on
          (subst (λ (y : ℕ). TransferDue (paid_of past channel y) (held_of past channel y) (shape_in outcome y) index d) (eqb-true asset a h) due)
          (subst (λ (u : Bool). Balanced past e me channel d.to a (cond u d.amount 0)) h (bal a))
          (λ n. items-after r e past front fs channel asset index d.amount changed a taken n
          ∙ ap (λ (u : Bool). cond (bytes_eq channel n) (cond u (lower_at ((books_at r past front fs a taken).items n) index d.amount) ((books_at r past front fs a taken).items n)) ((books_at r past front fs a taken).items n)) h)
          (counts-after r e past front fs channel asset index d.amount changed a taken) (list-after r e past front fs channel asset index d.amount changed a taken)

  by_claim : (guarantor : List ℕ) (promise : List AssetOutcome) (target : List ℕ) (outcome : List AssetOutcome) (asset position : ℕ) →
      e.op ≡ ops.Call (make_claim guarantor promise target outcome asset position) → (x : Result Due Refusal) →
      replies.claim r (row r guarantor past) (row r target past) (now_of past) (paid_of past target asset) (held_of past guarantor asset) guarantor promise target outcome asset position ≡ x →
      e.reply ≡ told (λ due. Paid due.amount) x → Moves r e past front fs me
  by_claim guarantor promise target outcome asset position is (Err refusal) answer reply = refused (ap is_accepted reply)
  by_claim guarantor promise target outcome asset position is (Ok d) answer reply = record {
    pays = λ a taken. go a taken (asset == a) refl;
    choices = varying-changed (lowered target asset place d.amount) (lowered-none target asset place d.amount) r past (e ∷ past) front changed fs;
    promises = λ n joint list p taken a. promise-after r e past front fs target asset place d.amount changed a taken joint list n (p taken a);
  }
    where
      call : Op
      call = ops.Call (make_claim guarantor promise target outcome asset position)

      ok : ClaimOk r (row r guarantor past) (row r target past) (now_of past) (paid_of past target asset) (held_of past guarantor asset) promise target outcome asset position d
      ok = claim_ok r (row r guarantor past) (row r target past) (now_of past) (paid_of past target asset) (held_of past guarantor asset) guarantor promise target outcome asset position d answer

      due : ClaimDue (paid_of past target asset) (held_of past guarantor asset) (shape_in promise asset) target (shape_in outcome asset) position d
      due = ok.due

      place : ℕ
      place = place_of due.items d.to

      on_g : settled r guarantor past ≡ Some promise
      on_g = final-told.told r guarantor (e ∷ []) past front promise legal.0 tell (final-is (mode r guarantor past) ok.guarantor.final)
          (e, inl refl, subst (λ (op : Op). In promise (outcomes_in op)) (sym is) (inl refl)) (sym ok.guarantor.digest)

      on_t : settled r target past ≡ Some outcome
      on_t = final-told.told r target (e ∷ []) past front outcome legal.0 tell (final-is (mode r target past) ok.owner.final)
          (e, inl refl, subst (λ (op : Op). In outcome (outcomes_in op)) (sym is) (inr (inl refl))) (sym ok.owner.digest)

      to_is : listed_dest (shape_in promise asset) position ≡ Some d.to
      to_is = ap (λ (s : Option Shape). listed_dest s position) due.promise_is ∙ due.listed

      flow : flow_of e.op e.reply ≡ record { from = Some guarantor; to = d.to; asset = asset; amount = d.amount } ∷ []
      flow =
          ap (λ (op : Op). flow_of op e.reply) is
          ∙ (ap (λ (y : Reply). flow_of call y) reply
          ∙ ap (λ (t : Option Dest). flow_to (Some guarantor) t asset d.amount) to_is)

      payment : payment_of e.op e.reply ≡ record { channel = target; asset = asset; place = place; amount = d.amount } ∷ []
      payment =
          ap (λ (op : Op). payment_of op e.reply) is
          ∙ (ap (λ (y : Reply). payment_of call y) reply
          ∙ (ap (λ (s : Option Shape). record { channel = target; asset = asset; place = place_in s (listed_dest (shape_in promise asset) position); amount = d.amount } ∷ []) due.shape_is
          ∙ ap (λ (t : Option Dest). record { channel = target; asset = asset; place = place_in (Some (Allocation due.items)) t; amount = d.amount } ∷ []) to_is))

      changed : (f : FixedParts) → possible r (e ∷ past) front f ≡ map (lowered target asset place d.amount (r.named f)) (possible r past front f)
      changed = possible-lowered r e past quiet front seen target asset place d.amount payment ok.owner.final

      bal : (a : ℕ) → Balanced past e me guarantor d.to a (of_asset asset a d.amount)
      bal = balanced past e me guarantor d.to asset d.amount (covered r past legal.0) flow due.within

      to_a : (a : ℕ) → asset ≡ a → (x : ClaimDue (paid_of past target a) (held_of past guarantor a) (shape_in promise a) target (shape_in outcome a) position d) × (x.items ≡ due.items)
      to_a a same = subst (λ (y : ℕ). (x : ClaimDue (paid_of past target y) (held_of past guarantor y) (shape_in promise y) target (shape_in outcome y) position d) × (x.items ≡ due.items)) same (due, refl)

      go : (a : ℕ) (taken : List (List ℕ)) (t : Bool) → (asset == a) ≡ t →
          Pays (books_at r past front fs a taken) (books_at r (e ∷ past) front fs a taken) (counting_among r past front fs) me (paid_to past me a) (paid_to (e ∷ past) me a)
      go a taken false h =
          elsewhere r e past front fs me a taken guarantor target d.to place d.amount
          (subst (λ (u : Bool). Balanced past e me guarantor d.to a (cond u d.amount 0)) h (bal a))
          (λ n. items-after r e past front fs target asset place d.amount changed a taken n
          ∙ ap (λ (u : Bool). cond (bytes_eq target n) (cond u (lower_at ((books_at r past front fs a taken).items n) place d.amount) ((books_at r past front fs a taken).items n)) ((books_at r past front fs a taken).items n)) h)
          (counts-after r e past front fs target asset place d.amount changed a taken) (list-after r e past front fs target asset place d.amount changed a taken)
      go a taken true h =
          let x = to_a a (eqb-true asset a h) in
          claims r e past front fs me a taken guarantor target promise outcome position d ok.guarantor.final on_g ok.owner.final on_t x.0
          (subst (λ (u : Bool). Balanced past e me guarantor d.to a (cond u d.amount 0)) h (bal a))
          (λ n. items-after r e past front fs target asset place d.amount changed a taken n
          ∙ (ap (λ (u : Bool). cond (bytes_eq target n) (cond u (lower_at ((books_at r past front fs a taken).items n) place d.amount) ((books_at r past front fs a taken).items n)) ((books_at r past front fs a taken).items n)) h
          ∙ ap (λ (items : List Item). cond (bytes_eq target n) (lower_at ((books_at r past front fs a taken).items n) (place_of items d.to) d.amount) ((books_at r past front fs a taken).items n)) (sym x.1)))
          (counts-after r e past front fs target asset place d.amount changed a taken) (list-after r e past front fs target asset place d.amount changed a taken)

  pub by_op : (op : Op) → e.op ≡ op → e.reply ≡ reply_to r past op → (moves_funds op || not (is_accepted e.reply)) ≡ true → Moves r e past front fs me
  unfolding reply_to
  by_op (ops.Call (Deposit d)) is reply h =
      by_deposit d is (replies.deposit (held_of past d.channel d.asset) (deposited_of past d.asset) d.expected d.amount) reply
  by_op (ops.Call (Transfer t)) is reply h = by_transfer t.channel t.outcome t.asset t.index is _ refl reply
  by_op (ops.Call (Claim k)) is reply h =
      by_claim k.guarantor k.guarantor_outcome k.target k.target_outcome k.asset k.position is _ refl reply
  by_op op is reply h = refused (no (is_accepted e.reply) h)
    where
      no : (t : Bool) → not t ≡ true → t ≡ false
      no true k = cc
      no false k = refl

pub flows_keep : FlowsKeepShares
flows_keep r me orders past e front legal tell seen sound moves asset =
    let m : Moves r e past front (channels front) me = by_op r e past front (channels front) me legal tell seen (is_quiet r e moves) e.op refl legal.2 moves in
    least_over-kept [] [] (varying (counting r past front)) (varying (counting r (e ∷ past) front))
    (worth_under me (plan orders front) (balances past asset) (counting r past front) asset)
    (worth_under me (plan orders front) (balances (e ∷ past) asset) (counting r (e ∷ past) front) asset)
    (paid_to past me asset) (paid_to (e ∷ past) me asset)
    (λ taken takes. (
      taken,
      subst (λ (ns : List (List ℕ)). Takes [] ns taken) m.choices takes,
      pays-kept (books_at r past front (channels front) asset taken) (books_at r (e ∷ past) front (channels front) asset taken) (counting r past front) me (paid_to past me asset) (paid_to (e ∷ past) me asset) (m.pays asset taken) (plan orders front) sound,
    ))
