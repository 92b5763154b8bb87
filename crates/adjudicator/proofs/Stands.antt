-- What an entry does to what an adjudicator stands for.
use Rattle.std.proofs.Common.{◌≡◌, ℕ, ◌+◌, List, [], ◌∷◌, ◌++◌, Bool, true, false, cond, Some, None, refl, sym, ◌∙◌, ap, arith}
use Rattle.std.proofs.lemmas.List.Sums.{sum_by-append}
use Rattle.std.proofs.lemmas.Slice.Eq.{bytes_eq-Decides}
use Rattle.std.specs.Prelude.{◌-◌, ◌&&◌, nat_eq, Result, Ok, Err, OnErr}
use Rattle.std.specs.Str.{bytes_eq}
use Rattle.channel_values.specs.Parts.{FixedParts}
use Rattle.channel_values.specs.declared.value.Dest.TheVariants.{Person, Channel}
use Rattle.channel_values.specs.Rules.{Rules}
use Rattle.call_history.specs.Refusing.{told}
use Rattle.call_history.specs.Rows.{row_or_blank, fixed_of, turned}
use Rattle.call_history.specs.Flows.{brings, takes, enters, held_in, paid_in, deposited_in, pays, paid_of_item}
use Rattle.call_history.specs.History.{is_accepted, is_named, turning, row, is_recorded, row_given, flow_of, flows_of, payment_of, payments_of, now_of}
use Rattle.call_history.specs.declared.call.Call.TheVariants.{Deposit, Challenge, Respond, Refute, Checkpoint, Conclude, Transfer, Claim}
use Rattle.call_history.specs.declared.call.Op.{Op}
use Rattle.call_history.specs.declared.call.Op.TheVariants as ops
use Rattle.call_history.specs.declared.entry.Entry.{Entry}
use Rattle.call_history.specs.declared.funds.Flow.{Flow}
use Rattle.call_history.specs.declared.funds.Payment.{Payment}
use Rattle.call_history.specs.declared.refusal.Refusal.{Refusal}
use Rattle.call_history.specs.declared.refusal.Reply.{Reply}
use Rattle.call_history.specs.declared.refusal.Reply.TheVariants.{Now, No}
use Rattle.call_history.specs.declared.row.Row.{Row}
use Rattle.call_history.proofs.Legality.{HasSource, covered_more, moved_cons}
use Rattle.asset_holder.specs.Amounts.{amount_in}
use Rattle.asset_holder.specs.Balances.{Balances, amount_held, amount_paid, amount_deposited, same_pair, AreSame, HasMoved}
use Rattle.asset_holder.specs.Payments.{Payments, amount_of_item, same_item}
use Rattle.adjudicator.specs.Standing.{Standing, row_in, StandsFor}

-- a row is given where there is one, and blank otherwise
pub blank_unless : (r : Rules) (channel : List ℕ) (h : List Entry) → row_or_blank (row_given r channel h) ≡ row r channel h
blank_unless r channel [] = refl
blank_unless r channel (e ∷ past) = go (turning r channel e) (blank_unless r channel past)
  where
    go : (b : Bool) → row_or_blank (row_given r channel past) ≡ row r channel past
        → row_or_blank (cond (cond b true (is_recorded r channel past)) (Some (cond b (turned r (now_of past) e.op (row r channel past)) (row r channel past))) None) ≡ cond b (turned r (now_of past) e.op (row r channel past)) (row r channel past)
    go true h = refl
    go false h = h

-- so the row that an adjudicator finds is the history's
pub row_found : (r : Rules) (h : List Entry) (s : Standing) → StandsFor r h s → (channel : List ℕ) → row_or_blank (row_in s.rows channel) ≡ row r channel h
row_found r h s st channel = ap row_or_blank (st.rows channel) ∙ blank_unless r channel h

-- what no entry turns stays
row_stays : (r : Rules) (channel : List ℕ) (e : Entry) (h : List Entry) → turning r channel e ≡ false → row_given r channel (e ∷ h) ≡ row_given r channel h
row_stays r channel e h quiet = ap (λ b. cond (cond b true (is_recorded r channel h)) (Some (cond b (turned r (now_of h) e.op (row r channel h)) (row r channel h))) None) quiet

row_turns : (r : Rules) (channel : List ℕ) (e : Entry) (h : List Entry) → turning r channel e ≡ true → row_given r channel (e ∷ h) ≡ Some (turned r (now_of h) e.op (row r channel h))
row_turns r channel e h turns = ap (λ b. cond (cond b true (is_recorded r channel h)) (Some (cond b (turned r (now_of h) e.op (row r channel h)) (row r channel h))) None) turns

-- the same balances, and the same paid of items
pub record HasSameFunds (s t : Standing) : Type 0 where
  pub funds : t.funds ≡ s.funds
  pub items : t.items ≡ s.items

-- an entry that moves no funds
pub stands_still : (r : Rules) (h : List Entry) (s t : Standing) (e : Entry) → StandsFor r h s → flow_of e.op e.reply ≡ [] → payment_of e.op e.reply ≡ [] → HasSameFunds s t
    → t.now ≡ now_of (e ∷ h) → ((channel : List ℕ) → row_in t.rows channel ≡ row_given r channel (e ∷ h)) → StandsFor r (e ∷ h) t
stands_still r h s t e st still unpaid same now rows =
    let all : flows_of (e ∷ h) ≡ flows_of h = ap (λ fs. fs ++ flows_of h) still in
    record {
      covered = rw all st.covered;
      now = now;
      rows = rows;
      funds = record {
        held = λ c a. ap (λ (b : Balances). amount_held b c a) same.funds ∙ st.funds.held c a ∙ ap (λ fs. held_in fs c a) (sym all);
        paid = λ q a. ap (λ (b : Balances). amount_paid b q a) same.funds ∙ st.funds.paid q a ∙ ap (λ fs. paid_in fs q a) (sym all);
        deposited = λ a. ap (λ (b : Balances). amount_deposited b a) same.funds ∙ st.funds.deposited a ∙ ap (λ fs. deposited_in fs a) (sym all);
      };
      items = λ c a i. ap (λ (q : Payments). amount_of_item q c a i) same.items ∙ st.items c a i ∙ ap (λ ps. paid_of_item (ps ++ payments_of h) c a i) (sym unpaid);
    }

pub refused_is_still : (op : Op) (refusal : Refusal) → flow_of op (No refusal) ≡ []
refused_is_still (ops.Time t) refusal = refl
refused_is_still (ops.Call (Deposit d)) refusal = refl
refused_is_still (ops.Call (Challenge k)) refusal = refl
refused_is_still (ops.Call (Respond k)) refusal = refl
refused_is_still (ops.Call (Refute fixed next)) refusal = refl
refused_is_still (ops.Call (Checkpoint chain)) refusal = refl
refused_is_still (ops.Call (Conclude chain)) refusal = refl
refused_is_still (ops.Call (Transfer k)) refusal = refl
refused_is_still (ops.Call (Claim k)) refusal = refl

pub refused_is_unpaid : (op : Op) (refusal : Refusal) → payment_of op (No refusal) ≡ []
refused_is_unpaid (ops.Time t) refusal = refl
refused_is_unpaid (ops.Call (Deposit d)) refusal = refl
refused_is_unpaid (ops.Call (Challenge k)) refusal = refl
refused_is_unpaid (ops.Call (Respond k)) refusal = refl
refused_is_unpaid (ops.Call (Refute fixed next)) refusal = refl
refused_is_unpaid (ops.Call (Checkpoint chain)) refusal = refl
refused_is_unpaid (ops.Call (Conclude chain)) refusal = refl
refused_is_unpaid (ops.Call (Transfer k)) refusal = refl
refused_is_unpaid (ops.Call (Claim k)) refusal = refl

pub refused_now : (h : List Entry) (number by : ℕ) (op : Op) (refusal : Refusal) → now_of h ≡ now_of (record { number = number; by = by; op = op; reply = No refusal } ∷ h)
refused_now h number by (ops.Time t) refusal = refl
refused_now h number by (ops.Call call) refusal = refl

-- a refused op changes nothing
pub stands_refused : (r : Rules) (h : List Entry) (s t : Standing) (number by : ℕ) (op : Op) (refusal : Refusal) → StandsFor r h s
    → HasSameFunds s t → t.now ≡ s.now → ((channel : List ℕ) → row_in t.rows channel ≡ row_in s.rows channel)
    → StandsFor r (record { number = number; by = by; op = op; reply = No refusal } ∷ h) t
stands_refused r h s t number by op refusal st same now rows =
    stands_still r h s t (record { number = number; by = by; op = op; reply = No refusal }) st (refused_is_still op refusal) (refused_is_unpaid op refusal) same
    (now ∙ st.now ∙ refused_now h number by op refusal) (λ channel. rows channel ∙ st.rows channel)

pub stands_unchanged : (r : Rules) (h : List Entry) (s : Standing) (number by : ℕ) (op : Op) (refusal : Refusal) → StandsFor r h s
    → StandsFor r (record { number = number; by = by; op = op; reply = No refusal } ∷ h) s
stands_unchanged r h s number by op refusal st = stands_refused r h s s number by op refusal st (record { funds = refl; items = refl }) refl (λ channel. refl)

-- a reply that is a refusal gives a refusal
pub on_refused : {A P : Type 0} (say : A → Reply) → ((x : A) → is_accepted (say x) ≡ true) → (answer : Result A Refusal) (reply : Reply) (refusal : Refusal)
    → reply ≡ told say answer → reply ≡ No refusal → OnErr answer P → P
on_refused say accepted (Ok x) reply refusal is said p = let never : true ≡ false = sym (accepted x) ∙ ap is_accepted (sym is ∙ said) in absurd cc
on_refused say accepted (Err e) reply refusal is said p = p

-- a time that is set
pub stands_timed : (r : Rules) (h : List Entry) (s t : Standing) (number by time : ℕ) → StandsFor r h s → t.funds ≡ s.funds → t.items ≡ s.items → t.rows ≡ s.rows → t.now ≡ time
    → StandsFor r (record { number = number; by = by; op = ops.Time time; reply = Now time } ∷ h) t
stands_timed r h s t number by time st funds items rows now =
    stands_still r h s t (record { number = number; by = by; op = ops.Time time; reply = Now time }) st refl refl (record { funds = funds; items = items }) now
    (λ channel. ap (λ xs. row_in xs channel) rows ∙ st.rows channel)

-- a channel's row that an accepted call turned
pub stands_turned : (r : Rules) (h : List Entry) (s t : Standing) (e : Entry) (fixed : FixedParts) (new : Row) → StandsFor r h s
    → flow_of e.op e.reply ≡ [] → payment_of e.op e.reply ≡ [] → fixed_of e.op ≡ Some fixed → is_accepted e.reply ≡ true → now_of (e ∷ h) ≡ now_of h
    → new ≡ turned r (now_of h) e.op (row r (r.named fixed) h)
    → HasSameFunds s t → t.now ≡ s.now
    → ((channel : List ℕ) → row_in t.rows channel ≡ cond (bytes_eq (r.named fixed) channel) (Some new) (row_in s.rows channel))
    → StandsFor r (e ∷ h) t
stands_turned r h s t e fixed new st still unpaid of accepted time is same now rows =
    stands_still r h s t e st still unpaid same (now ∙ st.now ∙ sym time) (λ channel. rows channel ∙ go channel (bytes_eq (r.named fixed) channel) refl)
  where
    turning_is : (channel : List ℕ) → turning r channel e ≡ bytes_eq (r.named fixed) channel
    turning_is channel = ap (λ b. b && is_named r channel (fixed_of e.op)) accepted ∙ ap (λ o. is_named r channel o) of

    go : (channel : List ℕ) (b : Bool) → bytes_eq (r.named fixed) channel ≡ b → cond b (Some new) (row_in s.rows channel) ≡ row_given r channel (e ∷ h)
    go channel true same =
        let name : r.named fixed ≡ channel = (bytes_eq-Decides (r.named fixed) channel).0 same in
        ap (λ x. Some x) (is ∙ ap (λ c. turned r (now_of h) e.op (row r c h)) name) ∙ sym (row_turns r channel e h (turning_is channel ∙ same))
    go channel false other = st.rows channel ∙ sym (row_stays r channel e h (turning_is channel ∙ other))

-- an entry of one flow, which pays of these items
pub stands_moved : (r : Rules) (h : List Entry) (s t : Standing) (e : Entry) (f : Flow) (ps : List Payment) → StandsFor r h s
    → flow_of e.op e.reply ≡ f ∷ [] → payment_of e.op e.reply ≡ ps → now_of (e ∷ h) ≡ now_of h → fixed_of e.op ≡ None
    → HasSource (flows_of h) f.from f.asset f.amount → HasMoved s.funds f t.funds
    → ((c : List ℕ) (a i : ℕ) → amount_of_item t.items c a i ≡ amount_of_item s.items c a i + paid_of_item ps c a i)
    → t.now ≡ s.now → t.rows ≡ s.rows → StandsFor r (e ∷ h) t
stands_moved r h s t e f ps st flow payment time none source moved noted now rows =
    let all : flows_of (e ∷ h) ≡ f ∷ flows_of h = ap (λ fs. fs ++ flows_of h) flow in
    let also = moved_cons (flows_of h) f st.covered source in
    record {
      covered = rw all (covered_more (flows_of h) f st.covered source);
      now = now ∙ st.now ∙ sym time;
      rows = λ channel. ap (λ xs. row_in xs channel) rows ∙ st.rows channel ∙ sym (row_stays r channel e h (ap (λ o. is_accepted e.reply && is_named r channel o) none ∙ never (is_accepted e.reply)));
      funds = record {
        held = λ c a. moved.held c a ∙ ap (λ n. (n + brings (Channel c) a f) - takes c a f) (st.funds.held c a) ∙ sym (also.held c a) ∙ ap (λ fs. held_in fs c a) (sym all);
        paid = λ q a. moved.paid q a ∙ ap (λ n. n + brings (Person q) a f) (st.funds.paid q a) ∙ sym (also.paid q a) ∙ ap (λ fs. paid_in fs q a) (sym all);
        deposited = λ a. moved.deposited a ∙ ap (λ n. n + enters a f) (st.funds.deposited a) ∙ sym (also.deposited a) ∙ ap (λ fs. deposited_in fs a) (sym all);
      };
      items = λ c a i. omega (arith, noted c a i, st.items c a i, sum_by-append (pays c a i) ps (payments_of h), ap (λ qs. paid_of_item (qs ++ payments_of h) c a i) payment);
    }
  where
    never : (b : Bool) → (b && false) ≡ false
    never true = refl
    never false = refl

-- where only room was taken
pub stands_reserved : (r : Rules) (h : List Entry) (s t : Standing) → StandsFor r h s → t.now ≡ s.now → t.rows ≡ s.rows → AreSame s.funds t.funds → t.items.rows ≡ s.items.rows → StandsFor r h t
stands_reserved r h s t st now rows funds items = record {
  covered = st.covered;
  now = now ∙ st.now;
  rows = λ channel. ap (λ xs. row_in xs channel) rows ∙ st.rows channel;
  funds = record {
    held = λ c a. ap (λ xs. amount_in same_pair xs (c, a)) funds.held ∙ st.funds.held c a;
    paid = λ q a. ap (λ xs. amount_in same_pair xs (q, a)) funds.paid ∙ st.funds.paid q a;
    deposited = λ a. ap (λ xs. amount_in nat_eq xs a) funds.deposited ∙ st.funds.deposited a;
  };
  items = λ c a i. ap (λ xs. amount_in same_item xs (c, a, i)) items ∙ st.items c a i;
}
