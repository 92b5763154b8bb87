-- Calls of valid parts with the same bytes in each part are one call.
use Rattle.std.proofs.Common.{◌≡◌, ℕ, Bool, true, false, ◌&&◌, ◌==◌, List, [], ◌∷◌, refl, sym, ◌∙◌, ap, subst, eq-eqb, true≢false, arith}
use Rattle.std.specs.List.{AllByRecursion}
use Rattle.std.specs.Cmp.Lexicographic.{pointwise}
use Rattle.std.specs.Str.{bytes_eq}
use Rattle.std.proofs.lemmas.Bool.Decides.{nat_tests}
use Rattle.channel_values.specs.Outcomes.{IsOutcome}
use Rattle.channel_values.specs.Parts.{FixedParts, StateParts, IsFixed, IsState}
use Rattle.channel_values.specs.Spelling.{fixed, state, outcome}
use Rattle.channel_values.specs.declared.chain.Chain.{Chain}
use Rattle.channel_values.specs.declared.chain.Mark.{Mark}
use Rattle.channel_values.specs.declared.chain.Signed.{Signed}
use Rattle.channel_values.specs.declared.value.AssetOutcome.{AssetOutcome}
use Rattle.channel_values.proofs.Format.{spelled_once}
use Rattle.channel_values.proofs.Formats.{fixed_format, state_format, outcome_format}
use Rattle.call_history.proofs.Names.{same_bytes, bytes_eq_self}
use Rattle.call_history.specs.declared.call.Call.{Call}
use Rattle.call_history.specs.declared.call.DepositCall.{DepositCall}
use Rattle.call_history.specs.declared.call.ChallengeCall.{ChallengeCall}
use Rattle.call_history.specs.declared.call.RespondCall.{RespondCall}
use Rattle.call_history.specs.declared.call.TransferCall.{TransferCall}
use Rattle.call_history.specs.declared.call.ClaimCall.{ClaimCall}
use Rattle.call_history.specs.declared.call.Call.TheVariants.{Deposit, Challenge, Respond, Refute, Checkpoint, Conclude, Transfer, Claim}
use Rattle.call_history.specs.declared.call.Op.{Op}
use Rattle.call_history.specs.declared.call.Op.TheVariants as ops
use Rattle.call_history.specs.Same.{same_fixed, same_state, same_outcome, same_signed, same_mark, same_chain, same_call, is_op, HasValidParts, SameCallsAreOne}

never : {A : Type 0} → false ≡ true → A
never h = absurd (true≢false (sym h))

and-left : (a b : Bool) → (a && b) ≡ true → a ≡ true
and-left true b h = refl
and-left false b h = h

and-right : (a b : Bool) → (a && b) ≡ true → b ≡ true
and-right true b h = h
and-right false b h = never h

and-both : (a b : Bool) → a ≡ true → b ≡ true → (a && b) ≡ true
and-both true b x y = y
and-both false b x y = x

number-same : (a b : ℕ) → (a == b) ≡ true → a ≡ b
number-same a b h = grind (arith, nat_tests)

-- ---- the same bytes, the same value

fixed-same : (a b : FixedParts) → IsFixed a → IsFixed b → same_fixed a b ≡ true → a ≡ b
fixed-same a b v w h = spelled_once fixed_format a b v w (same_bytes (fixed a) (fixed b) h)

state-same : (a b : StateParts) → IsState a → IsState b → same_state a b ≡ true → a ≡ b
state-same a b v w h = spelled_once state_format a b v w (same_bytes (state a) (state b) h)

outcome-same : (a b : List AssetOutcome) → IsOutcome a → IsOutcome b → same_outcome a b ≡ true → a ≡ b
outcome-same a b v w h = spelled_once outcome_format a b v w (same_bytes (outcome a) (outcome b) h)

states-same : (xs ys : List StateParts) → AllByRecursion IsState xs → AllByRecursion IsState ys → pointwise same_state xs ys ≡ true → xs ≡ ys
states-same [] [] v w h = refl
states-same [] (y ∷ ys) v w h = never h
states-same (x ∷ xs) [] v w h = never h
states-same (x ∷ xs) (y ∷ ys) v w h =
    let first : x ≡ y = state-same x y v.0 w.0 (and-left (same_state x y) (pointwise same_state xs ys) h) in
    let rest : xs ≡ ys = states-same xs ys v.1 w.1 (and-right (same_state x y) (pointwise same_state xs ys) h) in
    cc

abbrev marked : ℕ → List ℕ → Mark
marked place signature = record { place = place; signature = signature }

mark-same : (a b : Mark) → same_mark a b ≡ true → a ≡ b
mark-same a b h =
    let p : a.place ≡ b.place = number-same a.place b.place (and-left (a.place == b.place) (bytes_eq a.signature b.signature) h) in
    let s : a.signature ≡ b.signature = same_bytes a.signature b.signature (and-right (a.place == b.place) (bytes_eq a.signature b.signature) h) in
    ap (λ (n : ℕ). marked n a.signature) p ∙ ap (marked b.place) s

marks-same : (xs ys : List Mark) → pointwise same_mark xs ys ≡ true → xs ≡ ys
marks-same [] [] h = refl
marks-same [] (y ∷ ys) h = never h
marks-same (x ∷ xs) [] h = never h
marks-same (x ∷ xs) (y ∷ ys) h =
    let first : x ≡ y = mark-same x y (and-left (same_mark x y) (pointwise same_mark xs ys) h) in
    let rest : xs ≡ ys = marks-same xs ys (and-right (same_mark x y) (pointwise same_mark xs ys) h) in
    cc

abbrev signed : StateParts → List ℕ → Signed
signed s signature = record { state = s; signature = signature }

signed-same : (a b : Signed) → IsState a.state → IsState b.state → same_signed a b ≡ true → a ≡ b
signed-same a b v w h =
    let p : a.state ≡ b.state = state-same a.state b.state v w (and-left (same_state a.state b.state) (bytes_eq a.signature b.signature) h) in
    let s : a.signature ≡ b.signature = same_bytes a.signature b.signature (and-right (same_state a.state b.state) (bytes_eq a.signature b.signature) h) in
    ap (λ (x : StateParts). signed x a.signature) p ∙ ap (signed b.state) s

abbrev chained : FixedParts → List StateParts → List Mark → Chain
chained f states marks = record { fixed = f; states = states; marks = marks }

chain-same : (a b : Chain) → IsFixed a.fixed → IsFixed b.fixed → AllByRecursion IsState a.states → AllByRecursion IsState b.states → same_chain a b ≡ true → a ≡ b
chain-same a b v w vs ws h =
    let lists = and-right (same_fixed a.fixed b.fixed) (pointwise same_state a.states b.states && pointwise same_mark a.marks b.marks) h in
    let f : a.fixed ≡ b.fixed = fixed-same a.fixed b.fixed v w (and-left (same_fixed a.fixed b.fixed) (pointwise same_state a.states b.states && pointwise same_mark a.marks b.marks) h) in
    let s : a.states ≡ b.states = states-same a.states b.states vs ws (and-left (pointwise same_state a.states b.states) (pointwise same_mark a.marks b.marks) lists) in
    let m : a.marks ≡ b.marks = marks-same a.marks b.marks (and-right (pointwise same_state a.states b.states) (pointwise same_mark a.marks b.marks) lists) in
    ap (λ (x : FixedParts). chained x a.states a.marks) f ∙ (ap (λ (x : List StateParts). chained b.fixed x a.marks) s ∙ ap (chained b.fixed b.states) m)

deposit-same : (a b : DepositCall) → same_call (Deposit a) (Deposit b) ≡ true → a ≡ b
deposit-same a b h =
    let rest = and-right (bytes_eq a.channel b.channel) ((a.asset == b.asset) && ((a.expected == b.expected) && (a.amount == b.amount))) h in
    let last = and-right (a.asset == b.asset) ((a.expected == b.expected) && (a.amount == b.amount)) rest in
    let name : a.channel ≡ b.channel = same_bytes a.channel b.channel (and-left (bytes_eq a.channel b.channel) ((a.asset == b.asset) && ((a.expected == b.expected) && (a.amount == b.amount))) h) in
    let p : a.asset ≡ b.asset = number-same a.asset b.asset (and-left (a.asset == b.asset) ((a.expected == b.expected) && (a.amount == b.amount)) rest) in
    let q : a.expected ≡ b.expected = number-same a.expected b.expected (and-left (a.expected == b.expected) (a.amount == b.amount) last) in
    let s : a.amount ≡ b.amount = number-same a.amount b.amount (and-right (a.expected == b.expected) (a.amount == b.amount) last) in
    ap (λ (z : List ℕ). record a { channel = z }) name ∙ (ap (λ (z : ℕ). record a { channel = b.channel; asset = z }) p
    ∙ (ap (λ (z : ℕ). record b { expected = z; amount = a.amount }) q ∙ ap (λ (z : ℕ). record b { amount = z }) s))

challenge-same : (a b : ChallengeCall) → HasValidParts (Challenge a) → HasValidParts (Challenge b) → same_call (Challenge a) (Challenge b) ≡ true → a ≡ b
challenge-same a b v w h =
    let rest = and-right (same_chain a.chain b.chain) ((a.challenger == b.challenger) && bytes_eq a.signature b.signature) h in
    let c : a.chain ≡ b.chain = chain-same a.chain b.chain v.0 w.0 v.1 w.1 (and-left (same_chain a.chain b.chain) ((a.challenger == b.challenger) && bytes_eq a.signature b.signature) h) in
    let p : a.challenger ≡ b.challenger = number-same a.challenger b.challenger (and-left (a.challenger == b.challenger) (bytes_eq a.signature b.signature) rest) in
    let s : a.signature ≡ b.signature = same_bytes a.signature b.signature (and-right (a.challenger == b.challenger) (bytes_eq a.signature b.signature) rest) in
    ap (λ (z : Chain). record a { chain = z }) c ∙ (ap (λ (z : ℕ). record b { challenger = z; signature = a.signature }) p ∙ ap (λ (z : List ℕ). record b { signature = z }) s)

respond-same : (a b : RespondCall) → HasValidParts (Respond a) → HasValidParts (Respond b) → same_call (Respond a) (Respond b) ≡ true → a ≡ b
respond-same a b v w h =
    let rest = and-right (same_fixed a.fixed b.fixed) (same_state a.from b.from && same_signed a.next b.next) h in
    let c : a.fixed ≡ b.fixed = fixed-same a.fixed b.fixed v.0 w.0 (and-left (same_fixed a.fixed b.fixed) (same_state a.from b.from && same_signed a.next b.next) h) in
    let p : a.from ≡ b.from = state-same a.from b.from v.1 w.1 (and-left (same_state a.from b.from) (same_signed a.next b.next) rest) in
    let q : a.next ≡ b.next = signed-same a.next b.next v.2 w.2 (and-right (same_state a.from b.from) (same_signed a.next b.next) rest) in
    ap (λ (z : FixedParts). record a { fixed = z }) c ∙ (ap (λ (z : StateParts). record b { from = z; next = a.next }) p ∙ ap (λ (z : Signed). record b { next = z }) q)

transfer-same : (a b : TransferCall) → IsOutcome a.outcome → IsOutcome b.outcome → same_call (Transfer a) (Transfer b) ≡ true → a ≡ b
transfer-same a b v w h =
    let rest = and-right (bytes_eq a.channel b.channel) (same_outcome a.outcome b.outcome && ((a.asset == b.asset) && (a.index == b.index))) h in
    let last = and-right (same_outcome a.outcome b.outcome) ((a.asset == b.asset) && (a.index == b.index)) rest in
    let name : a.channel ≡ b.channel = same_bytes a.channel b.channel (and-left (bytes_eq a.channel b.channel) (same_outcome a.outcome b.outcome && ((a.asset == b.asset) && (a.index == b.index))) h) in
    let q : a.outcome ≡ b.outcome = outcome-same a.outcome b.outcome v w (and-left (same_outcome a.outcome b.outcome) ((a.asset == b.asset) && (a.index == b.index)) rest) in
    let s : a.asset ≡ b.asset = number-same a.asset b.asset (and-left (a.asset == b.asset) (a.index == b.index) last) in
    let t : a.index ≡ b.index = number-same a.index b.index (and-right (a.asset == b.asset) (a.index == b.index) last) in
    ap (λ (z : List ℕ). record a { channel = z }) name ∙ (ap (λ (z : List AssetOutcome). record a { channel = b.channel; outcome = z }) q
    ∙ (ap (λ (z : ℕ). record b { asset = z; index = a.index }) s ∙ ap (λ (z : ℕ). record b { index = z }) t))

claim-same : (a b : ClaimCall) → HasValidParts (Claim a) → HasValidParts (Claim b) → same_call (Claim a) (Claim b) ≡ true → a ≡ b
claim-same a b v w h =
    let payers = bytes_eq a.guarantor b.guarantor && same_outcome a.guarantor_outcome b.guarantor_outcome in
    let owners = bytes_eq a.target b.target && same_outcome a.target_outcome b.target_outcome in
    let numbers = (a.asset == b.asset) && (a.position == b.position) in
    let payer = and-left payers (owners && numbers) h in
    let rest = and-right payers (owners && numbers) h in
    let owner = and-left owners numbers rest in
    let last = and-right owners numbers rest in
    let e0 : a.guarantor ≡ b.guarantor = same_bytes a.guarantor b.guarantor (and-left (bytes_eq a.guarantor b.guarantor) (same_outcome a.guarantor_outcome b.guarantor_outcome) payer) in
    let e1 : a.guarantor_outcome ≡ b.guarantor_outcome =
    outcome-same a.guarantor_outcome b.guarantor_outcome v.0 w.0 (and-right (bytes_eq a.guarantor b.guarantor) (same_outcome a.guarantor_outcome b.guarantor_outcome) payer) in
    let e2 : a.target ≡ b.target = same_bytes a.target b.target (and-left (bytes_eq a.target b.target) (same_outcome a.target_outcome b.target_outcome) owner) in
    let e3 : a.target_outcome ≡ b.target_outcome =
    outcome-same a.target_outcome b.target_outcome v.1 w.1 (and-right (bytes_eq a.target b.target) (same_outcome a.target_outcome b.target_outcome) owner) in
    let e4 : a.asset ≡ b.asset = number-same a.asset b.asset (and-left (a.asset == b.asset) (a.position == b.position) last) in
    let e5 : a.position ≡ b.position = number-same a.position b.position (and-right (a.asset == b.asset) (a.position == b.position) last) in
    ap (λ (z : List ℕ). record a { guarantor = z }) e0 ∙ (ap (λ (z : List AssetOutcome). record a { guarantor = b.guarantor; guarantor_outcome = z }) e1
    ∙ (ap (λ (z : List ℕ). record b { target = z; target_outcome = a.target_outcome; asset = a.asset; position = a.position }) e2
    ∙ (ap (λ (z : List AssetOutcome). record b { target_outcome = z; asset = a.asset; position = a.position }) e3
    ∙ (ap (λ (z : ℕ). record b { asset = z; position = a.position }) e4 ∙ ap (λ (z : ℕ). record b { position = z }) e5))))

pub call-same : (a b : Call) → HasValidParts a → HasValidParts b → same_call a b ≡ true → a ≡ b
call-same (Deposit a) (Deposit b) v w h = ap (λ (z : DepositCall). Deposit z) (deposit-same a b h)
call-same (Challenge a) (Challenge b) v w h = ap (λ (z : ChallengeCall). Challenge z) (challenge-same a b v w h)
call-same (Respond a) (Respond b) v w h = ap (λ (z : RespondCall). Respond z) (respond-same a b v w h)
call-same (Refute f x) (Refute g y) v w h =
    let c : f ≡ g = fixed-same f g v.0 w.0 (and-left (same_fixed f g) (same_signed x y) h) in
    let q : x ≡ y = signed-same x y v.1 w.1 (and-right (same_fixed f g) (same_signed x y) h) in
    ap (λ (z : FixedParts). Refute z x) c ∙ ap (λ (z : Signed). Refute g z) q
call-same (Checkpoint a) (Checkpoint b) v w h = let c : a ≡ b = chain-same a b v.0 w.0 v.1 w.1 h in ap (λ (z : Chain). Checkpoint z) c
call-same (Conclude a) (Conclude b) v w h = let c : a ≡ b = chain-same a b v.0 w.0 v.1 w.1 h in ap (λ (z : Chain). Conclude z) c
call-same (Transfer a) (Transfer b) v w h = ap (λ (z : TransferCall). Transfer z) (transfer-same a b v w h)
call-same (Claim a) (Claim b) v w h = ap (λ (z : ClaimCall). Claim z) (claim-same a b v w h)
call-same _ _ v w h = never h

-- ---- a call has the bytes that it has

number-self : (a : ℕ) → (a == a) ≡ true
number-self a = eq-eqb a a refl

numbers-self : (a b : ℕ) → ((a == a) && (b == b)) ≡ true
numbers-self a b = and-both (a == a) (b == b) (number-self a) (number-self b)

signed-self : (a : Signed) → same_signed a a ≡ true
signed-self a = and-both (same_state a.state a.state) (bytes_eq a.signature a.signature) (bytes_eq_self (state a.state)) (bytes_eq_self a.signature)

states-self : (xs : List StateParts) → pointwise same_state xs xs ≡ true
states-self [] = refl
states-self (x ∷ xs) = and-both (same_state x x) (pointwise same_state xs xs) (bytes_eq_self (state x)) (states-self xs)

marks-self : (xs : List Mark) → pointwise same_mark xs xs ≡ true
marks-self [] = refl
marks-self (x ∷ xs) =
    and-both (same_mark x x) (pointwise same_mark xs xs) (and-both (x.place == x.place) (bytes_eq x.signature x.signature) (number-self x.place) (bytes_eq_self x.signature)) (marks-self xs)

chain-self : (a : Chain) → same_chain a a ≡ true
chain-self a =
    and-both (same_fixed a.fixed a.fixed) (pointwise same_state a.states a.states && pointwise same_mark a.marks a.marks) (bytes_eq_self (fixed a.fixed))
    (and-both (pointwise same_state a.states a.states) (pointwise same_mark a.marks a.marks) (states-self a.states) (marks-self a.marks))

ending-self : (c : List ℕ) (o : List AssetOutcome) → (bytes_eq c c && same_outcome o o) ≡ true
ending-self c o = and-both (bytes_eq c c) (same_outcome o o) (bytes_eq_self c) (bytes_eq_self (outcome o))

pub call-self : (a : Call) → same_call a a ≡ true
call-self (Deposit d) =
    and-both (bytes_eq d.channel d.channel) ((d.asset == d.asset) && ((d.expected == d.expected) && (d.amount == d.amount))) (bytes_eq_self d.channel)
    (and-both (d.asset == d.asset) ((d.expected == d.expected) && (d.amount == d.amount)) (number-self d.asset) (numbers-self d.expected d.amount))
call-self (Challenge k) =
    and-both (same_chain k.chain k.chain) ((k.challenger == k.challenger) && bytes_eq k.signature k.signature) (chain-self k.chain)
    (and-both (k.challenger == k.challenger) (bytes_eq k.signature k.signature) (number-self k.challenger) (bytes_eq_self k.signature))
call-self (Respond k) =
    and-both (same_fixed k.fixed k.fixed) (same_state k.from k.from && same_signed k.next k.next) (bytes_eq_self (fixed k.fixed))
    (and-both (same_state k.from k.from) (same_signed k.next k.next) (bytes_eq_self (state k.from)) (signed-self k.next))
call-self (Refute g x) = and-both (same_fixed g g) (same_signed x x) (bytes_eq_self (fixed g)) (signed-self x)
call-self (Checkpoint a) = chain-self a
call-self (Conclude a) = chain-self a
call-self (Transfer k) =
    and-both (bytes_eq k.channel k.channel) (same_outcome k.outcome k.outcome && ((k.asset == k.asset) && (k.index == k.index))) (bytes_eq_self k.channel)
    (and-both (same_outcome k.outcome k.outcome) ((k.asset == k.asset) && (k.index == k.index)) (bytes_eq_self (outcome k.outcome)) (numbers-self k.asset k.index))
call-self (Claim k) =
    let owners = bytes_eq k.target k.target && same_outcome k.target_outcome k.target_outcome in
    let numbers = (k.asset == k.asset) && (k.position == k.position) in
    and-both (bytes_eq k.guarantor k.guarantor && same_outcome k.guarantor_outcome k.guarantor_outcome) (owners && numbers) (ending-self k.guarantor k.guarantor_outcome)
    (and-both owners numbers (ending-self k.target k.target_outcome) (numbers-self k.asset k.position))

pub same-calls-one : SameCallsAreOne
same-calls-one a b v w = (call-same a b v w, λ e. subst (λ (c : Call). same_call a c ≡ true) e (call-self a))

-- so an op is the call that it is told to be
pub op-same : (call : Call) (op : Op) → HasValidParts call → ((own : Call) → op ≡ ops.Call own → HasValidParts own) → is_op call op ≡ true → op ≡ ops.Call call
op-same call (ops.Call own) v w h = ap (λ (z : Call). ops.Call z) (call-same own call (w own refl) v h)
op-same call (ops.Time t) v w h = never h
