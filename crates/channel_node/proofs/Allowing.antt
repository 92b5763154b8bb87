-- What an event that the rules give says of what is kept.
use Rattle.std.proofs.Common.{◌≡◌, ℕ, ◌+◌, ◌<◌, ◌==◌, Bool, true, false, cond, ◌&&◌, ◌||◌, not, List, [], ◌∷◌, inl, inr, length, refl, sym, ◌∙◌, ap, subst}
use Rattle.std.specs.Prelude.{Option, Some, None, Result, Ok, Err, is_none, is_some, nat_lt, map, filter}
use Rattle.std.specs.List.{slice_get, list_all, list_any}
use Rattle.std.specs.Str.{bytes_eq}
use Rattle.channel_values.specs.Parts.{FixedParts, StateParts}
use Rattle.channel_values.specs.declared.chain.Signed.{Signed}
use Rattle.channel_values.specs.declared.fault.ByteFault.{ByteFault}
use Rattle.channel_values.specs.Messages.{message_of_state}
use Rattle.channel_values.specs.Rows.{mover}
use Rattle.channel_values.specs.Rules.{Rules, people, newest, signs, is_signed_well}
use Rattle.channel_values.specs.Words.{fault_if, ◌⊳◌}
use Rattle.call_history.proofs.Names.{same_bytes, bytes_eq_self}
use Rattle.call_history.specs.Flows.{is_among}
use Rattle.call_history.specs.Marked.{marked_of, is_step, extends}
use Rattle.funding_plans.specs.Parts.{channels}
use Rattle.call_history.specs.Reading.{message_of}
use Rattle.call_history.specs.Spelling.{Message}
use Rattle.call_history.specs.declared.entry.Entry.{Entry}
use Rattle.call_history.specs.declared.event.Deed.{Deed}
use Rattle.call_history.specs.declared.event.Deed.TheVariants as deeds
use Rattle.call_history.specs.declared.event.NodeRefusal.{NodeRefusal}
use Rattle.call_history.specs.declared.event.NodeRefusal.TheVariants.{UnknownChannel, NotNext, BadSignature, NotAStep, NotWanted, TooMany}
use Rattle.channel_store.specs.Keeping.{is_ended, next_of, step_after, step_of}
use Rattle.channel_store.specs.Storing.{kept_of}
use Rattle.channel_store.specs.declared.kept.Kept.{Kept}
use Rattle.channel_safety.proofs.Tests.{some-eq, none-eq, and-left, and-right, and-both, not-false, eqb-true, clash}
use Rattle.channel_safety.specs.Journals.{In, Line, opened, opens, some_if, made_in, told_in, noted_in}
use Rattle.channel_node.specs.Openings.{opened_by, ledgers_for, takes_part, adds, are_apart}
use Rattle.channel_node.specs.Minds.{Mind, facts_of}
use Rattle.channel_node.specs.Refusing.{is_open, stands_in, not_open, unfinished, has_left, stage_of, state_refusal, message_refusal, is_planned, are_new, can_open, are_planned, open_refusal, command_refusal, wish, follows, can_sign, if_signable, signs_of, signs_in}
use Rattle.channel_node.specs.Tables.{Tables}
use Rattle.channel_node.specs.Playing.{Signing, SignsWell, Allowed}
use Rattle.network.specs.declared.command.Command.{Command}
use Rattle.network.specs.declared.command.Command.TheVariants.{Open, OpenOn, OpenVirtual, Pay, Close, Release, Resend, Exit}
use Rattle.channel_node.proofs.Agreeing.{IsOwn}

-- ---- lines of a table

pub first_none : {E : Type 0} (o rest : Option E) → (o ⊳ rest) ≡ None → o ≡ None
first_none None rest e = refl
first_none (Some x) rest e = e

pub rest_none : {E : Type 0} (o rest : Option E) → (o ⊳ rest) ≡ None → rest ≡ None
rest_none None rest e = e
rest_none (Some x) rest e = absurd (none-eq x (sym e))

pub holds_not : {E : Type 0} (b : Bool) (fault : E) → fault_if b fault ≡ None → b ≡ false
holds_not true fault e = absurd (none-eq fault (sym e))
holds_not false fault e = refl

not-true : (b : Bool) → not b ≡ true → b ≡ false
not-true true e = absurd cc
not-true false e = refl

none-of : {A : Type 0} (o : Option A) → is_some o ≡ false → o ≡ None
none-of None e = refl
none-of (Some x) e = absurd cc

or-left : (a b : Bool) → (a || b) ≡ false → a ≡ false
or-left true b e = e
or-left false b e = refl

-- ---- lists

pub filter-in : {A : Type 0} (p : A → Bool) (x : A) (xs : List A) → In x (filter p xs) → In x xs
filter-in p x [] i = absurd i
filter-in p x (y ∷ ys) i = go (p y) (filter-in p x ys) i
  where
    go : (b : Bool) → (In x (filter p ys) → In x ys) → In x (cond b (y ∷ filter p ys) (filter p ys)) → In x (y ∷ ys)
    go true rest (inl e) = inl e
    go true rest (inr j) = inr (rest j)
    go false rest j = inr (rest j)

map-in : {A B : Type 0} (f : A → B) (x : A) (xs : List A) → In x xs → In (f x) (map f xs)
map-in f x [] i = absurd i
map-in f x (y ∷ ys) (inl e) = inl (ap f e)
map-in f x (y ∷ ys) (inr i) = inr (map-in f x ys i)

all-in : {A : Type 0} (p : A → Bool) (xs : List A) (x : A) → list_all p xs ≡ true → In x xs → p x ≡ true
all-in p [] x e i = absurd i
all-in p (y ∷ ys) x e (inl same) = ap p same ∙ and-left (p y) (list_all p ys) e
all-in p (y ∷ ys) x e (inr i) = all-in p ys x (and-right (p y) (list_all p ys) e) i

any-in : {A : Type 0} (p : A → Bool) (xs : List A) → list_any p xs ≡ true → (x : A) × In x xs × (p x ≡ true)
any-in p [] e = absurd cc
any-in {A = A} p (y ∷ ys) e = go (p y) refl (any-in p ys) e
  where
    go : (b : Bool) → p y ≡ b → (list_any p ys ≡ true → (x : A) × In x ys × (p x ≡ true)) → (b || list_any p ys) ≡ true → (x : A) × In x (y ∷ ys) × (p x ≡ true)
    go true t rest e = (y, inl refl, t)
    go false t rest e = let found = rest e in (found.0, inr found.1, found.2)

opened-in : (deed : Deed) (adds : List FixedParts) (g : FixedParts) → In g (opened (record { seen = 0; deed = deed; adds = adds })) → In g adds
opened-in (deeds.Commanded step None) adds g i = i
opened-in (deeds.Commanded step (Some refusal)) adds g i = absurd i
opened-in (deeds.Handled bytes refusal) adds g i = absurd i
opened-in (deeds.Signed name state signature) adds g i = absurd i
opened-in (deeds.SignedChallenge channel state who signature) adds g i = absurd i
opened-in (deeds.Called call) adds g i = absurd i
opened-in (deeds.Watched watcher calls) adds g i = absurd i

-- of fixed parts whose names are apart, one has a name
apart-in : (r : Rules) (name : List ℕ) (g : FixedParts) (fs : List FixedParts) → In g fs → bytes_eq name (r.named g) ≡ true → is_among name (map r.named fs) ≡ true
apart-in r name g [] i e = absurd i
apart-in r name g (x ∷ fs) (inl same) e = ap (λ (b : Bool). b || is_among name (map r.named fs)) (ap (λ (y : FixedParts). bytes_eq name (r.named y)) (sym same) ∙ e)
apart-in r name g (x ∷ fs) (inr i) e = go (bytes_eq name (r.named x)) (apart-in r name g fs i e)
  where
    go : (b : Bool) → is_among name (map r.named fs) ≡ true → (b || is_among name (map r.named fs)) ≡ true
    go true rest = refl
    go false rest = rest

pub apart-one : (r : Rules) (fs : List FixedParts) → are_apart (map r.named fs) ≡ true → (f g : FixedParts) → In f fs → In g fs → bytes_eq (r.named g) (r.named f) ≡ true → g ≡ f
apart-one r [] apart f g i j same = absurd i
apart-one r (x ∷ fs) apart f g (inl a) (inl b) same = b ∙ sym a
apart-one r (x ∷ fs) apart f g (inl a) (inr j) same =
    absurd (clash (is_among (r.named x) (map r.named fs))
    (apart-in r (r.named x) g fs j (ap (λ (n : List ℕ). bytes_eq n (r.named g)) (ap r.named (sym a) ∙ sym (same_bytes (r.named g) (r.named f) same)) ∙ bytes_eq_self (r.named g)))
    (not-true (is_among (r.named x) (map r.named fs)) (and-left (not (is_among (r.named x) (map r.named fs))) (are_apart (map r.named fs)) apart)))
apart-one r (x ∷ fs) apart f g (inr i) (inl b) same =
    absurd (clash (is_among (r.named x) (map r.named fs))
    (apart-in r (r.named x) f fs i (ap (λ (y : FixedParts). bytes_eq (r.named y) (r.named f)) (sym b) ∙ same))
    (not-true (is_among (r.named x) (map r.named fs)) (and-left (not (is_among (r.named x) (map r.named fs))) (are_apart (map r.named fs)) apart)))
apart-one r (x ∷ fs) apart f g (inr i) (inr j) same = apart-one r fs (and-right (not (is_among (r.named x) (map r.named fs))) (are_apart (map r.named fs)) apart) f g i j same

-- the channels that a command opens, which are new
pub record OpensNew (r : Rules) (m : Mind) (key : List ℕ) (of : Option Command) : Type 0 where
  pub command : Command
  pub is : of ≡ Some command
  pub new : are_new m (map r.named (opened_by command)) ≡ true

-- ---- one state

-- a state of the channel, and what is kept of it, which it extends
pub record Extends (r : Rules) (m : Mind) (c : List ℕ) (t : Signed) : Type 0 where
  pub k : Kept
  pub is : kept_of c m.kept ≡ Some k
  pub tests : extends r k.chain.fixed t (marked_of k.chain) ≡ true

-- it stands at the participant's own turn, and the channel is open as far as is known
pub record SignsOwn (r : Rules) (m : Mind) (c : List ℕ) (t : Signed) : Type 0 where
  pub extending : Extends r m c t
  pub own : mover (people extending.k.chain.fixed) t.state.turn ≡ extending.k.me
  pub stays_open : is_open (stands_in (facts_of m) c) ≡ true

pub is-a-step : (r : Rules) (k : Kept) (s : StateParts) (latest : Option StateParts) → is_none (step_after r k s latest) ≡ true → is_step r k.chain.fixed s latest ≡ true
is-a-step r k s None e = refl
is-a-step r k s (Some before) e = e

pub none-is : {A : Type 0} (o : Option A) → is_some o ≡ false → is_none o ≡ true
none-is None e = refl
none-is (Some x) e = absurd cc

module _ (ts : Tables) (r : Rules) (s : Signing) (signs-well : SignsWell r s) (past : List Entry) (m : Mind) (used : ℕ) (waits : Option Command) (c : List ℕ)
    (lines : List Line) (own-kept : (k : Kept) → kept_of c m.kept ≡ Some k → IsOwn r s.key c lines k) where
  -- what the node signs, of what is kept
  signable : (channel : List ℕ) (o : Option Kept) (state : StateParts) → signs_of ts r waits m channel o ≡ Some state → (k : Kept) × (o ≡ Some k) × (can_sign r (facts_of m) channel k state ≡ true)
  signable channel None state e = absurd (none-eq state e)
  signable channel (Some k) state e = go (wish ts waits m channel k) e
    where
      go : (o : Option StateParts) → if_signable r (facts_of m) channel k o ≡ Some state → (k' : Kept) × (Some k ≡ Some k') × (can_sign r (facts_of m) channel k' state ≡ true)
      go None e = absurd (none-eq state e)
      go (Some x) e = test (can_sign r (facts_of m) channel k x) refl e
        where
          test : (b : Bool) → can_sign r (facts_of m) channel k x ≡ b → cond b (Some x) None ≡ Some state → (k' : Kept) × (Some k ≡ Some k') × (can_sign r (facts_of m) channel k' state ≡ true)
          test false t e = absurd (none-eq state e)
          test true t e = (k, refl, ap (can_sign r (facts_of m) channel k) (sym (some-eq x state e)) ∙ t)

  signed-own : (name : List ℕ) (state : StateParts) (signature : List ℕ) → bytes_eq name c ≡ true → signs_in ts r waits m name ≡ Some state → used < s.limit
      → signature ≡ s.made used (message_of_state (r.digest name state)) → SignsOwn r m c (record { state = state; signature = signature })
  signed-own name state signature here wants below made = record { extending = record { k = k; is = kept-is; tests = tests }; own = mine; stays_open = still }
    where
      at : (k : Kept) × (kept_of name m.kept ≡ Some k) × (can_sign r (facts_of m) name k state ≡ true)
      at = signable name (kept_of name m.kept) state wants

      k : Kept
      k = at.0

      kept-is : kept_of c m.kept ≡ Some k
      kept-is = subst (λ (x : List ℕ). kept_of x m.kept ≡ Some k) (same_bytes name c here) at.1

      owned : IsOwn r s.key c lines k
      owned = own-kept k kept-is

      turns : Bool
      turns = (state.turn == next_of k) && (mover (people k.chain.fixed) state.turn == k.me)

      after : (turns && is_open (stands_in (facts_of m) name)) ≡ true
      after = and-right (follows r k state) (turns && is_open (stands_in (facts_of m) name)) at.2

      comes : turns ≡ true
      comes = and-left turns (is_open (stands_in (facts_of m) name)) after

      still : is_open (stands_in (facts_of m) c) ≡ true
      still = subst (λ (n : List ℕ). is_open (stands_in (facts_of m) n) ≡ true) (same_bytes name c here) (and-right turns (is_open (stands_in (facts_of m) name)) after)

      mine : mover (people k.chain.fixed) state.turn ≡ k.me
      mine = eqb-true (mover (people k.chain.fixed) state.turn) k.me (and-right (state.turn == next_of k) (mover (people k.chain.fixed) state.turn == k.me) comes)

      name-is : name ≡ r.named k.chain.fixed
      name-is = same_bytes name c here ∙ sym (same_bytes (r.named k.chain.fixed) c owned.named)

      verified : r.verifies s.key (message_of_state (r.digest (r.named k.chain.fixed) state)) signature ≡ true
      verified =
          subst (λ (n : List ℕ). r.verifies s.key (message_of_state (r.digest n state)) signature ≡ true) name-is
          (subst (λ (sig : List ℕ). r.verifies s.key (message_of_state (r.digest name state)) sig ≡ true) (sym made) (signs-well used (message_of_state (r.digest name state)) below))

      well : is_signed_well r k.chain.fixed (record { state = state; signature = signature }) ≡ true
      well =
          ap (λ (o : Option (List ℕ)). signs r o (message_of_state (r.digest (r.named k.chain.fixed) state)) signature) (ap (slice_get k.chain.fixed.keys) mine ∙ owned.mine) ∙ verified

      step : is_step r k.chain.fixed state (newest k.chain.states) ≡ true
      step = is-a-step r k state (newest k.chain.states)
          (and-right (not (is_ended k)) (is_none (step_of r k state)) (and-left (follows r k state) (turns && is_open (stands_in (facts_of m) name)) at.2))

      tests : extends r k.chain.fixed (record { state = state; signature = signature }) (marked_of k.chain) ≡ true
      tests =
          and-both (state.turn == next_of k) (is_signed_well r k.chain.fixed (record { state = state; signature = signature }) && is_step r k.chain.fixed state (newest k.chain.states))
          (and-left (state.turn == next_of k) (mover (people k.chain.fixed) state.turn == k.me) comes)
          (and-both (is_signed_well r k.chain.fixed (record { state = state; signature = signature })) (is_step r k.chain.fixed state (newest k.chain.states)) well step)

  -- a state that it signed
  pub made-own : (deed : Deed) (command : Option Command) (t : Signed) → Allowed ts r s past m used waits deed command → made_in c deed ≡ Some t → SignsOwn r m c t
  made-own (deeds.Signed name state signature) command t allowed e = go (bytes_eq name c) refl e
    where
      go : (b : Bool) → bytes_eq name c ≡ b → some_if b (record { state = state; signature = signature }) ≡ Some t → SignsOwn r m c t
      go false is e = absurd (none-eq t e)
      go true is e = subst (SignsOwn r m c) (some-eq (record { state = state; signature = signature }) t e) (signed-own name state signature is allowed.0 allowed.1 allowed.2)
  made-own (deeds.Commanded step refusal) command t allowed e = absurd (none-eq t e)
  made-own (deeds.Handled bytes refusal) command t allowed e = absurd (none-eq t e)
  made-own (deeds.SignedChallenge channel state who signature) command t allowed e = absurd (none-eq t e)
  made-own (deeds.Called call) command t allowed e = absurd (none-eq t e)
  made-own (deeds.Watched watcher calls) command t allowed e = absurd (none-eq t e)

  -- a state that it took from a message
  taken-extends : (message : Message) (o : Option Kept) → kept_of message.0 m.kept ≡ o → None ≡ state_refusal ts r m message.0 message.1 o → bytes_eq message.0 c ≡ true → Extends r m c message.1
  taken-extends message None is e here = absurd (none-eq _ e)
  taken-extends message (Some k) is e here = record {
    k = k;
    is = subst (λ (x : List ℕ). kept_of x m.kept ≡ Some k) (same_bytes message.0 c here) is;
    tests =
        and-both (message.1.state.turn == next_of k) (is_signed_well r k.chain.fixed message.1 && is_step r k.chain.fixed message.1.state (newest k.chain.states)) turn
        (and-both (is_signed_well r k.chain.fixed message.1) (is_step r k.chain.fixed message.1.state (newest k.chain.states)) well step);
  }
    where
      line6 : Option NodeRefusal
      line6 = has_left m ⊳ fault_if (not (ts.accepts (facts_of m) message.0 message.1.state)) (NotWanted (stage_of ts (facts_of m) (ts.asked (facts_of m) message.0)))

      line5 : Option NodeRefusal
      line5 = fault_if (is_some (step_of r k message.1.state)) NotAStep

      line4 : Option NodeRefusal
      line4 = fault_if (not (is_signed_well r k.chain.fixed message.1)) BadSignature

      line3 : Option NodeRefusal
      line3 = fault_if (not (message.1.state.turn == next_of k)) (NotNext (next_of k))

      line2 : Option NodeRefusal
      line2 = fault_if (is_ended k) (NotNext 0)

      after3 : (line3 ⊳ line4 ⊳ line5 ⊳ line6) ≡ None
      after3 = rest_none line2 (line3 ⊳ line4 ⊳ line5 ⊳ line6) (rest_none (not_open ts (facts_of m)) (line2 ⊳ line3 ⊳ line4 ⊳ line5 ⊳ line6) (sym e))

      after4 : (line4 ⊳ line5 ⊳ line6) ≡ None
      after4 = rest_none line3 (line4 ⊳ line5 ⊳ line6) after3

      after5 : (line5 ⊳ line6) ≡ None
      after5 = rest_none line4 (line5 ⊳ line6) after4

      turn : (message.1.state.turn == next_of k) ≡ true
      turn = not-false (message.1.state.turn == next_of k) (holds_not (not (message.1.state.turn == next_of k)) (NotNext (next_of k)) (first_none line3 (line4 ⊳ line5 ⊳ line6) after3))

      well : is_signed_well r k.chain.fixed message.1 ≡ true
      well = not-false (is_signed_well r k.chain.fixed message.1) (holds_not (not (is_signed_well r k.chain.fixed message.1)) BadSignature (first_none line4 (line5 ⊳ line6) after4))

      step : is_step r k.chain.fixed message.1.state (newest k.chain.states) ≡ true
      step = is-a-step r k message.1.state (newest k.chain.states) (none-is (step_of r k message.1.state) (holds_not (is_some (step_of r k message.1.state)) NotAStep (first_none line5 line6 after5)))

  told-extends : (o : Result Message ByteFault) (t : Signed) → None ≡ message_refusal ts r m o → told_in c o ≡ Some t → Extends r m c t
  told-extends (Err fault) t e told = absurd (none-eq t told)
  told-extends (Ok message) t e told = go (bytes_eq message.0 c) refl told
    where
      go : (b : Bool) → bytes_eq message.0 c ≡ b → some_if b message.1 ≡ Some t → Extends r m c t
      go false is told = absurd (none-eq t told)
      go true is told = subst (Extends r m c) (some-eq message.1 t told) (taken-extends message (kept_of message.0 m.kept) refl e is)

  -- a state that it signed or took from a message
  pub noted-extends : (deed : Deed) (command : Option Command) (t : Signed) → Allowed ts r s past m used waits deed command → noted_in c deed ≡ Some t → Extends r m c t
  noted-extends (deeds.Signed name state signature) command t allowed e = (made-own (deeds.Signed name state signature) command t allowed e).extending
  noted-extends (deeds.Handled bytes None) command t allowed e = told-extends (message_of bytes) t allowed.1 e
  noted-extends (deeds.Handled bytes (Some refusal)) command t allowed e = absurd (none-eq t e)
  noted-extends (deeds.Commanded step refusal) command t allowed e = absurd (none-eq t e)
  noted-extends (deeds.SignedChallenge channel state who signature) command t allowed e = absurd (none-eq t e)
  noted-extends (deeds.Called call) command t allowed e = absurd (none-eq t e)
  noted-extends (deeds.Watched watcher calls) command t allowed e = absurd (none-eq t e)

  -- ---- the channels that are opened are apart and not kept yet

  open-new : (command : Command) → None ≡ open_refusal ts r m command → are_new m (map r.named (opened_by command)) ≡ true
  open-new command e = and-right (ts.fits (facts_of m) command) (are_new m (map r.named (opened_by command))) can
    where
      line4 : Option NodeRefusal
      line4 = unfinished ts (facts_of m) ⊳ fault_if (nat_lt 64 (length (channels m.parts) + length (opened_by command))) (TooMany (length (channels m.parts)))

      line3 : Option NodeRefusal
      line3 = has_left m

      line2 : Option NodeRefusal
      line2 = fault_if (not (can_open ts r m command)) NotAStep

      line1 : Option NodeRefusal
      line1 = not_open ts (facts_of m)

      line0 : Option NodeRefusal
      line0 = fault_if (not (are_planned m (ledgers_for m.key command))) UnknownChannel

      can : can_open ts r m command ≡ true
      can = not-false (can_open ts r m command) (holds_not (not (can_open ts r m command)) NotAStep (first_none line2 (line3 ⊳ line4) (rest_none line1 (line2 ⊳ line3 ⊳ line4) (rest_none line0 (line1 ⊳ line2 ⊳ line3 ⊳ line4) (sym e)))))

  new-of : (command : Command) → None ≡ command_refusal ts r s.limit used m command → (g : FixedParts) → In g (opened_by command) → are_new m (map r.named (opened_by command)) ≡ true
  new-of (Open f outcome) e g i = open-new (Open f outcome) e
  new-of (OpenOn o) e g i = open-new (OpenOn o) e
  new-of (OpenVirtual v) e g i = open-new (OpenVirtual v) e
  new-of (Pay channel asset amount) e g i = absurd i
  new-of (Close channel) e g i = absurd i
  new-of (Release how channel) e g i = absurd i
  new-of (Resend channel) e g i = absurd i
  new-of Exit e g i = absurd i

  -- the channels of a command whose line opens this one
  pub opens-new : (seen : ℕ) (deed : Deed) (command : Option Command) → Allowed ts r s past m used waits deed command
      → (g : FixedParts) → In g (opened (record { seen = seen; deed = deed; adds = adds s.key command })) → OpensNew r m s.key command
  opens-new seen (deeds.Commanded step None) (Some command) allowed g i =
      let inside : In g (opened_by command) = filter-in (takes_part s.key) g (opened_by command) i in
      record { command = command; is = refl; new = new-of command allowed.1 g inside }
  opens-new seen (deeds.Commanded step None) None allowed g i = absurd i
  opens-new seen (deeds.Commanded step (Some refusal)) command allowed g i = absurd i
  opens-new seen (deeds.Handled bytes refusal) command allowed g i = absurd i
  opens-new seen (deeds.Signed name state signature) command allowed g i = absurd i
  opens-new seen (deeds.SignedChallenge channel state who signature) command allowed g i = absurd i
  opens-new seen (deeds.Called call) command allowed g i = absurd i
  opens-new seen (deeds.Watched watcher calls) command allowed g i = absurd i

  pub opens-none : (seen : ℕ) (deed : Deed) (command : Option Command) → Allowed ts r s past m used waits deed command
      → opens r c (record { seen = seen; deed = deed; adds = adds s.key command }) ≡ true → kept_of c m.kept ≡ None
  opens-none seen deed command allowed e = at (any-in (λ g. bytes_eq (r.named g) c) (opened (record { seen = seen; deed = deed; adds = adds s.key command })) e)
    where
      at : (g : FixedParts) × In g (opened (record { seen = seen; deed = deed; adds = adds s.key command })) × (bytes_eq (r.named g) c ≡ true) → kept_of c m.kept ≡ None
      at found =
          let o : OpensNew r m s.key command = opens-new seen deed command allowed found.0 found.1 in
          let inside : In found.0 (opened_by o.command) = filter-in (takes_part s.key) found.0 (opened_by o.command) (subst (λ (z : Option Command). In found.0 (adds s.key z)) o.is (opened-in deed (adds s.key command) found.0 found.1)) in
          let free : is_planned m (r.named found.0) ≡ false =
          not-true (is_planned m (r.named found.0)) (all-in (λ name. not (is_planned m name)) (map r.named (opened_by o.command)) (r.named found.0)
          (and-right (are_apart (map r.named (opened_by o.command))) (list_all (λ name. not (is_planned m name)) (map r.named (opened_by o.command))) o.new)
          (map-in r.named found.0 (opened_by o.command) inside)) in
          subst (λ (x : List ℕ). kept_of x m.kept ≡ None) (same_bytes (r.named found.0) c found.2)
          (none-of (kept_of (r.named found.0) m.kept) (or-left (is_some (kept_of (r.named found.0) m.kept)) (is_among (r.named found.0) (channels m.parts)) free))
