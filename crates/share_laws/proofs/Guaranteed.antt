-- What a person signed in its guarantors alone, these end with.
use Rattle.std.proofs.Common.{◌≡◌, ◌≢◌, ℕ, ◌<◌, ◌≤◌, Bool, true, false, cond, List, [], ◌∷◌, ◌++◌, ◌⊎◌, inl, inr, length, refl, sym, ◌∙◌, ap, subst, arith}
use Rattle.std.specs.Prelude.{Option, Some, None}
use Rattle.std.specs.List.{AllByRecursion}
use Rattle.std.specs.Option.{option_map}
use Rattle.channel_values.specs.Parts.{FixedParts}
use Rattle.channel_values.specs.declared.chain.Chain.{Chain}
use Rattle.channel_values.specs.declared.chain.Signed.{Signed}
use Rattle.channel_values.specs.declared.value.AssetOutcome.{AssetOutcome}
use Rattle.channel_values.specs.declared.value.Dest.{Dest}
use Rattle.channel_values.specs.declared.value.Shape.{Shape}
use Rattle.call_history.specs.Mode.{is_final}
use Rattle.channel_values.specs.Rules.{Rules, KeepsFinal}
use Rattle.call_history.specs.Dues.{shape_in}
use Rattle.call_history.specs.Rest.{rest_shape, rest_outcome}
use Rattle.call_history.specs.History.{Legal, turning, mode, settled, paid_of}
use Rattle.call_history.specs.Marked.{Marked}
use Rattle.call_history.specs.Shown.{shown}
use Rattle.call_history.specs.Calls.{make_challenge}
use Rattle.call_history.specs.declared.call.Op.TheVariants as ops
use Rattle.call_history.specs.declared.entry.Entry.{Entry}
use Rattle.call_history.proofs.Payouts.{shape_rest}
use Rattle.channel_safety.specs.Journals.{made_in, In, Line, opened, is_watched}
use Rattle.channel_safety.specs.Held.{held}
use Rattle.channel_safety.specs.Honest.{Honest, HonestIn, HonestLine}
use Rattle.channel_safety.specs.Premises.{Unforged, InTime}
use Rattle.channel_safety.specs.Occurring.{NoCollision, AreValid}
use Rattle.channel_safety.specs.Safety.{IsChannelOf, SettlesWell}
use Rattle.share_laws.specs.Books.{counts_in, outcome_in}
use Rattle.share_laws.specs.Places.{Order, other, channels, counting, outcomes_of, possible_after, is_held, last_made, possible, IsPlace}
use Rattle.support_rules.specs.May.{OneOf}
use Rattle.share_laws.specs.Sound.{IsPromise}
use Rattle.share_laws.specs.Finality.{StandsFor, StepsKeepPossible}
use Rattle.share_laws.specs.Signed.{Promises, IsNoPayment, SignedGuaranteesStand}
use Rattle.share_laws.proofs.Counted.{Outcome, silent, such, outcome-such}
use Rattle.share_laws.proofs.Ending.{EndsBy, by_conclude, by_time, OwnSteps, own_steps}
use Rattle.share_laws.proofs.Finals.{not-final, final-is}
use Rattle.share_laws.proofs.Finality.{settles, stands, opened-there, opens-not_watched}
use Rattle.share_laws.proofs.Fronts.{front_at, FrontAt, front-at, Became, became, last-made, last-line, held-opened, channels-there}
use Rattle.channel_safety.proofs.Tests.{some-eq}
use Rattle.channel_safety.proofs.Lists.{In-append_right, In-append_cases, append_assoc'}
use Rattle.channel_safety.proofs.Final.{Concluded, Expired, becomes_final}
use Rattle.channel_safety.proofs.Places.{made-not_watched}
use Rattle.channel_safety.proofs.Rowing.{legal-suffix}
use Rattle.channel_safety.proofs.Safe.{Setting, MadeLine, Placed, placed, honest-at, own_line, valid-shown}
use Rattle.channel_safety.proofs.Headline.{setting, fixed-is}
use Rattle.channel_safety.proofs.Taking.{take-part}

-- a promise stays when items are paid
promise-rest : (joint : List ℕ) (list : List Dest) (p : ℕ → ℕ → ℕ) (o : List AssetOutcome) → Promises joint list o → Promises joint list (rest_outcome p o)
promise-rest joint list p o h asset = subst (λ (s : Option Shape). IsPromise joint list s) (sym (shape_rest p o asset)) (go (shape_in o asset) (h asset))
  where
    go : (s : Option Shape) → IsPromise joint list s → IsPromise joint list (option_map (rest_shape (p asset)) s)
    go None h = tt
    go (Some shape) h = ap (rest_shape (p asset)) h

-- what stands for one of these is one of these
stands-among : (P : List AssetOutcome → Type 0) (f : FixedParts) (me : List ℕ) (p : List AssetOutcome) (os : List (List AssetOutcome)) → f.app ≢ 1 →
    AllByRecursion P os → OneOf (λ o. StandsFor f me o p) os → P p
stands-among P f me p [] n all h = absurd h
stands-among P f me p (o ∷ os) n all (inl h) = subst P (sym (h.same n)) all.0
stands-among P f me p (o ∷ os) n all (inr h) = stands-among P f me p os n all.1 h

module _ (r : Rules) (key me : List ℕ) (h : List Entry) (journal : List Line) (keeps : KeepsFinal r) (possibly : StepsKeepPossible r key me) (legal : Legal r h)
    (honest : Honest r key h journal) (unforged : Unforged r key h journal) (distinct : NoCollision r h journal) (valid : AreValid h journal) (in_time : InTime r h journal)
    (P : List AssetOutcome → Type 0) (lasts : (p : ℕ → ℕ → ℕ) (o : List AssetOutcome) → P o → P (rest_outcome p o)) (f : FixedParts)
    (signs : (x : Line) (s : Signed) → In x journal → made_in (r.named f) x.deed ≡ Some s → AllByRecursion P (outcomes_of s.state)) (nopay : f.app ≢ 1) where
  abbrev orders : ℕ → Order
  orders n = other

  -- at the entry by which the channel became final
  module _ (later older : List Entry) (e : Entry) (is : h ≡ later ++ e ∷ older) (seen : ℕ) (channel : IsChannelOf key f journal seen)
      (open' : is_final (mode r (r.named f) older) ≡ false) (final : is_final (mode r (r.named f) (e ∷ older)) ≡ true) where
    on : Setting r key f h journal
    on = setting r key h journal keeps legal honest unforged distinct valid f seen channel

    abbrev front : List Line
    front = front_at (length older) journal

    at : FrontAt (length older) journal front
    at = front-at r key f h (length older) journal on.honest

    before : IsPlace h journal older front
    before = record {
      later = later ++ e ∷ [];
      newer = at.newer;
      entries = is ∙ append_assoc' later (e ∷ []) older;
      lines = at.lines;
      before = at.before;
      after = λ x i w. (let l : length older < x.seen = at.after x i w in omega (arith, l));
    }

    after : IsPlace h journal (e ∷ older) front
    after = record {
      later = later;
      newer = at.newer;
      entries = is;
      lines = at.lines;
      before = λ x i w. (let l : x.seen ≤ length older = at.before x i w in omega (arith, l));
      after = λ x i w. (let l : length older < x.seen = at.after x i w in omega (arith, l));
    }

    in_front : (y : Line) → In y journal → y.seen ≤ length older → is_watched y.deed ≡ false → In y front
    in_front y i early w = go (In-append_cases y at.newer front (subst (λ (ls : List Line). In y ls) at.lines i))
      where
        go : In y at.newer ⊎ In y front → In y front
        go (inl j) = let l : length older < y.seen = at.after y j w in absurd (omega (arith, l, early))
        go (inr j) = j

    ends : EndsBy r f h e older
    ends = go (becomes_final r (r.named f) e older lasting (not-final (mode r (r.named f) older) open') (final-is (mode r (r.named f) (e ∷ older)) final))
      where
        lasting : (chain : Chain) (who : ℕ) (sig : List ℕ) → turning r (r.named f) e ≡ true → e.op ≡ ops.Call (make_challenge chain who sig) → 0 < chain.fixed.duration
        lasting chain who sig turns op =
            subst (λ (G : FixedParts). 0 < G.duration) (sym (fixed-is r key f h journal on later older e chain.fixed (ops.Call (make_challenge chain who sig)) is turns op refl))
            (let started : 1 ≤ f.duration = (valid.fixed f (inr (channel.line, channel.there, channel.opens))).started in omega arith)

        go : Concluded r (r.named f) e ⊎ Expired r (r.named f) e older → EndsBy r f h e older
        go (inl c) = by_conclude r key f h journal on later older e is c
        go (inr x) = by_time r key f h journal on later older e is x

    line : (own : OwnSteps r f on.me (shown r (r.named f) ends.older ends.entry)) → MadeLine r f journal (length ends.older) own.own.signed.state
    line own = own_line r key f h journal on ends.later ends.older ends.entry ends.is own.own

    own : OwnSteps r f on.me (shown r (r.named f) ends.older ends.entry)
    own = own_steps r keeps f on.me (shown r (r.named f) ends.older ends.entry) on.small (valid-shown r (r.named f) h journal valid ends.later ends.older ends.entry ends.is) ends.chain

    made : MadeLine r f journal (length ends.older) own.own.signed.state
    made = line own

    early : made.line.seen ≤ length older
    early = let a : made.line.seen ≤ length ends.older = made.early in let b : length ends.older ≤ length older = ends.early in omega (arith, a, b)

    made_there : In made.line front
    made_there = in_front made.line made.there early (made-not_watched (r.named f) made.line.deed made.signed made.made)

    -- so the participant had signed in the channel, which it had opened before
    there : In f (channels front)
    there = go (placed r key f h journal on.honest (later ++ e ∷ []) older (is ∙ append_assoc' later (e ∷ []) older) made.line made.there early)
      where
        go : Placed r key f h journal on.honest older made.line → In f (channels front)
        go p = by (p.hon.in_plan made.signed made.made)
          where
            by : (w : Marked) × (held r f p.seen p.front ≡ Some w) → In f (channels front)
            by w =
                let x = held-opened r f p.seen p.front w.0 w.1 in
                let i : In x.0 journal = subst (λ (ls : List Line). In x.0 ls) (sym p.is) (In-append_right x.0 p.newer (made.line ∷ p.front) (inr x.2)) in
                let nw : is_watched x.0.deed ≡ false = opens-not_watched x.0 x.1 x.3 in
                let hl : HonestLine r key f h made.line p.front = honest-at r key f h p.newer made.line p.front (subst (HonestIn r key f h) p.is on.honest) in
                let low : x.0.seen ≤ made.line.seen = hl.rising x.0 x.2 nw in
                let same : x.1 ≡ f = distinct.names x.1 f (inr (x.0, i, x.3)) (inr (channel.line, channel.there, channel.opens)) x.4 in
                channels-there front x.0 f (in_front x.0 i (omega (arith, low, early)) nw) (subst (λ (g : FixedParts). In g (opened x.0)) same x.3)

    pub promised : (o : List AssetOutcome) → settled r (r.named f) (e ∷ older) ≡ Some o → P o
    promised o has =
        let last = last-made (r.named f) front made.line made.signed made_there made.made in
        let y = last-line (r.named f) front last.0 last.1 in
        let all : AllByRecursion P (outcomes_of last.0.state) =
        signs y.0 last.0 (subst (λ (ls : List Line). In y.0 ls) (sym at.lines) (In-append_right y.0 at.newer front y.1)) y.2 in
        let w : SettlesWell r f e older journal =
        settles r key me orders h journal keeps possibly legal honest unforged distinct valid in_time older e front before after f there open' final in
        let p : P w.outcome =
        stands-among P f me w.outcome (outcomes_of last.0.state) nopay all
        (stands r key me orders h journal keeps possibly legal honest unforged distinct valid in_time older e front before after f there open' final last.0 last.1) in
        let same : w.outcome ≡ o = some-eq w.outcome o (sym w.is ∙ has) in
        subst P same p

  module _ (past : List Entry) (front : List Line) (place : IsPlace h journal past front) (channel : IsChannelOf key f journal (length past)) where
    past_legal : Legal r past
    past_legal = legal-suffix r place.later past (subst (Legal r) place.entries legal)

    settled_promised : is_final (mode r (r.named f) past) ≡ true → (o : List AssetOutcome) → settled r (r.named f) past ≡ Some o → P o
    settled_promised final o has =
        let b : Became r (r.named f) past = became r (r.named f) past past_legal final in
        promised (place.later ++ b.mid) b.older b.entry
        (place.entries ∙ (ap (λ (es : List Entry). place.later ++ es) b.split ∙ append_assoc' place.later b.mid (b.entry ∷ b.older)))
        (length past) channel b.before b.now o (sym b.same ∙ has)

    pub possible_promised : AllByRecursion P (possible r past front f)
    possible_promised =
        go (is_held r f (held r f past front)) (is_final (mode r (r.named f) past)) refl (settled r (r.named f) past) refl (last_made (r.named f) front) refl
      where
        go : (k b : Bool) → is_final (mode r (r.named f) past) ≡ b → (s : Option (List AssetOutcome)) → settled r (r.named f) past ≡ s → (last : Option Signed) → last_made (r.named f) front ≡ last →
            AllByRecursion P (cond k (possible_after b (option_map (rest_outcome (paid_of past (r.named f))) s) last) [])
        go false b e s m last l = tt
        go true b e s m None l = tt
        go true false e s m (Some t) l =
            let y = last-line (r.named f) front t l in
            signs y.0 t (subst (λ (ls : List Line). In y.0 ls) (sym place.lines) (In-append_right y.0 place.newer front y.1)) y.2
        go true true e None m (Some t) l = tt
        go true true e (Some o) m (Some t) l = (lasts (paid_of past (r.named f)) o (settled_promised e o m), tt)

-- what holds of all outcomes that the participant signed in a channel holds of what it can end with
pub signed_such : (r : Rules) (key me : List ℕ) (h : List Entry) (journal : List Line) → KeepsFinal r → StepsKeepPossible r key me → Legal r h
    → Honest r key h journal → Unforged r key h journal → NoCollision r h journal → AreValid h journal → InTime r h journal
    → (P : List AssetOutcome → Type 0) → ((p : ℕ → ℕ → ℕ) (o : List AssetOutcome) → P o → P (rest_outcome p o)) → (g : List ℕ)
    → ((x : Line) (s : Signed) → In x journal → made_in g x.deed ≡ Some s → AllByRecursion P (outcomes_of s.state)) → IsNoPayment r journal g
    → (past : List Entry) (front : List Line) → IsPlace h journal past front → (taken : List (List ℕ))
    → Outcome P (counts_in (counting r past front) g) (outcome_in (counting r past front) taken g)
signed_such r key me h journal keeps possibly legal honest unforged distinct valid in_time P lasts g signs nopay past front place taken =
    outcome-such P taken g r past front (channels front) each
  where
    each : (f : FixedParts) → In f (channels front) → r.named f ≡ g → AllByRecursion P (possible r past front f)
    each f i e =
        possible_promised r key me h journal keeps possibly legal honest unforged distinct valid in_time P lasts f
        (subst (λ (n : List ℕ). (x : Line) (s : Signed) → In x journal → made_in n x.deed ≡ Some s → AllByRecursion P (outcomes_of s.state)) (sym e) signs) (nopay f (channels-more i) e) past front place
        (channel-at f i)
      where
        channels-more : In f (channels front) → In f (channels journal)
        channels-more j =
            let x = opened-there front f j in
            channels-there journal x.0 f (subst (λ (ls : List Line). In x.0 ls) (sym place.lines) (In-append_right x.0 place.newer front x.1)) x.2

        channel-at : (f : FixedParts) → In f (channels front) → IsChannelOf key f journal (length past)
        channel-at f j =
            let x = opened-there front f j in
            let there : In x.0 journal = subst (λ (ls : List Line). In x.0 ls) (sym place.lines) (In-append_right x.0 place.newer front x.1) in
            let m = take-part r key h journal honest x.0 f there x.2 in
            record { line = x.0; there = there; early = place.before x.0 x.1 (opens-not_watched x.0 f x.2); opens = x.2; me = m.0; mine = m.1 }

pub signed_stand : SignedGuaranteesStand
signed_stand r key me h journal keeps possibly legal honest unforged distinct valid in_time g joint list signs nopay past front place taken asset =
    go (counts_in (counting r past front) g) (outcome_in (counting r past front) taken g)
    (signed_such r key me h journal keeps possibly legal honest unforged distinct valid in_time (Promises joint list) (promise-rest joint list) g signs nopay past front place taken)
  where
    go : (b : Bool) (o : List AssetOutcome) → Outcome (Promises joint list) b o → IsPromise joint list (shape_in o asset)
    go false o silent = tt
    go true o (such p) = p asset
