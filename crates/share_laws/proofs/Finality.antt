-- Channels end well, by the law that no outcome becomes final that is older, and by the steps after the last state
-- signed.
use Rattle.std.proofs.Common.{◌≡◌, ℕ, ◌+◌, ◌%◌, ◌<◌, ◌≤◌, Bool, true, false, cond, List, [], ◌∷◌, ◌++◌, ◌⊎◌, inl, inr, length, refl, sym, ◌∙◌, ap, subst, arith}
use Rattle.std.specs.Prelude.{Option, Some, None}
use Rattle.std.specs.Option.{option_map, option_or}
use Rattle.channel_values.specs.Parts.{FixedParts, StateParts}
use Rattle.channel_values.specs.declared.chain.Chain.{Chain}
use Rattle.channel_values.specs.declared.chain.Signed.{Signed}
use Rattle.channel_values.specs.declared.value.AssetOutcome.{AssetOutcome}
use Rattle.call_history.specs.Mode.{is_final}
use Rattle.channel_values.specs.Rules.{Rules, people, top_turn, top_outcome, KeepsFinal}
use Rattle.call_history.specs.Rest.{rest_outcome}
use Rattle.call_history.specs.History.{Legal, turning, row, mode, paid_of, rest_of_channel}
use Rattle.call_history.specs.Shown.{shown}
use Rattle.call_history.specs.Calls.{make_challenge}
use Rattle.call_history.specs.declared.call.Op.TheVariants as ops
use Rattle.call_history.specs.declared.entry.Entry.{Entry}
use Rattle.call_history.specs.declared.event.Deed.{Deed}
use Rattle.call_history.specs.declared.event.Deed.TheVariants as deeds
use Rattle.channel_values.specs.Amounts.{aff}
use Rattle.channel_values.specs.declared.value.Dest.TheVariants.{Person}
use Rattle.channel_safety.specs.Journals.{In, Line, opened, is_followed, made_in, is_watched}
use Rattle.channel_safety.specs.Held.{held}
use Rattle.channel_safety.specs.Honest.{Honest, HonestIn}
use Rattle.channel_safety.specs.Premises.{Unforged, InTime}
use Rattle.channel_safety.specs.Occurring.{NoCollision, AreValid}
use Rattle.channel_safety.specs.Safety.{IsChannelOf, SettlesWell}
use Rattle.share_laws.specs.Places.{Order, plan, channels, listed, proposed, outcomes_of, possible_after, is_held, last_made, possible, IsPlace}
use Rattle.share_laws.specs.Bases.{all_bases, NoWorse}
use Rattle.funding_plans.specs.Shapes.{items_in, list_in}
use Rattle.support_rules.specs.May.{OneOf}
use Rattle.share_laws.specs.Turns.{Turns}
use Rattle.share_laws.specs.Finality.{StandsFor, StepsKeepPossible, RestsOnNoPayments, FinalsEndWell, HonestSharesAreKept}
use Rattle.channel_safety.proofs.Taking.{take-part}
use Rattle.share_laws.proofs.Finals.{not-final, final-is}
use Rattle.share_laws.proofs.Whole.{whole}
use Rattle.share_laws.proofs.Ending.{EndsBy, by_conclude, by_time, OwnSteps, own_steps}
use Rattle.share_laws.proofs.Keeping.{held-over_entry}
use Rattle.share_laws.proofs.Unpaid.{rest-whole}
use Rattle.channel_safety.proofs.Tests.{some-eq, le_or_lt}
use Rattle.channel_safety.proofs.Lists.{In-append_right, In-append_cases, Suffix, suffix_of, append_assoc'}
use Rattle.channel_safety.proofs.Chains.{parts}
use Rattle.channel_safety.proofs.Final.{Concluded, Expired, becomes_final}
use Rattle.channel_safety.proofs.Places.{made-not_watched, made-noted}
use Rattle.channel_safety.proofs.Safe.{Setting, honest-suffix, MadeLine, own_line, made-mover, valid-shown}
use Rattle.channel_safety.proofs.Rowing.{legal-suffix}
use Rattle.channel_safety.proofs.Headline.{setting, fixed-is, safe}

-- ---- the last state signed

-- it is the line's, and no other one has a greater turn
pub record Lasts (n : List ℕ) (front : List Line) (t : Signed) : Type 0 where
  pub line : Line
  pub there : In line front
  pub made : made_in n line.deed ≡ Some t
  pub greatest : (y : Line) (s : Signed) → In y front → made_in n y.deed ≡ Some s → s.state.turn ≤ t.state.turn
  pub unique : (y : Line) (s : Signed) → In y front → made_in n y.deed ≡ Some s → s.state.turn ≡ t.state.turn → s ≡ t

pub lasts : (r : Rules) (key : List ℕ) (F : FixedParts) (h : List Entry) (front : List Line) (t : Signed) → HonestIn r key F h front → last_made (r.named F) front ≡ Some t → Lasts (r.named F) front t
lasts r key F h [] t hon is = cc
lasts r key F h (x ∷ front) t hon is = go (made_in (r.named F) x.deed) refl is (lasts r key F h front t hon.1)
  where
    above : (s : Signed) → made_in (r.named F) x.deed ≡ Some s → (y : Line) (u : Signed) → In y front → made_in (r.named F) y.deed ≡ Some u → u.state.turn < s.state.turn
    above s made y u i m = at (suffix_of h x.seen hon.0.within)
      where
        at : Suffix h x.seen → u.state.turn < s.state.turn
        at p = (hon.0.place p.later p.past p.is p.len).above s made y u i m

    go : (o : Option Signed) → made_in (r.named F) x.deed ≡ o → option_or o (last_made (r.named F) front) ≡ Some t → (last_made (r.named F) front ≡ Some t → Lasts (r.named F) front t) → Lasts (r.named F) (x ∷ front) t
    go (Some s) made e rec =
        let same : s ≡ t = some-eq s t e in
        let mine : made_in (r.named F) x.deed ≡ Some t = made ∙ ap (λ (y : Signed). Some y) same in
        record {
          line = x;
          there = inl refl;
          made = mine;
          greatest = λ y u i m. high mine y u i m;
          unique = λ y u i m f. one mine y u i m f;
        }
      where
        high : made_in (r.named F) x.deed ≡ Some t → (y : Line) (u : Signed) → In y (x ∷ front) → made_in (r.named F) y.deed ≡ Some u → u.state.turn ≤ t.state.turn
        high mine y u (inl i) m = let same : u ≡ t = some-eq u t (sym m ∙ (ap (λ (z : Line). made_in (r.named F) z.deed) i ∙ mine)) in let f = ap (λ (z : Signed). z.state.turn) same in omega (arith, f)
        high mine y u (inr i) m = let l = above t mine y u i m in omega (arith, l)

        one : made_in (r.named F) x.deed ≡ Some t → (y : Line) (u : Signed) → In y (x ∷ front) → made_in (r.named F) y.deed ≡ Some u → u.state.turn ≡ t.state.turn → u ≡ t
        one mine y u (inl i) m f = some-eq u t (sym m ∙ (ap (λ (z : Line). made_in (r.named F) z.deed) i ∙ mine))
        one mine y u (inr i) m f = let l = above t mine y u i m in absurd (omega (arith, l, f))
    go None made e rec = more (rec e)
      where
        more : Lasts (r.named F) front t → Lasts (r.named F) (x ∷ front) t
        more l = record {
          line = l.line;
          there = inr l.there;
          made = l.made;
          greatest = λ y u i m. high y u i m;
          unique = λ y u i m f. one y u i m f;
        }
          where
            none : (y : Line) (u : Signed) → y ≡ x → made_in (r.named F) y.deed ≡ Some u → ⊥
            none y u i m = let f : None ≡ Some u = sym made ∙ (ap (λ (z : Line). made_in (r.named F) z.deed) (sym i) ∙ m) in cc

            high : (y : Line) (u : Signed) → In y (x ∷ front) → made_in (r.named F) y.deed ≡ Some u → u.state.turn ≤ t.state.turn
            high y u (inl i) m = absurd (none y u i m)
            high y u (inr i) m = l.greatest y u i m

            one : (y : Line) (u : Signed) → In y (x ∷ front) → made_in (r.named F) y.deed ≡ Some u → u.state.turn ≡ t.state.turn → u ≡ t
            one y u (inl i) m f = absurd (none y u i m)
            one y u (inr i) m f = l.unique y u i m f

-- ---- the channels of a front

pub opened-there : (front : List Line) (f : FixedParts) → In f (channels front) → (x : Line) × (In x front) × (In f (opened x))
opened-there [] f i = absurd i
opened-there (x ∷ front) f i = go (In-append_cases f (channels front) (opened x) i) (opened-there front f)
  where
    go : In f (channels front) ⊎ In f (opened x) → (In f (channels front) → (y : Line) × (In y front) × (In f (opened y))) → (y : Line) × (In y (x ∷ front)) × (In f (opened y))
    go (inl j) rec = let p = rec j in (p.0, inr p.1, p.2)
    go (inr j) rec = (x, inl refl, j)

pub opens-not_watched : (x : Line) (f : FixedParts) → In f (opened x) → is_watched x.deed ≡ false
opens-not_watched x f i = go (is_watched x.deed) refl
  where
    followed : is_watched x.deed ≡ true → is_followed x.deed ≡ false
    followed w = by x.deed w
      where
        by : (d : Deed) → is_watched d ≡ true → is_followed d ≡ false
        by (deeds.Watched place calls) w = refl
        by d w = cc

    go : (b : Bool) → is_watched x.deed ≡ b → b ≡ false
    go true w = absurd (subst (λ (b : Bool). In f (cond b x.adds [])) (followed w) i)
    go false w = refl

map-one : (P Q : List AssetOutcome → Type 0) (os : List (List AssetOutcome)) → ((o : List AssetOutcome) → P o → Q o) → OneOf P os → OneOf Q os
map-one P Q [] f h = absurd h
map-one P Q (o ∷ os) f (inl h) = inl (f o h)
map-one P Q (o ∷ os) f (inr h) = inr (map-one P Q os f h)

at_most_two : (s : StateParts) → length (outcomes_of s) ≤ 2
at_most_two s = go (proposed s.app_bytes)
  where
    go : (o : Option (List AssetOutcome)) → length (s.outcome ∷ listed o) ≤ 2
    go None = omega arith
    go (Some p) = omega arith

module _ (r : Rules) (key me : List ℕ) (orders : ℕ → Order) (h : List Entry) (journal : List Line) (keeps : KeepsFinal r) (possibly : StepsKeepPossible r key me) (legal : Legal r h)
    (honest : Honest r key h journal) (unforged : Unforged r key h journal) (distinct : NoCollision r h journal) (valid : AreValid h journal) (in_time : InTime r h journal)
    (past : List Entry) (e : Entry) (front : List Line) (before : IsPlace h journal past front) (after : IsPlace h journal (e ∷ past) front) where
  is_channel : (f : FixedParts) → In f (channels front) → IsChannelOf key f journal (length past)
  is_channel f i =
      let x = opened-there front f i in
      let there : In x.0 journal = subst (λ (ls : List Line). In x.0 ls) (sym before.lines) (In-append_right x.0 before.newer front x.1) in
      let j = take-part r key h journal honest x.0 f there x.2 in
      record { line = x.0; there = there; early = before.before x.0 x.1 (opens-not_watched x.0 f x.2); opens = x.2; me = j.0; mine = j.1 }

  -- a line that had seen no more is in the front
  in_front : (n : List ℕ) (y : Line) (s : Signed) → In y journal → y.seen ≤ length past → made_in n y.deed ≡ Some s → In y front
  in_front n y s i early made = go (In-append_cases y after.newer front (subst (λ (ls : List Line). In y ls) after.lines i))
    where
      go : In y after.newer ⊎ In y front → In y front
      go (inl j) = let l : length (e ∷ past) ≤ y.seen = after.after y j (made-not_watched n y.deed s made) in absurd (omega arith)
      go (inr j) = j

  module _ (f : FixedParts) (there : In f (channels front)) (open' : is_final (mode r (r.named f) past) ≡ false) (final : is_final (mode r (r.named f) (e ∷ past)) ≡ true) where
    channel : IsChannelOf key f journal (length past)
    channel = is_channel f there

    on : Setting r key f h journal
    on = setting r key h journal keeps legal honest unforged distinct valid f (length past) channel

    pub settles : SettlesWell r f e past journal
    settles = safe r key h journal keeps legal honest unforged distinct valid in_time after.later past e f after.entries channel (not-final (mode r (r.named f) past) open') (final-is (mode r (r.named f) (e ∷ past)) final)

    ends : EndsBy r f h e past
    ends = go (becomes_final r (r.named f) e past lasting (not-final (mode r (r.named f) past) open') (final-is (mode r (r.named f) (e ∷ past)) final))
      where
        lasting : (chain : Chain) (who : ℕ) (sig : List ℕ) → turning r (r.named f) e ≡ true → e.op ≡ ops.Call (make_challenge chain who sig) → 0 < chain.fixed.duration
        lasting chain who sig turns op =
            subst (λ (G : FixedParts). 0 < G.duration) (sym (fixed-is r key f h journal on after.later past e chain.fixed (ops.Call (make_challenge chain who sig)) after.entries turns op refl))
            (let started : 1 ≤ f.duration = (valid.fixed f (inr (channel.line, channel.there, channel.opens))).started in omega arith)

        go : Concluded r (r.named f) e ⊎ Expired r (r.named f) e past → EndsBy r f h e past
        go (inl c) = by_conclude r key f h journal on after.later past e after.entries c
        go (inr x) = by_time r key f h journal on after.later past e after.entries x

    -- the outcome, and the chain's
    outcome_is : settles.outcome ≡ top_outcome (shown r (r.named f) ends.older ends.entry).states
    outcome_is = some-eq _ _ (sym settles.is ∙ ends.outcome)

    ready : (t : Signed) → last_made (r.named f) front ≡ Some t → Lasts (r.named f) front t
    ready t is = lasts r key f h front t (honest-suffix r key f h before.newer front (subst (λ (ls : List Line). HonestIn r key f h ls) before.lines on.honest)) is

    pub stands : (t : Signed) → last_made (r.named f) front ≡ Some t → OneOf (λ o. StandsFor f me o settles.outcome) (outcomes_of t.state)
    stands t is = decide (le_or_lt t.state.turn (top_turn (shown r (r.named f) ends.older ends.entry).states))
      where
        l : Lasts (r.named f) front t
        l = ready t is

        line_there : In l.line journal
        line_there = subst (λ (ls : List Line). In l.line ls) (sym before.lines) (In-append_right l.line before.newer front l.there)

        early : l.line.seen ≤ length past
        early = before.before l.line l.there (made-not_watched (r.named f) l.line.deed t l.made)

        own : OwnSteps r f on.me (shown r (r.named f) ends.older ends.entry)
        own = own_steps r keeps f on.me (shown r (r.named f) ends.older ends.entry) on.small (valid-shown r (r.named f) h journal valid ends.later ends.older ends.entry ends.is) ends.chain

        line : MadeLine r f journal (length ends.older) own.own.signed.state
        line = own_line r key f h journal on ends.later ends.older ends.entry ends.is own.own

        line_early : line.line.seen ≤ length past
        line_early = let a : line.line.seen ≤ length ends.older = line.early in let b : length ends.older ≤ length past = ends.early in omega arith

        line_front : In line.line front
        line_front = in_front (r.named f) line.line line.signed line.there line_early line.made

        last_mine : t.state.turn % people f ≡ on.me
        last_mine = made-mover r key f h journal on (after.later ++ e ∷ []) past (after.entries ∙ append_assoc' after.later (e ∷ []) past) t.state
            (record { line = l.line; signed = t; there = line_there; early = early; made = l.made; same = refl })

        by_steps : own.own.signed.state ≡ t.state → OneOf (λ o. StandsFor f me o settles.outcome) (outcomes_of t.state)
        by_steps same =
            subst (λ (s : StateParts). OneOf (λ o. StandsFor f me o settles.outcome) (outcomes_of s)) same
            (subst (λ (p : List AssetOutcome). OneOf (λ o. StandsFor f me o p) (outcomes_of own.own.signed.state)) (sym (outcome_is ∙ own.ends))
            (possibly f (valid.fixed f (inr (channel.line, channel.there, channel.opens))) on.me on.mine own.own.signed.state own.valid own.rest own.states own.steps own.few own.others))

        decide : (t.state.turn ≤ top_turn (shown r (r.named f) ends.older ends.entry).states) ⊎ (top_turn (shown r (r.named f) ends.older ends.entry).states < t.state.turn) → OneOf (λ o. StandsFor f me o settles.outcome) (outcomes_of t.state)
        decide (inl up) =
            let low : t.state.turn ≤ own.own.signed.state.turn = own.own.latest t.state.turn last_mine up in
            let high : line.signed.state.turn ≤ t.state.turn = l.greatest line.line line.signed line_front line.made in
            let same : own.own.signed.state.turn ≡ line.signed.state.turn = ap (λ (x : StateParts). x.turn) line.same in
            let one : line.signed ≡ t = l.unique line.line line.signed line_front line.made (omega (arith, low, high, same)) in
            by_steps (line.same ∙ ap (λ (x : Signed). x.state) one)
        decide (inr above) = newer (settles.not_older.noted_settled l.line t line_there early (made-noted (r.named f) l.line.deed t l.made) high)
          where
            high : people f ≤ t.state.turn + 1
            high = let p : people f ≤ top_turn (shown r (r.named f) ends.older ends.entry).states + 1 = (parts r f (shown r (r.named f) ends.older ends.entry) ends.chain).high in omega (arith, above, p)

            newer : (t.state.turn ≤ (row r (r.named f) (e ∷ past)).turn) ⊎ (t.state.outcome ≡ settles.outcome) → OneOf (λ o. StandsFor f me o settles.outcome) (outcomes_of t.state)
            newer (inl low) = let at : (row r (r.named f) (e ∷ past)).turn ≡ top_turn (shown r (r.named f) ends.older ends.entry).states = ends.turn in absurd (omega (arith, low, above, at))
            newer (inr same) = inl (record {
              affords = λ asset reach. (let f = ap (λ (o : List AssetOutcome). aff (items_in asset o) reach (Person me)) same in omega (arith, f));
              list = λ asset. ap (λ (o : List AssetOutcome). list_in asset o) (sym same);
              same = λ n. sym same;
            })

    no_worse : RestsOnNoPayments r orders front → (asset : ℕ) (o : List AssetOutcome) → StandsFor f me o settles.outcome → NoWorse asset me (all_bases (plan orders front)) (r.named f) o settles.outcome
    no_worse rests asset o s = record {
      affords = λ reach. s.affords asset reach;
      same = λ base. ap (λ (x : List AssetOutcome). items_in asset x) (s.same (rests f there base));
      list = s.list asset;
    }

    rest_is : rest_of_channel r (r.named f) (e ∷ past) ≡ Some settles.outcome
    rest_is =
        ap (option_map (rest_outcome (paid_of (e ∷ past) (r.named f)))) settles.is
        ∙ ap (λ (o : List AssetOutcome). Some o) (rest-whole r past e (r.named f) (legal-suffix r after.later (e ∷ past) (subst (Legal r) after.entries legal)) open' settles.outcome)

    turns_well : RestsOnNoPayments r orders front → (asset : ℕ) (k a b c : Bool) (last : Option Signed) (now : Option (List AssetOutcome)) → (k ≡ true → c ≡ true) → a ≡ false → b ≡ true → now ≡ Some settles.outcome →
        ((t : Signed) → last ≡ Some t → OneOf (λ o. StandsFor f me o settles.outcome) (outcomes_of t.state)) → (rest : Option (List AssetOutcome)) →
        Turns asset me (all_bases (plan orders front)) (r.named f) (cond k (possible_after a rest last) []) (cond c (possible_after b now last) [])
    turns_well rests asset false a b c last now kc af bt is st rest = inl refl
    turns_well rests asset true a b false last now kc af bt is st rest = let g = kc refl in cc
    turns_well rests asset true true b true last now kc af bt is st rest = cc
    turns_well rests asset true false false true last now kc af bt is st rest = cc
    turns_well rests asset true false true true None now kc af bt is st rest = inl refl
    turns_well rests asset true false true true (Some t) now kc af bt is st rest =
        inr (inr (
          settles.outcome,
          ap (λ (o : Option (List AssetOutcome)). listed o) is,
          map-one (λ o. StandsFor f me o settles.outcome) (λ o. NoWorse asset me (all_bases (plan orders front)) (r.named f) o settles.outcome) (outcomes_of t.state) (no_worse rests asset) (st t refl),
          at_most_two t.state,
        ))

    pub ends-well : RestsOnNoPayments r orders front → (asset : ℕ) → Turns asset me (all_bases (plan orders front)) (r.named f) (possible r past front f) (possible r (e ∷ past) front f)
    ends-well rests asset =
        turns_well rests asset (is_held r f (held r f past front)) (is_final (mode r (r.named f) past)) (is_final (mode r (r.named f) (e ∷ past))) (is_held r f (held r f (e ∷ past) front))
        (last_made (r.named f) front) (rest_of_channel r (r.named f) (e ∷ past)) (held-over_entry r f past e front) open' final rest_is stands (rest_of_channel r (r.named f) past)

pub finals_end_well : FinalsEndWell
finals_end_well r key me orders h journal keeps possibly legal honest unforged distinct valid in_time past e front before after rests asset f there open' final =
    ends-well r key me orders h journal keeps possibly legal honest unforged distinct valid in_time past e front before after f there open' final rests asset

pub honest_kept : HonestSharesAreKept
honest_kept r key me orders h journal keeps possibly legal honest unforged distinct valid in_time plans =
    whole r me orders h journal legal distinct (record {
      channels_differ = plans.channels_differ;
      sound = plans.sound;
      ends = λ past e front before after. finals_end_well r key me orders h journal keeps possibly legal honest unforged distinct valid in_time past e front before after (plans.rests past front before);
      signs = plans.signs;
    })
