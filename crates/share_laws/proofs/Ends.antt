-- A held chain ends after the state that its participant signed last, by fewer than n steps of others.
use Rattle.std.proofs.Common.{◌≡◌, ◌≢◌, ℕ, ◌+◌, ◌%◌, ◌<◌, ◌≤◌, true, List, [], ◌∷◌, ◌⊎◌, inl, inr, length, drop, suc, refl, sym, ◌∙◌, ap, subst, arith}
use Rattle.std.specs.Prelude.{Option, Some, None, Ok}
use Rattle.std.specs.List.{slice_get, AllByRecursion}
use Rattle.std.specs.Option.{option_or}
use Rattle.channel_values.specs.Parts.{FixedParts, StateParts, IsState}
use Rattle.channel_values.specs.declared.chain.Mark.{Mark}
use Rattle.channel_values.specs.declared.chain.Signed.{Signed}
use Rattle.channel_values.specs.Rows.{mover, last_of, last_turn}
use Rattle.channel_values.specs.Rules.{Rules, people, newest, turn_of, top_turn, signs_state, KeepsFinal}
use Rattle.channel_values.specs.Support.{verified_marks, supports}
use Rattle.channel_values.specs.Supported.{Rises, AreSteps, IsSupported}
use Rattle.channel_values.proofs.Exact.{support_is_by_marks}
use Rattle.channel_values.proofs.Rows.{others_move, support_tells}
use Rattle.channel_values.proofs.Turns.{last_turn_greatest}
use Rattle.call_history.specs.History.{Legal}
use Rattle.call_history.specs.Marked.{Marked, chain_of, is_supported}
use Rattle.call_history.specs.declared.entry.Entry.{Entry}
use Rattle.channel_safety.specs.Held.{held}
use Rattle.channel_safety.specs.Honest.{Honest, HonestIn}
use Rattle.channel_safety.specs.Journals.{In, Line, made_in}
use Rattle.channel_safety.specs.Premises.{Unforged}
use Rattle.channel_safety.specs.Occurring.{NoCollision, AreValid}
use Rattle.channel_safety.specs.Safety.{IsChannelOf}
use Rattle.share_laws.specs.Places.{channels, last_made, IsPlace}
use Rattle.share_laws.specs.Finality.{StepsKeepPossible}
use Rattle.channel_safety.proofs.Chains.{parts, to_mark}
use Rattle.channel_safety.proofs.Lists.{In-append_right, In-get, In-drop, get-some}
use Rattle.channel_safety.proofs.Tests.{le_or_lt, ok-is, some-eq}
use Rattle.channel_safety.proofs.Headline.{setting}
use Rattle.channel_safety.proofs.Keeps.{HoldsNewer}
use Rattle.channel_safety.proofs.Places.{made-not_watched, made-noted}
use Rattle.channel_safety.proofs.Safe.{InChain, Setting, MadeLine, honest-suffix, made-mover, noted-held}
use Rattle.channel_safety.proofs.Taking.{take-part}
use Rattle.channel_safety.proofs.Telling.{tells}
use Rattle.share_laws.proofs.Finality.{Lasts, lasts, opened-there, opens-not_watched}
use Rattle.share_laws.specs.HeldLaws.{EndsPossibly, NotedTell, HeldChainsEndPossibly, HashedChainsEndPossibly}
use Rattle.share_laws.proofs.Made.{Own, OwnIfAny, in_journal, held-own}
use Rattle.share_laws.proofs.Noted.{noted_tell}

-- ---- the state of a supported chain on which a participant's mark stands, and what comes after it

record Marks (r : Rules) (f : FixedParts) (me : ℕ) (w : Marked) : Type 0 where
  signed : Signed
  there : InChain signed w
  well : signs_state r f me signed.state signed.signature ≡ true
  from : last_turn (people f) me (top_turn w.states) ≤ signed.state.turn
  inside : In signed.state w.states
  rest : List StateParts
  within : (y : StateParts) → In y rest → In y w.states
  turns : Rises signed.state rest
  steps : AreSteps r f signed.state rest
  few : length rest < people f
  ends : newest w.states ≡ Some (last_of signed.state rest)

marks_of : (r : Rules) (f : FixedParts) (me : ℕ) (w : Marked) → me < people f → is_supported r f w ≡ true → Marks r f me w
marks_of r f me w small chain = go (ok-is (supports r (chain_of f w)) chain)
  where
    go : (t : ℕ) × (supports r (chain_of f w) ≡ Ok t) → Marks r f me w
    go q =
        let marks = support_is_by_marks r (chain_of f w) in
        told (support_tells r (chain_of f w) (verified_marks r (chain_of f w)) q.0 (marks.1 (verified_marks r (chain_of f w)) marks.0 ∙ q.1))
      where
        told : IsSupported r (chain_of f w) (verified_marks r (chain_of f w)) q.0 → Marks r f me w
        told p = at (get-some w.marks me (let n : length w.marks ≡ people f = p.marks in omega arith))
          where
            at : (m : Mark) × (slice_get w.marks me ≡ Some m) → Marks r f me w
            at m =
                let stood = (parts r f w chain).stand me m.0 m.1 in
                let x = (p.each me m.0 m.1).1 in
                let same : stood.state ≡ x.state = some-eq stood.state x.state (sym stood.is ∙ x.there) in
                record {
                  signed = record { state = x.state; signature = m.0.signature };
                  there = to_mark w.states w.marks me m.0 x.state m.1 x.there;
                  well = subst (λ (y : StateParts). signs_state r f me y m.0.signature ≡ true) same stood.well;
                  from = subst (λ (y : StateParts). last_turn (people f) me (top_turn w.states) ≤ y.turn) same stood.from;
                  inside = In-get w.states m.0.place x.state x.there;
                  rest = drop (suc m.0.place) w.states;
                  within = λ y i. In-drop y (suc m.0.place) w.states i;
                  turns = x.rises;
                  steps = x.steps;
                  few = x.few;
                  ends = x.last;
                }

all-states : (xs : List StateParts) → ((y : StateParts) → In y xs → IsState y) → AllByRecursion IsState xs
all-states [] each = tt
all-states (x ∷ xs) each = (each x (inl refl), all-states xs (λ y i. each y (inr i)))

-- where one of these lines signed a state, there is a last one
some_made : (n : List ℕ) (front : List Line) (y : Line) (s : Signed) → In y front → made_in n y.deed ≡ Some s → (t : Signed) × (last_made n front ≡ Some t)
some_made n [] y s i made = absurd i
some_made n (x ∷ front) y s (inl e) made = (s, ap (λ (o : Option Signed). option_or o (last_made n front)) (ap (λ (z : Line). made_in n z.deed) (sym e) ∙ made))
some_made n (x ∷ front) y s (inr i) made = go (made_in n x.deed) (some_made n front y s i made)
  where
    go : (o : Option Signed) → (t : Signed) × (last_made n front ≡ Some t) → (t : Signed) × (option_or o (last_made n front) ≡ Some t)
    go (Some u) rec = (u, refl)
    go None rec = rec

module _ (r : Rules) (key me : List ℕ) (h : List Entry) (journal : List Line) (keeps : KeepsFinal r) (possibly : StepsKeepPossible r key me) (legal : Legal r h)
    (honest : Honest r key h journal) (unforged : Unforged r key h journal) (distinct : NoCollision r h journal) (tell : NotedTell r journal) (valid : AreValid h journal)
    (past : List Entry) (front : List Line) (place : IsPlace h journal past front)
    (f : FixedParts) (there : In f (channels front)) (w : Marked) (is : held r f past front ≡ Some w) (chain : is_supported r f w ≡ true) where
  channel : IsChannelOf key f journal (length past)
  channel =
      let x = opened-there front f there in
      let i : In x.0 journal = subst (λ (ls : List Line). In x.0 ls) (sym place.lines) (In-append_right x.0 place.newer front x.1) in
      let j = take-part r key h journal honest x.0 f i x.2 in
      record { line = x.0; there = i; early = place.before x.0 x.1 (opens-not_watched x.0 f x.2); opens = x.2; me = j.0; mine = j.1 }

  on : Setting r key f h journal
  on = setting r key h journal keeps legal honest unforged distinct valid f (length past) channel

  own : Own r f on.me front (length past) w
  own = subst (OwnIfAny r f on.me front (length past)) is (held-own r key f h journal on tell past front place)

  mark : Marks r f on.me w
  mark = marks_of r f on.me w on.small chain

  line : MadeLine r f front (length past) mark.signed.state
  line = own.made mark.signed mark.there mark.well

  -- the steps after the state on which the participant's mark stands
  ends-with : (signature : List ℕ) → EndsPossibly r key me f (record { state = mark.signed.state; signature = signature }) w
  ends-with signature =
      record {
        at = on.me;
        mine = on.mine;
        valid = own.states mark.signed.state mark.inside;
        rest = mark.rest;
        states = states;
        turns = mark.turns;
        steps = mark.steps;
        few = mark.few;
        others = others;
        ends = mark.ends;
        possible =
            possibly f (valid.fixed f (inr (channel.line, channel.there, channel.opens))) on.me on.mine mark.signed.state (own.states mark.signed.state mark.inside) mark.rest states mark.steps mark.few others;
      }
    where
      states : AllByRecursion IsState mark.rest
      states = all-states mark.rest (λ y i. own.states y (mark.within y i))

      others : AllByRecursion (λ t. mover (people f) t.turn ≢ on.me) mark.rest
      others =
          others_move (people f) on.me (top_turn w.states) mark.signed.state mark.rest mark.turns
          (let top : top_turn w.states ≡ (last_of mark.signed.state mark.rest).turn = ap turn_of mark.ends in omega (arith, top)) mark.from

  front_honest : HonestIn r key f h front
  front_honest = honest-suffix r key f h place.newer front (subst (λ (ls : List Line). HonestIn r key f h ls) place.lines on.honest)

  -- and that is the last state that it signed
  module _ (t : Signed) (last : last_made (r.named f) front ≡ Some t) where
    l : Lasts (r.named f) front t
    l = lasts r key f h front t front_honest last

    early : l.line.seen ≤ length past
    early = place.before l.line l.there (made-not_watched (r.named f) l.line.deed t l.made)

    mine : t.state.turn % people f ≡ on.me
    mine = made-mover r key f h journal on place.later past place.entries t.state
        (record { line = l.line; signed = t; there = in_journal r key f h journal on tell past front place l.line l.there; early = early; made = l.made; same = refl })

    up : t.state.turn ≤ top_turn w.states
    up = go (le_or_lt (people f) (t.state.turn + 1))
      where
        newer : HoldsNewer r f t.state.turn (held r f past front) → t.state.turn ≤ top_turn w.states
        newer n = subst (λ (x : Marked). t.state.turn ≤ top_turn x.states) (some-eq n.latest w (sym n.is ∙ is)) n.up

        go : (people f ≤ t.state.turn + 1) ⊎ (t.state.turn + 1 < people f) → t.state.turn ≤ top_turn w.states
        go (inl high) = newer (noted-held r key f h front front_honest place.later past place.entries l.line t l.there early (made-noted (r.named f) l.line.deed t l.made) high)
        go (inr low) = let high : people f ≤ top_turn w.states + 1 = (parts r f w chain).high in omega (arith, low, high)

    same : mark.signed.state ≡ t.state
    same =
        let high : line.signed.state.turn ≤ t.state.turn = l.greatest line.line line.signed line.there line.made in
        let low : t.state.turn ≤ last_turn (people f) on.me (top_turn w.states) = last_turn_greatest (people f) on.me (top_turn w.states) t.state.turn up mine in
        let from : last_turn (people f) on.me (top_turn w.states) ≤ mark.signed.state.turn = mark.from in
        let at : mark.signed.state.turn ≡ line.signed.state.turn = ap (λ (x : StateParts). x.turn) line.same in
        line.same ∙ ap (λ (x : Signed). x.state) (l.unique line.line line.signed line.there line.made (omega (arith, high, low, from, at)))

    ends-last : EndsPossibly r key me f t w
    ends-last = subst (λ (x : StateParts). EndsPossibly r key me f (record { state = x; signature = t.signature }) w) same (ends-with t.signature)

  ends_possibly : (last : Signed) × (last_made (r.named f) front ≡ Some last) × EndsPossibly r key me f last w
  ends_possibly = let t = some_made (r.named f) front line.line line.signed line.there line.made in (t.0, t.1, ends-last t.0 t.1)

pub chains_end : HeldChainsEndPossibly
chains_end r key me h journal keeps possibly legal honest unforged distinct tell valid past front place f there w is chain =
    ends_possibly r key me h journal keeps possibly legal honest unforged distinct tell valid past front place f there w is chain

pub hashed_end : HashedChainsEndPossibly
hashed_end r key me h journal keeps possibly by legal honest unforged none valid past front place =
    chains_end r key me h journal keeps possibly legal honest unforged (tells r h journal by valid none) (noted_tell r h journal by valid none) valid past front place
