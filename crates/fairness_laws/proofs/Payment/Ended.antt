-- Where all that is held of a channel is final, what is held later ends with the same outcome; and with two people it
-- is all final.
use Rattle.std.proofs.Common.{◌≡◌, ℕ, suc, ◌+◌, ◌%◌, ◌<◌, ◌≤◌, Bool, true, false, cond, ◌&&◌, ◌||◌, not, List, [], ◌∷◌, ◌++◌, ◌⊎◌, inl, inr, length, refl, sym, ◌∙◌, ap, subst, arith}
use Rattle.std.specs.Prelude.{nat_lt, Option, Some, None}
use Rattle.std.specs.List.{list_all}
use Rattle.std.specs.Option.{option_map}
use Rattle.std.proofs.lemmas.List.{append_cancel_right, append_assoc, length-map}
use Rattle.channel_values.specs.Parts.{FixedParts, StateParts}
use Rattle.channel_values.specs.declared.chain.Signed.{Signed}
use Rattle.channel_values.specs.declared.value.AssetOutcome.{AssetOutcome}
use Rattle.channel_values.specs.Digests.{name_of_person}
use Rattle.channel_values.specs.Rules.{Rules, people, newest, turn_of, top_turn}
use Rattle.channel_values.specs.Rows.{last_of}
use Rattle.call_history.specs.Marked.{Marked, marked_of, is_supported, answered, extends, extended, is_newer}
use Rattle.call_history.specs.Shown.{shown}
use Rattle.call_history.specs.declared.entry.Entry.{Entry}
use Rattle.channel_store.specs.Keeping.{is_held}
use Rattle.channel_safety.specs.Held.{note, show, held}
use Rattle.channel_safety.specs.Good.{InSteps}
use Rattle.channel_safety.specs.Honest.{HonestIn}
use Rattle.channel_safety.specs.Journals.{In, Line, opened, is_watched, made_in, noted_in}
use Rattle.channel_safety.specs.Safety.{IsChannelOf}
use Rattle.channel_safety.proofs.Answering.{answered-states}
use Rattle.channel_safety.proofs.Chains.{newest-in, AllFinal, IsClosed, parts, OwnState, own_state, from_mark}
use Rattle.channel_safety.proofs.ChainsGrow.{Extension, extension}
use Rattle.channel_safety.proofs.Lists.{Split, split_of, In-get, In-append_right, In-append_cases, append_assoc', length-up}
use Rattle.channel_safety.proofs.Tests.{and-left, and-right, and-both, or-right, some-eq, none-eq, lt-true}
use Rattle.channel_safety.proofs.Headline.{setting}
use Rattle.channel_safety.proofs.Keeps.{HoldsNewer}
use Rattle.channel_safety.proofs.Places.{made-not_watched, made-noted, slot-lasts, over-lines}
use Rattle.channel_safety.proofs.Safe.{Setting, MadeLine, AllClosed, honest-suffix, noted-held, made-mover, own_line, all_closed, valid-shown}
use Rattle.share_laws.proofs.Made.{Own, OwnIfAny, held-own}
use Rattle.share_laws.proofs.Noted.{noted_tell}
use Rattle.share_laws.specs.HeldLaws.{NotedTell}
use Rattle.node_guarantees.proofs.RealShares.{hashes}
use Rattle.channel_node.proofs.Bridging.{lines-append}
use Rattle.channel_node.proofs.Once.{played_journals_are_honest}
use Rattle.channel_node.specs.Places.{Told, lines_of}
use Rattle.channel_node.specs.Playing.{Signing}
use Rattle.stage_tables.specs.Stages.{stages}
use Rattle.fairness_laws.proofs.Seat.Past.{supported}
use Rattle.fairness_laws.specs.PlanSeats.{SeatIs}
use Rattle.fairness_laws.specs.PlanSettings.{IsFair}
use Rattle.share_laws.proofs.Finality.{lasts, opened-there}
use Rattle.share_laws.specs.Places.{last_made, IsPlace}
use Rattle.funding_plans.specs.Seats.{Seat}
use Rattle.support_rules.specs.Real.{real}
use Rattle.support_rules.specs.Steps.{persons}
use Rattle.support_rules.proofs.Finals.{real_keeps_final}
use Rattle.fairness_laws.specs.PaymentLaws.{StaysEnded, EndedChannelsStay}

-- ---- final states

all-final : (xs : List StateParts) → ((y : StateParts) → In y xs → y.is_final ≡ true) → AllFinal xs
all-final [] each = tt
all-final (x ∷ xs) each = (each x (inl refl), all-final xs (λ y i. each y (inr i)))

final-in : (xs : List StateParts) (y : StateParts) → AllFinal xs → In y xs → y.is_final ≡ true
final-in [] y f i = absurd i
final-in (x ∷ xs) y f (inl e) = ap (λ (z : StateParts). z.is_final) e ∙ f.0
final-in (x ∷ xs) y f (inr i) = final-in xs y f.1 i

newest-there : (xs : List StateParts) (t : StateParts) → newest xs ≡ Some t → In t xs
newest-there [] t e = absurd (none-eq t e)
newest-there (x ∷ xs) t e = subst (λ (z : StateParts). In z (x ∷ xs)) (some-eq (last_of x xs) t e) (newest-in x xs)

finals-told : (xs : List StateParts) → list_all (λ (s : StateParts). s.is_final) xs ≡ true → AllFinal xs
finals-told [] e = tt
finals-told (x ∷ xs) e =
    (and-left x.is_final (list_all (λ (s : StateParts). s.is_final) xs) e, finals-told xs (and-right x.is_final (list_all (λ (s : StateParts). s.is_final) xs) e))

told-final : (xs : List StateParts) → AllFinal xs → list_all (λ (s : StateParts). s.is_final) xs ≡ true
told-final [] f = refl
told-final (x ∷ xs) f = and-both x.is_final (list_all (λ (s : StateParts). s.is_final) xs) f.0 (told-final xs f.1)

module _ (r : Rules) (key : List ℕ) (F : FixedParts) (h : List Entry) (journal : List Line) (on : Setting r key F h journal) (tell : NotedTell r journal) where
  -- of at most two states, where one that isn't the newest is final, so is the other
  two-final : (xs : List StateParts) → length xs ≤ 2 → InSteps r F xs → (y : StateParts) → In y xs → y.is_final ≡ true → y.turn < top_turn xs → AllFinal xs
  two-final [] few steps y i f low = tt
  two-final (s ∷ []) few steps y (inl e) f low = (ap (λ (z : StateParts). z.is_final) (sym e) ∙ f, tt)
  two-final (s ∷ []) few steps y (inr i) f low = absurd i
  two-final (s ∷ t ∷ []) few steps y (inl e) f low =
      let a : s.is_final ≡ true = ap (λ (z : StateParts). z.is_final) (sym e) ∙ f in
      (a, (on.keeps.stays F s t steps.0 a, tt))
  two-final (s ∷ t ∷ []) few steps y (inr (inl e)) f low = let same : y.turn ≡ t.turn = ap (λ (z : StateParts). z.turn) e in absurd (omega (arith, same, low))
  two-final (s ∷ t ∷ []) few steps y (inr (inr i)) f low = absurd i
  two-final (s ∷ t ∷ u ∷ xs) few steps y i f low = absurd (omega (arith, few))

  -- ---- the participant's own state in what is held at a place

  module _ (past : List Entry) (front : List Line) (place : IsPlace h journal past front) (w : Marked) (is : held r F past front ≡ Some w) (chain : is_supported r F w ≡ true) where
    own-there : Own r F on.me front (length past) w
    own-there = subst (OwnIfAny r F on.me front (length past)) is (held-own r key F h journal on tell past front place)

    own-state : OwnState r F on.me w
    own-state = own_state r on.keeps F on.me w on.small own-there.states chain

    own-made : MadeLine r F front (length past) own-state.signed.state
    own-made = own-there.made own-state.signed own-state.there own-state.well

  -- ---- a final state that it signed

  module _ (f : Line) (s : Signed) (made : made_in (r.named F) f.deed ≡ Some s) (high : people F ≤ s.state.turn + 1) (final : s.state.is_final ≡ true) where
    module _ (past : List Entry) (front : List Line) (place : IsPlace h journal past front) (there : In f front) where
      front-honest : HonestIn r key F h front
      front-honest = honest-suffix r key F h place.newer front (subst (λ (ls : List Line). HonestIn r key F h ls) place.lines on.honest)

      in-journal : (y : Line) → In y front → In y journal
      in-journal y i = subst (λ (ls : List Line). In y ls) (sym place.lines) (In-append_right y place.newer front i)

      early : f.seen ≤ length past
      early = place.before f there (made-not_watched (r.named F) f.deed s made)

      mover : s.state.turn % people F ≡ on.me
      mover = made-mover r key F h journal on place.later past place.entries s.state
          (record { line = f; signed = s; there = in-journal f there; early = early; made = made; same = refl })

      closed : AllClosed r F s.state.turn s.state.outcome front
      closed = go (split_of f front there)
        where
          go : Split f front → AllClosed r F s.state.turn s.state.outcome front
          go x =
              subst (AllClosed r F s.state.turn s.state.outcome) (sym x.is)
              (all_closed r key F h journal on f s made high final x.newer place.newer x.front (place.lines ∙ ap (λ (ls : List Line). place.newer ++ ls) x.is))

      -- the last state that it signed is final, with that outcome
      own-closed : (t : Signed) → last_made (r.named F) front ≡ Some t → (t.state.is_final ≡ true) × (t.state.outcome ≡ s.state.outcome)
      own-closed t e =
          let l = lasts r key F h front t front-honest e in
          closed l.line t l.there l.made (l.greatest f s there made)

      -- what is held is as new, where entries come later too
      newer-at : (l older : List Entry) → past ≡ l ++ older → (y : Line) (t : Signed) → In y front → y.seen ≤ length older → made_in (r.named F) y.deed ≡ Some t → people F ≤ t.state.turn + 1
          → HoldsNewer r F t.state.turn (held r F older front)
      newer-at l older split y t i seen made' high' =
          noted-held r key F h front front-honest (place.later ++ l) older (place.entries ∙ (ap (λ (z : List Entry). place.later ++ z) split ∙ append_assoc' place.later l older)) y t i seen
          (made-noted (r.named F) y.deed t made') high'

      module _ (w : Marked) (is : held r F past front ≡ Some w) (chain : is_supported r F w ≡ true) where
        up : s.state.turn ≤ top_turn w.states
        up =
            let n = newer-at [] past refl f s there early made high in
            subst (λ (x : Marked). s.state.turn ≤ top_turn x.states) (some-eq n.latest w (sym n.is ∙ is)) n.up

        -- so is what is held
        top-closed : IsClosed w.states s.state.outcome
        top-closed =
            let own = own-state past front place w is chain in
            let m = own-made past front place w is chain in
            let above : s.state.turn ≤ own.signed.state.turn = own.latest s.state.turn mover up in
            let q = closed m.line m.signed m.there m.made (subst (λ (x : StateParts). s.state.turn ≤ x.turn) m.same above) in
            let c = own.carries (ap (λ (x : StateParts). x.is_final) m.same ∙ q.0) in
            record { top = c.top; is = c.is; final = c.final; same = c.same ∙ (ap (λ (x : StateParts). x.outcome) m.same ∙ q.1); valid = c.valid }

      -- ---- with two people all of it is final

      record AllEnded (st : Option Marked) : Type 0 where
        latest : Marked
        is : st ≡ Some latest
        chain : is_supported r F latest ≡ true
        all : AllFinal latest.states
        above : s.state.turn ≤ top_turn latest.states

      note-ended : (x : Line) (st : Option Marked) → AllEnded st → AllEnded (note r F x st)
      note-ended x st a = subst (λ (o : Option Marked). AllEnded (note r F x o)) (sym a.is) (go (noted_in (r.named F) x.deed))
        where
          same : AllEnded (Some a.latest)
          same = record { latest = a.latest; is = refl; chain = a.chain; all = a.all; above = a.above }

          go : (o : Option Signed) → AllEnded (Some (extended r F o a.latest))
          go None = same
          go (Some t) = test (extends r F t a.latest) refl
            where
              test : (b : Bool) → extends r F t a.latest ≡ b → AllEnded (Some (cond b (answered F t a.latest) a.latest))
              test false e = same
              test true e = record { latest = answered F t a.latest; is = refl; chain = x'.chain; all = all-final (answered F t a.latest).states (λ y i. each y (answered-states F t a.latest y i)); above = rise }
                where
                  x' : Extension r F t a.latest
                  x' = extension r F t a.latest a.chain e

                  rise : s.state.turn ≤ top_turn (answered F t a.latest).states
                  rise =
                      let turn : t.state.turn ≡ x'.before.turn + 1 = x'.turn in
                      let old : top_turn a.latest.states ≡ x'.before.turn = ap turn_of x'.was in
                      let new : top_turn (answered F t a.latest).states ≡ t.state.turn = ap turn_of x'.ends in
                      let above : s.state.turn ≤ top_turn a.latest.states = a.above in
                      omega (arith, turn, old, new, above)

                  each : (y : StateParts) → (y ≡ t.state) ⊎ In y a.latest.states → y.is_final ≡ true
                  each y (inl q) =
                      ap (λ (z : StateParts). z.is_final) q
                      ∙ on.keeps.stays F x'.before t.state x'.step (final-in a.latest.states x'.before a.all (newest-there a.latest.states x'.before x'.was))
                  each y (inr i) = final-in a.latest.states y a.all i

      module _ (two : people F ≤ 2) where
        show-ended : (l older : List Entry) (e : Entry) → past ≡ l ++ e ∷ older → AllEnded (held r F older front) → AllEnded (show r F (shown r (r.named F) older e) (held r F older front))
        show-ended l older e split a = subst (λ (o : Option Marked). AllEnded (show r F v o)) (sym a.is) (go (is_newer r F v a.latest) refl)
          where
            v : Marked
            v = shown r (r.named F) older e

            at : h ≡ (place.later ++ l) ++ e ∷ older
            at = place.entries ∙ (ap (λ (z : List Entry). place.later ++ z) split ∙ append_assoc' place.later l (e ∷ older))

            go : (b : Bool) → is_newer r F v a.latest ≡ b → AllEnded (Some (cond b v a.latest))
            go false e' = record { latest = a.latest; is = refl; chain = a.chain; all = a.all; above = a.above }
            go true e' = record { latest = v; is = refl; chain = chain; all = all; above = omega (arith, above, newer) }
              where
                chain : is_supported r F v ≡ true
                chain = and-left (is_supported r F v) (not (is_supported r F a.latest) || nat_lt (top_turn a.latest.states) (top_turn v.states)) e'

                newer : top_turn a.latest.states < top_turn v.states
                newer =
                    lt-true (top_turn a.latest.states) (top_turn v.states)
                    (or-right (not (is_supported r F a.latest)) (nat_lt (top_turn a.latest.states) (top_turn v.states))
                    (and-right (is_supported r F v) (not (is_supported r F a.latest) || nat_lt (top_turn a.latest.states) (top_turn v.states)) e') (ap not a.chain))

                above : s.state.turn ≤ top_turn a.latest.states
                above = a.above

                own : OwnState r F on.me v
                own = own_state r on.keeps F on.me v on.small (valid-shown r (r.named F) h journal on.valid (place.later ++ l) older e at) chain

                m : MadeLine r F journal (length older) own.signed.state
                m = own_line r key F h journal on (place.later ++ l) older e at own

                within : In m.line front
                within = which (In-append_cases m.line place.newer front (subst (λ (ls : List Line). In m.line ls) place.lines m.there))
                  where
                    which : In m.line place.newer ⊎ In m.line front → In m.line front
                    which (inr i) = i
                    which (inl i) =
                        let late : length past ≤ m.line.seen = place.after m.line i (made-not_watched (r.named F) m.line.deed m.signed m.made) in
                        let seen : m.line.seen ≤ length older = m.early in
                        let some : length (e ∷ older) ≤ length (l ++ e ∷ older) = length-up l (e ∷ older) in
                        let all : length past ≡ length (l ++ e ∷ older) = ap length split in
                        absurd (omega (arith, late, seen, some, all))

                from : s.state.turn ≤ own.signed.state.turn
                from = own.latest s.state.turn mover (omega (arith, above, newer))

                q : (m.signed.state.is_final ≡ true) × (m.signed.state.outcome ≡ s.state.outcome)
                q = closed m.line m.signed within m.made (subst (λ (x : StateParts). s.state.turn ≤ x.turn) m.same from)

                low : own.signed.state.turn < top_turn v.states
                low =
                    let same : own.signed.state.turn ≡ m.signed.state.turn = ap (λ (x : StateParts). x.turn) m.same in
                    let n = newer-at (l ++ e ∷ []) older (split ∙ append_assoc' l (e ∷ []) older) m.line m.signed within m.early m.made (omega (arith, same, from, high)) in
                    let at-most : m.signed.state.turn ≤ top_turn a.latest.states = subst (λ (x : Marked). m.signed.state.turn ≤ top_turn x.states) (some-eq n.latest a.latest (sym n.is ∙ a.is)) n.up in
                    omega (arith, same, at-most, newer)

                all : AllFinal v.states
                all =
                    let p = parts r F v chain in
                    let few : length v.states ≤ people F = p.few in
                    let mark = from_mark v.states v.marks own.signed own.there in
                    two-final v.states (omega (arith, few, two)) p.steps own.signed.state (In-get v.states mark.mark.place own.signed.state mark.on)
                    (ap (λ (x : StateParts). x.is_final) m.same ∙ q.0) low

        -- over entries, with these lines
        ended-over : (l later older : List Entry) → past ≡ l ++ (later ++ older) → AllEnded (held r F older front) → AllEnded (held r F (later ++ older) front)
        ended-over l [] older split a = a
        ended-over l (e ∷ later) older split a =
            slot-lasts r F AllEnded (suc (length (later ++ older))) front (λ x i st q. note-ended x st q) (show r F (shown r (r.named F) (later ++ older) e) (held r F (later ++ older) front))
            (show-ended l (later ++ older) e split (ended-over (l ++ e ∷ []) later older (split ∙ append_assoc' l (e ∷ []) (later ++ older)) a))

-- ---- what is kept of a channel

module _ (s : Signing) (h : List Entry) (journal : List Told) (fair : IsFair s h journal) where
  abbrev lines : List Line
  lines = lines_of s.key journal

  tells : NotedTell real lines
  tells = noted_tell real h lines hashes fair.nodes.valid fair.apart

  module _ (past : List Entry) (front : List Line) (place : IsPlace h lines past front) (f : FixedParts) (o : List AssetOutcome) (c : Seat) (seat : SeatIs s.key past front f o c) where
    pub setting-there : Setting real s.key f h lines
    setting-there = go (opened-there front f seat.own.there)
      where
        go : (x : Line) × (In x front) × (In f (opened x)) → Setting real s.key f h lines
        go x =
            setting real s.key h lines real_keeps_final fair.nodes.legal (played_journals_are_honest stages real s h journal fair.nodes.signs fair.nodes.legal fair.nodes.plays) fair.unforged
            fair.nodes.distinct fair.nodes.valid f x.0.seen channel
          where
            channel : IsChannelOf s.key f lines x.0.seen
            channel = record {
              line = x.0;
              there = subst (λ (ls : List Line). In x.0 ls) (sym place.lines) (In-append_right x.0 place.newer front x.1);
              early = omega arith;
              opens = x.2;
              me = seat.kept.me;
              mine = seat.mine;
            }

    is-chain : is_held seat.kept ≡ true → is_supported real f (marked_of seat.kept.chain) ≡ true
    is-chain e = sym (supported s.key past front f o c seat) ∙ e

    pub record Top (t : StateParts) : Type 0 where
      pub holds : is_held seat.kept ≡ true
      pub newest_is : newest seat.kept.chain.states ≡ Some t

    pub top-there : (t : StateParts) → c.top ≡ Some t → Top t
    top-there t e = go (is_held seat.kept) refl (sym (ap (λ (x : Seat). x.top) seat.is) ∙ e)
      where
        go : (b : Bool) → is_held seat.kept ≡ b → cond b (newest seat.kept.chain.states) None ≡ Some t → Top t
        go true is e = record { holds = is; newest_is = e }
        go false is e = absurd (none-eq t e)

    pub record Last (t : StateParts) : Type 0 where
      pub holds : is_held seat.kept ≡ true
      pub signed : Signed
      pub is : last_made (real.named f) front ≡ Some signed
      pub same : signed.state ≡ t

    pub own-last : (t : StateParts) → c.own ≡ Some t → Last t
    own-last t e = go (is_held seat.kept) refl (sym (ap (λ (x : Seat). x.own) seat.is) ∙ e)
      where
        of : is_held seat.kept ≡ true → (l : Option Signed) → last_made (real.named f) front ≡ l → option_map (λ (x : Signed). x.state) l ≡ Some t → Last t
        of holds None is e = absurd (none-eq t e)
        of holds (Some l) is e = record { holds = holds; signed = l; is = is; same = some-eq l.state t e }

        go : (b : Bool) → is_held seat.kept ≡ b → cond b seat.kept.last None ≡ Some t → Last t
        go true is e = of is (last_made (real.named f) front) refl (sym seat.at.last ∙ e)
        go false is e = absurd (none-eq t e)

    -- ---- where all of it is final

    module _ (ended : c.all_final ≡ true) where
      on : Setting real s.key f h lines
      on = setting-there

      both : (is_held seat.kept && list_all (λ (x : StateParts). x.is_final) seat.kept.chain.states) ≡ true
      both = sym (ap (λ (x : Seat). x.all_final) seat.is) ∙ ended

      abbrev w : Marked
      w = marked_of seat.kept.chain

      all : AllFinal w.states
      all = finals-told w.states (and-right (is_held seat.kept) (list_all (λ (x : StateParts). x.is_final) seat.kept.chain.states) both)

      chain : is_supported real f w ≡ true
      chain = is-chain (and-left (is_held seat.kept) (list_all (λ (x : StateParts). x.is_final) seat.kept.chain.states) both)

      own : OwnState real f on.me w
      own = own-state real s.key f h lines on tells past front place w seat.at.chain chain

      m : MadeLine real f front (length past) own.signed.state
      unfolding own own-state
      m = own-made real s.key f h lines on tells past front place w seat.at.chain chain

      final : m.signed.state.is_final ≡ true
      final = ap (λ (x : StateParts). x.is_final) (sym m.same) ∙ own.final all

      high : people f ≤ m.signed.state.turn + 1
      high = subst (λ (x : StateParts). people f ≤ x.turn + 1) m.same (own.late all)

      above : m.signed.state.turn ≤ top_turn w.states
      above = let high' : own.signed.state.turn ≤ top_turn w.states = own.high in subst (λ (x : StateParts). x.turn ≤ top_turn w.states) m.same high'

  module _ (past : List Entry) (front : List Line) (place : IsPlace h lines past front) (f : FixedParts) (o : List AssetOutcome) (c : Seat) (seat : SeatIs s.key past front f o c)
      (ended : c.all_final ≡ true) where
    abbrev line : MadeLine real f front (length past) (own past front place f o c seat ended).signed.state
    line = m past front place f o c seat ended

    -- at a place after the line, by the seat there
    module _ (now : List Entry) (ls : List Line) (p : IsPlace h lines now ls) (i : In line.line ls) (e : Seat) (se : SeatIs s.key now ls f o e) where
      top-is : (t : StateParts) → e.top ≡ Some t → (t.is_final ≡ true) × (t.outcome ≡ line.signed.state.outcome)
      top-is t is =
          let x = top-there now ls p f o e se t is in
          let k = top-closed real s.key f h lines (on past front place f o c seat ended) tells line.line line.signed line.made (high past front place f o c seat ended) (final past front place f o c seat ended)
          now ls p i (marked_of se.kept.chain) se.at.chain (is-chain now ls p f o e se x.holds) in
          let same : k.top ≡ t = some-eq k.top t (sym k.is ∙ x.newest_is) in
          (ap (λ (y : StateParts). y.is_final) (sym same) ∙ k.final, ap (λ (y : StateParts). y.outcome) (sym same) ∙ k.same)

      own-is : (t : StateParts) → e.own ≡ Some t → (t.is_final ≡ true) × (t.outcome ≡ line.signed.state.outcome)
      own-is t is =
          let x = own-last now ls p f o e se t is in
          let k = own-closed real s.key f h lines (on past front place f o c seat ended) tells line.line line.signed line.made (high past front place f o c seat ended) (final past front place f o c seat ended)
          now ls p i x.signed x.is in
          (ap (λ (y : StateParts). y.is_final) (sym x.same) ∙ k.0, ap (λ (y : StateParts). y.outcome) (sym x.same) ∙ k.1)

    -- the last own state is final with the latest outcome
    pub own-ended : (t u : StateParts) → c.top ≡ Some t → c.own ≡ Some u → (u.is_final ≡ true) × (u.outcome ≡ t.outcome)
    own-ended t u top own =
        let a = top-is past front place line.there c seat t top in
        let b = own-is past front place line.there c seat u own in
        (b.0, b.1 ∙ sym a.1)

  stays : (later past : List Entry) (newer front : List Line) → IsPlace h lines past front → IsPlace h lines (later ++ past) (newer ++ front)
      → (f : FixedParts) (o : List AssetOutcome) (c d : Seat) → SeatIs s.key past front f o c → SeatIs s.key (later ++ past) (newer ++ front) f o d → c.all_final ≡ true → StaysEnded c d
  stays later past newer front p q f o c d sc sd ended = record { ended = two; top = tops; own = owns }
    where
      on' : Setting real s.key f h lines
      on' = on past front p f o c sc ended

      x : MadeLine real f front (length past) (own past front p f o c sc ended).signed.state
      x = m past front p f o c sc ended

      there : In x.line (newer ++ front)
      there = In-append_right x.line newer front x.there

      tops : (t u : StateParts) → c.top ≡ Some t → d.top ≡ Some u → (u.is_final ≡ true) × (u.outcome ≡ t.outcome)
      tops t u is now =
          let a = top-is past front p f o c sc ended past front p x.there c sc t is in
          let b = top-is past front p f o c sc ended (later ++ past) (newer ++ front) q there d sd u now in
          (b.0, b.1 ∙ sym a.1)

      owns : (t u : StateParts) → c.own ≡ Some t → d.own ≡ Some u → (u.is_final ≡ true) × (u.outcome ≡ t.outcome)
      owns t u is now =
          let a = own-is past front p f o c sc ended past front p x.there c sc t is in
          let b = own-is past front p f o c sc ended (later ++ past) (newer ++ front) q there d sd u now in
          (b.0, b.1 ∙ sym a.1)

      two : length d.people ≡ 2 → d.all_final ≡ true
      two pair = told (entries (lines-over first))
        where
          few : people f ≤ 2
          few =
              let a : length d.people ≡ length (persons f) = ap (λ (x : Seat). length x.people) sd.is in
              let b : length (persons f) ≡ people f = length-map f.keys name_of_person in
              omega (arith, pair, a, b)

          first : AllEnded real s.key f h lines on' tells x.line x.signed x.made (high past front p f o c sc ended) (final past front p f o c sc ended) (later ++ past) (newer ++ front) q there (held real f past front)
          first = record {
            latest = w past front p f o c sc ended;
            is = sc.at.chain;
            chain = chain past front p f o c sc ended;
            all = all past front p f o c sc ended;
            above = above past front p f o c sc ended;
          }

          lines-over : AllEnded real s.key f h lines on' tells x.line x.signed x.made (high past front p f o c sc ended) (final past front p f o c sc ended) (later ++ past) (newer ++ front) q there (held real f past front) → AllEnded real s.key f h lines on' tells x.line x.signed x.made (high past front p f o c sc ended) (final past front p f o c sc ended) (later ++ past) (newer ++ front) q there (held real f past (newer ++ front))
          lines-over a =
              over-lines real f (AllEnded real s.key f h lines on' tells x.line x.signed x.made (high past front p f o c sc ended) (final past front p f o c sc ended) (later ++ past) (newer ++ front) q there) newer past front
              (λ y i st z. note-ended real s.key f h lines on' tells x.line x.signed x.made (high past front p f o c sc ended) (final past front p f o c sc ended) (later ++ past) (newer ++ front) q there y st z) rising a
            where
              split : p.newer ≡ q.newer ++ newer
              split = append_cancel_right p.newer (q.newer ++ newer) front (sym p.lines ∙ (q.lines ∙ sym (append_assoc q.newer newer front)))

              rising : (y : Line) → In y newer → is_watched y.deed ≡ false → length past ≤ y.seen
              rising y i v = p.after y (subst (λ (ls : List Line). In y ls) (sym split) (In-append_right y q.newer newer i)) v

          entries : AllEnded real s.key f h lines on' tells x.line x.signed x.made (high past front p f o c sc ended) (final past front p f o c sc ended) (later ++ past) (newer ++ front) q there (held real f past (newer ++ front)) → AllEnded real s.key f h lines on' tells x.line x.signed x.made (high past front p f o c sc ended) (final past front p f o c sc ended) (later ++ past) (newer ++ front) q there (held real f (later ++ past) (newer ++ front))
          entries a = ended-over real s.key f h lines on' tells x.line x.signed x.made (high past front p f o c sc ended) (final past front p f o c sc ended) (later ++ past) (newer ++ front) q there few [] later past refl a

          told : AllEnded real s.key f h lines on' tells x.line x.signed x.made (high past front p f o c sc ended) (final past front p f o c sc ended) (later ++ past) (newer ++ front) q there (held real f (later ++ past) (newer ++ front)) → d.all_final ≡ true
          told a =
              ap (λ (x : Seat). x.all_final) sd.is
              ∙ and-both (is_held sd.kept) (list_all (λ (x : StateParts). x.is_final) sd.kept.chain.states) held-now (told-final sd.kept.chain.states (subst (λ (x : Marked). AllFinal x.states) same a.all))
            where
              same : a.latest ≡ marked_of sd.kept.chain
              same = some-eq a.latest (marked_of sd.kept.chain) (sym a.is ∙ sd.at.chain)

              held-now : is_held sd.kept ≡ true
              held-now =
                  supported s.key (later ++ past) (newer ++ front) f o d sd ∙ subst (λ (x : Marked). is_supported real f x ≡ true) same a.chain

pub ended_stay : EndedChannelsStay
ended_stay s h journal later past newer front fair p q f o c d sc sd ended =
    stays s h journal fair later past (lines_of s.key newer) (lines_of s.key front) p.place
    (subst (IsPlace h (lines_of s.key journal) (later ++ past)) (lines-append s.key newer front) q.place) f o c d sc
    (subst (λ (ls : List Line). SeatIs s.key (later ++ past) ls f o d) (lines-append s.key newer front) sd) ended
