-- The newest shown chain: while a channel isn't final the recorded turn is its turn, and while it is challenged it is
-- the challenged one. So a view's shown chain is the newest one after one more entry.
use Rattle.std.proofs.Common.{◌≡◌, ℕ, zero, suc, ◌≤◌, Bool, true, false, cond, List, [], ◌∷◌, ◌++◌, length, drop, Some, None, refl, sym, ◌∙◌, ap, arith}
use Rattle.std.specs.Prelude.{nat_lt, Option}
use Rattle.std.specs.Option.{option_map}
use Rattle.channel_values.specs.Parts.{FixedParts, StateParts}
use Rattle.channel_values.specs.declared.chain.Chain.{Chain}
use Rattle.channel_values.specs.declared.chain.Signed.{Signed}
use Rattle.call_history.specs.Mode.{mode_at, is_final, is_challenged}
use Rattle.channel_values.specs.Rows.{last_of}
use Rattle.channel_values.specs.Rules.{Rules, newest, turn_of, top_turn}
use Rattle.call_history.specs.Marked.{Marked, nothing, marked_of, longer, lowest, answered}
use Rattle.call_history.specs.Rows.{fixed_of, turned}
use Rattle.call_history.specs.Shown.{challenge_in, challenged, shown_by}
use Rattle.call_history.specs.History.{is_named, time_set, or_before, now_of, turning, row, mode, Legal}
use Rattle.call_history.specs.declared.call.Call.TheVariants.{Challenge, Respond, Refute, Checkpoint, Conclude}
use Rattle.call_history.specs.declared.call.Op.{Op}
use Rattle.call_history.specs.declared.call.Op.TheVariants as ops
use Rattle.call_history.specs.declared.entry.Entry.{Entry}
use Rattle.call_history.specs.declared.refusal.Reply.{Reply}
use Rattle.call_history.specs.declared.row.Row.{Row}
use Rattle.call_history.specs.declared.view.ChannelView.{ChannelView}
use Rattle.call_history.proofs.LoweredMarks.{lowest_le}
use Rattle.call_history.proofs.Names.{same_bytes}
use Rattle.history_view.specs.Views.{newer_shown, with_answer, shown_after}
use Rattle.history_view.specs.Standing.{newer, newest_shown, IsChainOf}
use Rattle.history_view.proofs.Accepting.{not_below, some_of, challenged_is_still, still_before, challenged_before, ended_now, ShowsNewer, Answers, Tells, turning_names, turning_tells, time_up}
use Rattle.history_view.proofs.Turns.{turned_view}

-- ---- newer chains

-- the turn of the newest shown chain, or 0
abbrev pub turn_shown : Option Marked → ℕ
turn_shown None = 0
turn_shown (Some w) = top_turn w.states

newer_nothing : (o : Option Marked) → newer nothing o ≡ o
newer_nothing None = refl
newer_nothing (Some w) = refl

-- a chain of no lower turn is the newest then
newer_later : (w : Marked) (o : Option Marked) → nat_lt 0 (length w.states) ≡ true → turn_shown o ≤ top_turn w.states → newer w o ≡ Some w
newer_later w None some le = ap (λ (b : Bool). cond b (Some w) None) some
newer_later w (Some before) some le =
    ap (λ (b : Bool). cond b (Some (cond (nat_lt (top_turn w.states) (top_turn before.states)) before w)) (Some before)) some
    ∙ ap (λ (b : Bool). Some (cond b before w)) (not_below (top_turn w.states) (top_turn before.states) le)

-- a view takes the newer chain likewise
newer_same : (chain : Chain) (before : Option Chain) → nat_lt 0 (length chain.states) ≡ true
    → option_map marked_of (Some (newer_shown before chain)) ≡ newer (marked_of chain) (option_map marked_of before)
newer_same chain None some = sym (ap (λ (b : Bool). cond b (Some (marked_of chain)) None) some)
newer_same chain (Some old) some =
    either (nat_lt (top_turn chain.states) (top_turn old.states))
    ∙ sym (ap (λ (b : Bool). cond b (Some (cond (nat_lt (top_turn chain.states) (top_turn old.states)) (marked_of old) (marked_of chain))) (Some (marked_of old))) some)
  where
    either : (b : Bool) → Some (marked_of (cond b old chain)) ≡ Some (cond b (marked_of old) (marked_of chain))
    either true = refl
    either false = refl

later_shown : (chain : Chain) (before : Option Chain) → turn_shown (option_map marked_of before) ≤ top_turn chain.states → newer_shown before chain ≡ chain
later_shown chain None le = refl
later_shown chain (Some old) le = ap (λ (b : Bool). cond b old chain) (not_below (top_turn chain.states) (top_turn old.states) le)

-- ---- answers

last_end : (x : StateParts) (xs : List StateParts) (s : StateParts) → last_of x (xs ++ s ∷ []) ≡ s
last_end x [] s = refl
last_end x (y ∷ ys) s = last_end y ys s

newest_end : (d : ℕ) (xs : List StateParts) (s : StateParts) → d ≤ length xs → newest (drop d (xs ++ s ∷ [])) ≡ Some s
newest_end zero [] s h = refl
newest_end zero (x ∷ xs) s h = ap (λ (y : StateParts). Some y) (last_end x xs s)
newest_end (suc d) [] s h = absurd (omega arith)
newest_end (suc d) (x ∷ xs) s h = newest_end d xs s (omega arith)

-- a chain with its answer ends with the answer
answered_ends : (f : FixedParts) (next : Signed) (w : Marked) → newest (answered f next w).states ≡ Some next.state
answered_ends f next w = newest_end (lowest (length w.states) (longer f next w).marks) w.states next.state (lowest_le (length w.states) (longer f next w).marks)

has_newest : (states : List StateParts) (s : StateParts) → newest states ≡ Some s → nat_lt 0 (length states) ≡ true
has_newest [] s h = absurd cc
has_newest (x ∷ xs) s h = some_of (length xs)

-- ---- of the history

-- How a row at a time, the newest shown chain and the challenged one go together. The recorded turn is that of the
-- newest shown chain while the channel isn't final, and that is the challenged one while it is challenged.
pub record GoTogether (now : ℕ) (of : Row) (last : Option Marked) (open_one : Marked) : Type 0 where
  pub turn : is_final (mode_at of.deadline now) ≡ false → of.turn ≡ turn_shown last
  pub chain : is_challenged (mode_at of.deadline now) ≡ true → last ≡ Some open_one

abbrev pub Together : Rules → List ℕ → List Entry → Type 0
Together r channel h = GoTogether (now_of h) (row r channel h) (newest_shown r channel h) (challenged r channel h)

-- where the newest shown chain isn't newer, a shown one is the newest
shown_is_newest : (r : Rules) (channel : List ℕ) (h : List Entry) (chain : Chain) → ShowsNewer r channel h chain → Together r channel h
    → turn_shown (newest_shown r channel h) ≤ top_turn chain.states
shown_is_newest r channel h chain t before = let a = before.turn t.shows.still in let b = t.turn in omega arith

answer_is_newest : (r : Rules) (channel : List ℕ) (h : List Entry) (f : FixedParts) (next : Signed) (w : Marked) → Answers r channel h next → Together r channel h
    → newer (answered f next w) (newest_shown r channel h) ≡ Some (answered f next w)
answer_is_newest r channel h f next w t before =
    newer_later (answered f next w) (newest_shown r channel h) (has_newest (answered f next w).states next.state (answered_ends f next w)) up
  where
    ends : top_turn (answered f next w).states ≡ next.state.turn
    ends = ap turn_of (answered_ends f next w)

    up : turn_shown (newest_shown r channel h) ≤ top_turn (answered f next w).states
    up =
        let a = before.turn (challenged_is_still (mode r channel h) t.challenged) in
        let b = t.turn in
        omega (arith, ends)

turned_together : (r : Rules) (channel : List ℕ) (h : List Entry) (op : Op) (reply : Reply) → is_named r channel (fixed_of op) ≡ true → Tells r channel h op → Together r channel h
    → GoTogether (or_before (time_set op reply) (now_of h)) (turned r (now_of h) op (row r channel h)) (newer (shown_by r channel h op) (newest_shown r channel h)) (challenge_in op (challenged r channel h))
turned_together r channel h (ops.Call (Challenge k)) reply named t before =
    let is = newer_later (marked_of k.chain) (newest_shown r channel h) t.shows.some (shown_is_newest r channel h k.chain t before) in
    record { turn = λ still. ap turn_shown (sym is); chain = λ open_now. is }
turned_together r channel h (ops.Call (Respond k)) reply named t before =
    let w = challenged r channel h in
    record {
      turn = λ still. sym (ap turn_shown (answer_is_newest r channel h k.fixed k.next w t before) ∙ ap turn_of (answered_ends k.fixed k.next w));
      chain = λ open_now. absurd cc;
    }
turned_together r channel h (ops.Call (Refute fixed next)) reply named t before =
    record {
      turn = λ still. before.turn (challenged_is_still (mode r channel h) t) ∙ ap turn_shown (sym (newer_nothing (newest_shown r channel h)));
      chain = λ open_now. absurd cc;
    }
turned_together r channel h (ops.Call (Checkpoint chain)) reply named t before =
    let is = newer_later (marked_of chain) (newest_shown r channel h) t.shows.some (shown_is_newest r channel h chain t before) in
    record { turn = λ still. ap turn_shown (sym is); chain = λ open_now. absurd cc }
turned_together r channel h (ops.Call (Conclude chain)) reply named t before =
    record {
      turn = λ still. absurd (let k = ap is_final (ended_now (now_of h)) in cc);
      chain = λ open_now. absurd (let k = ap is_challenged (ended_now (now_of h)) in cc);
    }
turned_together r channel h _ reply named t before = absurd cc

quiet_together : (now later : ℕ) (of : Row) (last : Option Marked) (open_one : Marked) → now ≤ later → GoTogether now of last open_one → GoTogether later of (newer nothing last) open_one
quiet_together now later of last open_one le before =
    record {
      turn = λ still. before.turn (still_before of.deadline now later le still) ∙ ap turn_shown (sym (newer_nothing last));
      chain = λ open_now. newer_nothing last ∙ before.chain (challenged_before of.deadline now later le open_now);
    }

-- over every legal history
pub together : (r : Rules) (channel : List ℕ) (h : List Entry) → Legal r h → Together r channel h
together r channel [] legal = record { turn = λ still. refl; chain = λ open_now. absurd cc }
together r channel (e ∷ h) legal = go (turning r channel e) refl (together r channel h legal.0)
  where
    go : (b : Bool) → turning r channel e ≡ b → Together r channel h
        → GoTogether (now_of (e ∷ h)) (cond b (turned r (now_of h) e.op (row r channel h)) (row r channel h)) (newer (cond b (shown_by r channel h e.op) nothing) (newest_shown r channel h))
        (cond b (challenge_in e.op (challenged r channel h)) (challenged r channel h))
    go true turns before = turned_together r channel h e.op e.reply (turning_names r channel e turns) (turning_tells r channel h e legal turns) before
    go false quiet before =
        quiet_together (now_of h) (now_of (e ∷ h)) (row r channel h) (newest_shown r channel h) (challenged r channel h) (time_up r h e.op e.reply legal.2) before

-- ---- of views

-- what a view says of shown chains is so, of a channel at a time
pub record ShowsSo (r : Rules) (channel : List ℕ) (now : ℕ) (deadline : Option ℕ) (last : Option Marked) (open_one : Marked) (shown : Option Chain) : Type 0 where
  pub newest : option_map marked_of shown ≡ last
  pub open_chain : is_challenged (mode_at deadline now) ≡ true → IsChainOf r channel open_one shown

abbrev pub IsShownSo : Rules → List ℕ → List Entry → Option Chain → Type 0
IsShownSo r channel h shown = ShowsSo r channel (now_of h) (row r channel h).deadline (newest_shown r channel h) (challenged r channel h) shown

answer_shown : (r : Rules) (channel : List ℕ) (f : FixedParts) (next : Signed) (open_one : Marked) (shown : Option Chain) → IsChainOf r channel open_one shown
    → option_map marked_of (option_map (with_answer f next) shown) ≡ Some (answered f next open_one)
answer_shown r channel f next open_one shown is =
    ap (λ (o : Option Chain). option_map marked_of (option_map (with_answer f next) o)) is.1 ∙ ap (λ (w : Marked). Some (answered f next w)) is.3

turned_shown : (r : Rules) (channel : List ℕ) (h : List Entry) (op : Op) (reply : Reply) (shown : Option Chain) → is_named r channel (fixed_of op) ≡ true → Tells r channel h op → Together r channel h
    → IsShownSo r channel h shown
    → ShowsSo r channel (or_before (time_set op reply) (now_of h)) (turned r (now_of h) op (row r channel h)).deadline (newer (shown_by r channel h op) (newest_shown r channel h)) (challenge_in op (challenged r channel h)) (shown_after op shown)
turned_shown r channel h (ops.Call (Challenge k)) reply shown named t history before =
    let same : turn_shown (option_map marked_of shown) ≡ turn_shown (newest_shown r channel h) = ap turn_shown before.newest in
    let up : turn_shown (newest_shown r channel h) ≤ top_turn k.chain.states = shown_is_newest r channel h k.chain t history in
    record {
      newest = newer_same k.chain shown t.shows.some ∙ ap (newer (marked_of k.chain)) before.newest;
      open_chain = λ open_now. (k.chain, ap (λ (c : Chain). Some c) (later_shown k.chain shown (omega arith)), same_bytes (r.named k.chain.fixed) channel named, refl);
    }
turned_shown r channel h (ops.Call (Respond k)) reply shown named t history before =
    record {
      newest =
          answer_shown r channel k.fixed k.next (challenged r channel h) shown (before.open_chain t.challenged)
          ∙ sym (answer_is_newest r channel h k.fixed k.next (challenged r channel h) t history);
      open_chain = λ open_now. absurd cc;
    }
turned_shown r channel h (ops.Call (Refute fixed next)) reply shown named t history before =
    record { newest = before.newest ∙ sym (newer_nothing (newest_shown r channel h)); open_chain = λ open_now. absurd cc }
turned_shown r channel h (ops.Call (Checkpoint chain)) reply shown named t history before =
    record { newest = newer_same chain shown t.shows.some ∙ ap (newer (marked_of chain)) before.newest; open_chain = λ open_now. absurd cc }
turned_shown r channel h (ops.Call (Conclude chain)) reply shown named t history before =
    record {
      newest = newer_same chain shown t.some ∙ ap (newer (marked_of chain)) before.newest;
      open_chain = λ open_now. absurd (let k = ap is_challenged (ended_now (now_of h)) in cc);
    }
turned_shown r channel h _ reply shown named t history before = absurd cc

-- one more entry
pub shown_turned : (r : Rules) (channel : List ℕ) (h : List Entry) (e : Entry) (v : ChannelView) → Legal r (e ∷ h) → IsShownSo r channel h v.shown
    → IsShownSo r channel (e ∷ h) (cond (turning r channel e) (turned_view r channel h e v) v).shown
shown_turned r channel h e v legal before = go (turning r channel e) refl
  where
    go : (b : Bool) → turning r channel e ≡ b
        → ShowsSo r channel (now_of (e ∷ h)) (cond b (turned r (now_of h) e.op (row r channel h)) (row r channel h)).deadline (newer (cond b (shown_by r channel h e.op) nothing) (newest_shown r channel h))
        (cond b (challenge_in e.op (challenged r channel h)) (challenged r channel h)) (cond b (turned_view r channel h e v) v).shown
    go true turns =
        turned_shown r channel h e.op e.reply v.shown (turning_names r channel e turns) (turning_tells r channel h e legal turns) (together r channel h legal.0) before
    go false quiet =
        record {
          newest = before.newest ∙ sym (newer_nothing (newest_shown r channel h));
          open_chain = λ open_now. before.open_chain (challenged_before (row r channel h).deadline (now_of h) (now_of (e ∷ h)) (time_up r h e.op e.reply legal.2) open_now);
        }
