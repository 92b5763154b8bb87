-- What the looks of calm watchers make of a world of two.
use Rattle.std.proofs.Common.{◌≡◌, ℕ, zero, suc, ◌≤◌, Bool, false, cond, List, [], ◌∷◌, length, drop, refl, ◌∙◌, ap, subst, arith}
use Rattle.std.specs.Prelude.{fold, slice_get, slice_set, Option, Some, None, is_none}
use Rattle.std.specs.List.{flat_map}
use Rattle.std.proofs.lemmas.List.{length-drop, length-reverse, nil_from_length}
use Rattle.channel_safety.proofs.Tests.{some-eq, none-eq}
use Rattle.call_history.specs.declared.call.Call.{Call}
use Rattle.call_history.specs.declared.entry.Entry.{Entry}
use Rattle.call_history.specs.declared.event.Deed.TheVariants as deeds
use Rattle.call_history.specs.declared.held_chain.HeldChain.{HeldChain}
use Rattle.channel_store.specs.Keeping.{held_chain}
use Rattle.network.specs.Watching.{is_stale, checkpoints}
use Rattle.network.specs.Ways.{followed, looked}
use Rattle.network.specs.declared.lookout.Lookout.{Lookout}
use Rattle.network.specs.Entered.{oldest_first}
use Rattle.network.specs.Members.{up_to_date, looks_with, calls_if}
use Rattle.network.specs.Worlds.{WorldOf}
use Rattle.network.specs.declared.happening.Happening.TheVariants as happenings
use Rattle.channel_node.specs.Minds.{Mind}
use Rattle.channel_node.specs.Nodes.{NodeOf, watched}
use Rattle.channel_node.specs.Playing.{SignerOf}
use Rattle.node_guarantees.specs.Ways.{Numbered, ways}
use Rattle.script_play.specs.Rounds.{with_calls}
use Rattle.script_play.specs.Rounds as play
use Rattle.step_meanings.specs.declared.people.Person.{Person}
use Rattle.lms_signatures.specs.Signing.{Signing}
use Rattle.script_run.proofs.Pasts.{grown}
use Rattle.script_run.specs.Pair.{node, Becomes}
use Rattle.script_run.specs.Rounds.{member, world, IsCalm, AreCalm, StaysCalm}

-- no chain passes a test that none passes
quiet : (test : HeldChain → Bool) (chains : List HeldChain) → ((held : HeldChain) → test held ≡ false) → checkpoints test chains ≡ []
quiet test [] none = refl
quiet test (c ∷ cs) none = simp (none c) (quiet test cs none)

-- ---- calm watchers

past-end : {A : Type 0} (xs : List A) (n : ℕ) → length xs ≤ n → drop n xs ≡ []
past-end xs n le = nil_from_length (drop n xs) (omega (arith, length-drop n xs))

-- a watcher that is up to date stays so
calm_then : (h : List Entry) (eye : Lookout) → IsCalm h eye → IsCalm h (up_to_date ways (oldest_first h) eye)
calm_then h eye c =
    let n : length (oldest_first h) ≡ length h = length-reverse h in
    let all : length (oldest_first h) ≤ (up_to_date ways (oldest_first h) eye).seen = omega (arith, length-drop eye.seen (oldest_first h)) in
    record {
      within = let w = c.within in omega (arith, length-drop eye.seen (oldest_first h));
      calm = λ held. ap (λ (es : List Entry). is_stale (followed es (up_to_date ways (oldest_first h) eye)).watcher held) (past-end (oldest_first h) (up_to_date ways (oldest_first h) eye).seen all) ∙ c.calm held;
    }

calm-at : (h : List Entry) (eyes : List Lookout) (place : ℕ) (eye : Lookout) → AreCalm h eyes → slice_get eyes place ≡ Some eye → IsCalm h eye
calm-at h [] place eye c e = absurd (none-eq eye e)
calm-at h (x ∷ xs) zero eye c e = subst (IsCalm h) (some-eq x eye e) c.0
calm-at h (x ∷ xs) (suc place) eye c e = calm-at h xs place eye c.1 e

calm-with : (h : List Entry) (eyes : List Lookout) (place : ℕ) (eye : Lookout) → AreCalm h eyes → IsCalm h eye → AreCalm h (slice_set eyes place eye)
calm-with h [] place eye c k = c
calm-with h (x ∷ xs) zero eye c k = (k, c.1)
calm-with h (x ∷ xs) (suc place) eye c k = (c.0, calm-with h xs place eye c.1 k)

pub stay_calm : (h later : List Entry) (eyes : List Lookout) → StaysCalm h later → AreCalm h eyes → AreCalm later eyes
stay_calm h later [] stays c = c
stay_calm h later (x ∷ xs) stays c = (stays x c.0, stay_calm h later xs stays c.1)

-- ---- the watcher at a place of the first, if there is one

record Look_a (place : ℕ) (h : List Entry) (n : NodeOf) (ea : List Lookout) (b : NodeOf) (eb : List Lookout) (signer : SignerOf) (m : Mind) (used : ℕ) : Type 0 where
  node_then : NodeOf
  eyes_then : List Lookout
  knows : Becomes signer m used node_then
  calm : AreCalm h eyes_then
  is : with_calls ways 1 (happenings.Watch 1 place) (world h n ea b eb) ≡ world h node_then eyes_then b eb

abbrev seen_a : ℕ → List Entry → NodeOf → List Lookout → NodeOf → List Lookout → Option Lookout → WorldOf Numbered
seen_a place h n ea b eb o =
    fold (play.entered_by ways 1) (record { history = h; members = looks_with ways (oldest_first h) place (member 1 n ea) o ∷ member 2 b eb ∷ []; is_lost = false })
    (calls_if ways (oldest_first h) (member 1 n ea) o)

looks_a : (place : ℕ) (h : List Entry) (n : NodeOf) (ea : List Lookout) (b : NodeOf) (eb : List Lookout) (signer : SignerOf) (m : Mind) (used : ℕ) → Becomes signer m used n → AreCalm h ea → Look_a place h n ea b eb signer m used
looks_a place h n ea b eb signer m used knows c = go (slice_get ea place) refl
  where
    here : NodeOf
    here = node signer m used knows.journal knows.commands

    go : (o : Option Lookout) → slice_get ea place ≡ o → Look_a place h n ea b eb signer m used
    go None e = record { node_then = n; eyes_then = ea; knows = knows; calm = c; is = ap (seen_a place h n ea b eb) e }
    go (Some eye) e =
        let k : IsCalm h eye = calm-at h ea place eye c e in
        let now : Lookout = up_to_date ways (oldest_first h) eye in
        record {
          node_then = watched now.seen place [] here;
          eyes_then = slice_set ea place now;
          knows = record { journal = grown knows.journal (record { seen = now.seen; deed = deeds.Watched place [] }) refl; commands = knows.commands; is = refl };
          calm = calm-with h ea place now c (calm_then h eye k);
          is = ap (λ (x : NodeOf). with_calls ways 1 (happenings.Watch 1 place) (world h x ea b eb)) knows.is
              ∙ ap (seen_a place h here ea b eb) e
              ∙ ap (λ (cs : List Call). fold (play.entered_by ways 1) (world h (watched now.seen place cs here) (slice_set ea place now) b eb) cs) (quiet (is_stale now.watcher) (flat_map held_chain m.kept) k.calm);
        }

-- one after another
join_a : (h : List Entry) (n : NodeOf) (ea : List Lookout) (b : NodeOf) (eb : List Lookout) (signer : SignerOf) (m : Mind) (used : ℕ) (l0 : Look_a 0 h n ea b eb signer m used) (l1 : Look_a 1 h l0.node_then l0.eyes_then b eb signer m used) (l2 : Look_a 2 h l1.node_then l1.eyes_then b eb signer m used) (l3 : Look_a 3 h l2.node_then l2.eyes_then b eb signer m used)
    → play.looked ways 1 4 (world h n ea b eb) ≡ world h l3.node_then l3.eyes_then b eb
join_a h n ea b eb signer m used l0 l1 l2 l3 =
    ap (λ (w : WorldOf Numbered). with_calls ways 1 (happenings.Watch 1 3) (with_calls ways 1 (happenings.Watch 1 2) (with_calls ways 1 (happenings.Watch 1 1) w))) l0.is
    ∙ ap (λ (w : WorldOf Numbered). with_calls ways 1 (happenings.Watch 1 3) (with_calls ways 1 (happenings.Watch 1 2) w)) l1.is
    ∙ ap (with_calls ways 1 (happenings.Watch 1 3)) l2.is
    ∙ l3.is

-- a person's watchers
pub record Looks_a (h : List Entry) (first : Person) (n : NodeOf) (ea : List Lookout) (b : NodeOf) (eb : List Lookout) (signer : SignerOf) (m : Mind) (used : ℕ) : Type 0 where
  pub node_then : NodeOf
  pub eyes_then : List Lookout
  pub knows : Becomes signer m used node_then
  pub calm : AreCalm h eyes_then
  pub is : play.watched ways (world h n ea b eb) first ≡ world h node_then eyes_then b eb

made_a : (h : List Entry) (first : Person) (n : NodeOf) (ea : List Lookout) (b : NodeOf) (eb : List Lookout) (signer : SignerOf) (m : Mind) (used : ℕ) → first.number ≡ 1 → first.hand ≡ None → (l0 : Look_a 0 h n ea b eb signer m used) (l1 : Look_a 1 h l0.node_then l0.eyes_then b eb signer m used) (l2 : Look_a 2 h l1.node_then l1.eyes_then b eb signer m used) (l3 : Look_a 3 h l2.node_then l2.eyes_then b eb signer m used)
    → Looks_a h first n ea b eb signer m used
made_a h first n ea b eb signer m used number no-hand l0 l1 l2 l3 =
    record {
      node_then = l3.node_then;
      eyes_then = l3.eyes_then;
      knows = l3.knows;
      calm = l3.calm;
      is = ap (λ (o : Option Signing). cond (is_none o) (play.looked ways first.number 4 (world h n ea b eb)) (world h n ea b eb)) no-hand
          ∙ ap (λ (k : ℕ). play.looked ways k 4 (world h n ea b eb)) number
          ∙ join_a h n ea b eb signer m used l0 l1 l2 l3;
    }

pub look_a : (h : List Entry) (first : Person) (n : NodeOf) (ea : List Lookout) (b : NodeOf) (eb : List Lookout) (signer : SignerOf) (m : Mind) (used : ℕ)
    → first.number ≡ 1 → first.hand ≡ None → Becomes signer m used n → AreCalm h ea → Looks_a h first n ea b eb signer m used
look_a h first n ea b eb signer m used number no-hand knows calm =
    let l0 = looks_a 0 h n ea b eb signer m used knows calm in
    let l1 = looks_a 1 h l0.node_then l0.eyes_then b eb signer m used l0.knows l0.calm in
    let l2 = looks_a 2 h l1.node_then l1.eyes_then b eb signer m used l1.knows l1.calm in
    let l3 = looks_a 3 h l2.node_then l2.eyes_then b eb signer m used l2.knows l2.calm in
    made_a h first n ea b eb signer m used number no-hand l0 l1 l2 l3

-- ---- the watcher at a place of the second, if there is one

record Look_b (place : ℕ) (h : List Entry) (a : NodeOf) (ea : List Lookout) (n : NodeOf) (eb : List Lookout) (signer : SignerOf) (m : Mind) (used : ℕ) : Type 0 where
  node_then : NodeOf
  eyes_then : List Lookout
  knows : Becomes signer m used node_then
  calm : AreCalm h eyes_then
  is : with_calls ways 2 (happenings.Watch 2 place) (world h a ea n eb) ≡ world h a ea node_then eyes_then

abbrev seen_b : ℕ → List Entry → NodeOf → List Lookout → NodeOf → List Lookout → Option Lookout → WorldOf Numbered
seen_b place h a ea n eb o =
    fold (play.entered_by ways 2) (record { history = h; members = member 1 a ea ∷ looks_with ways (oldest_first h) place (member 2 n eb) o ∷ []; is_lost = false })
    (calls_if ways (oldest_first h) (member 2 n eb) o)

looks_b : (place : ℕ) (h : List Entry) (a : NodeOf) (ea : List Lookout) (n : NodeOf) (eb : List Lookout) (signer : SignerOf) (m : Mind) (used : ℕ) → Becomes signer m used n → AreCalm h eb → Look_b place h a ea n eb signer m used
looks_b place h a ea n eb signer m used knows c = go (slice_get eb place) refl
  where
    here : NodeOf
    here = node signer m used knows.journal knows.commands

    go : (o : Option Lookout) → slice_get eb place ≡ o → Look_b place h a ea n eb signer m used
    go None e = record { node_then = n; eyes_then = eb; knows = knows; calm = c; is = ap (seen_b place h a ea n eb) e }
    go (Some eye) e =
        let k : IsCalm h eye = calm-at h eb place eye c e in
        let now : Lookout = up_to_date ways (oldest_first h) eye in
        record {
          node_then = watched now.seen place [] here;
          eyes_then = slice_set eb place now;
          knows = record { journal = grown knows.journal (record { seen = now.seen; deed = deeds.Watched place [] }) refl; commands = knows.commands; is = refl };
          calm = calm-with h eb place now c (calm_then h eye k);
          is = ap (λ (x : NodeOf). with_calls ways 2 (happenings.Watch 2 place) (world h a ea x eb)) knows.is
              ∙ ap (seen_b place h a ea here eb) e
              ∙ ap (λ (cs : List Call). fold (play.entered_by ways 2) (world h a ea (watched now.seen place cs here) (slice_set eb place now)) cs) (quiet (is_stale now.watcher) (flat_map held_chain m.kept) k.calm);
        }

-- one after another
join_b : (h : List Entry) (a : NodeOf) (ea : List Lookout) (n : NodeOf) (eb : List Lookout) (signer : SignerOf) (m : Mind) (used : ℕ) (l0 : Look_b 0 h a ea n eb signer m used) (l1 : Look_b 1 h a ea l0.node_then l0.eyes_then signer m used) (l2 : Look_b 2 h a ea l1.node_then l1.eyes_then signer m used) (l3 : Look_b 3 h a ea l2.node_then l2.eyes_then signer m used)
    → play.looked ways 2 4 (world h a ea n eb) ≡ world h a ea l3.node_then l3.eyes_then
join_b h a ea n eb signer m used l0 l1 l2 l3 =
    ap (λ (w : WorldOf Numbered). with_calls ways 2 (happenings.Watch 2 3) (with_calls ways 2 (happenings.Watch 2 2) (with_calls ways 2 (happenings.Watch 2 1) w))) l0.is
    ∙ ap (λ (w : WorldOf Numbered). with_calls ways 2 (happenings.Watch 2 3) (with_calls ways 2 (happenings.Watch 2 2) w)) l1.is
    ∙ ap (with_calls ways 2 (happenings.Watch 2 3)) l2.is
    ∙ l3.is

-- a person's watchers
pub record Looks_b (h : List Entry) (second : Person) (a : NodeOf) (ea : List Lookout) (n : NodeOf) (eb : List Lookout) (signer : SignerOf) (m : Mind) (used : ℕ) : Type 0 where
  pub node_then : NodeOf
  pub eyes_then : List Lookout
  pub knows : Becomes signer m used node_then
  pub calm : AreCalm h eyes_then
  pub is : play.watched ways (world h a ea n eb) second ≡ world h a ea node_then eyes_then

made_b : (h : List Entry) (second : Person) (a : NodeOf) (ea : List Lookout) (n : NodeOf) (eb : List Lookout) (signer : SignerOf) (m : Mind) (used : ℕ) → second.number ≡ 2 → second.hand ≡ None → (l0 : Look_b 0 h a ea n eb signer m used) (l1 : Look_b 1 h a ea l0.node_then l0.eyes_then signer m used) (l2 : Look_b 2 h a ea l1.node_then l1.eyes_then signer m used) (l3 : Look_b 3 h a ea l2.node_then l2.eyes_then signer m used)
    → Looks_b h second a ea n eb signer m used
made_b h second a ea n eb signer m used number no-hand l0 l1 l2 l3 =
    record {
      node_then = l3.node_then;
      eyes_then = l3.eyes_then;
      knows = l3.knows;
      calm = l3.calm;
      is = ap (λ (o : Option Signing). cond (is_none o) (play.looked ways second.number 4 (world h a ea n eb)) (world h a ea n eb)) no-hand
          ∙ ap (λ (k : ℕ). play.looked ways k 4 (world h a ea n eb)) number
          ∙ join_b h a ea n eb signer m used l0 l1 l2 l3;
    }

pub look_b : (h : List Entry) (second : Person) (a : NodeOf) (ea : List Lookout) (n : NodeOf) (eb : List Lookout) (signer : SignerOf) (m : Mind) (used : ℕ)
    → second.number ≡ 2 → second.hand ≡ None → Becomes signer m used n → AreCalm h eb → Looks_b h second a ea n eb signer m used
look_b h second a ea n eb signer m used number no-hand knows calm =
    let l0 = looks_b 0 h a ea n eb signer m used knows calm in
    let l1 = looks_b 1 h a ea l0.node_then l0.eyes_then signer m used l0.knows l0.calm in
    let l2 = looks_b 2 h a ea l1.node_then l1.eyes_then signer m used l1.knows l1.calm in
    let l3 = looks_b 3 h a ea l2.node_then l2.eyes_then signer m used l2.knows l2.calm in
    made_b h second a ea n eb signer m used number no-hand l0 l1 l2 l3
