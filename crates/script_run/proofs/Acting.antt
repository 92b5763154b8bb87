-- What a node's half of a round makes of a world of two.
use Rattle.std.proofs.Common.{◌≡◌, ℕ, Bool, true, false, cond, List, [], ◌∷◌, ◌++◌, drop, refl, ◌∙◌, ap}
use Rattle.std.specs.Prelude.{fold, Option, None, is_none}
use Rattle.lms_signatures.specs.Signing.{Signing}
use Rattle.std.specs.Str.{bytes_eq}
use Rattle.call_history.specs.declared.call.Call.{Call}
use Rattle.call_history.specs.declared.call.Op.TheVariants as ops
use Rattle.call_history.specs.declared.entry.Entry.{Entry}
use Rattle.channel_values.specs.Digests.{name_of_person}
use Rattle.network.specs.declared.command.Command.{Command}
use Rattle.network.specs.declared.lookout.Lookout.{Lookout}
use Rattle.network.specs.declared.outs.Outs.{Outs}
use Rattle.network.specs.Entered.{entered, oldest_first}
use Rattle.network.specs.Worlds.{WorldOf, happened, given}
use Rattle.network.specs.declared.happening.Happening.TheVariants as happenings
use Rattle.channel_node.specs.Giving.{after_tick, tick_gives}
use Rattle.channel_node.specs.Minds.{Mind, saw}
use Rattle.channel_node.specs.Nodes.{NodeOf, handled, saw_all}
use Rattle.channel_node.specs.Playing.{SignerOf, signing_of}
use Rattle.stage_tables.specs.Stages.{stages}
use Rattle.node_guarantees.specs.Ways.{Numbered, ways}
use Rattle.script_play.specs.Rounds.{Letter, Mailed, handed, ready, entered_by, with_calls, acted, node_acted}
use Rattle.step_meanings.specs.declared.people.Person.{Person}
use Rattle.support_rules.specs.Real.{real}
use Rattle.script_run.specs.Pair.{node, Becomes, Past}
use Rattle.script_run.specs.Rounds.{world, enter_all, hand, Does}

abbrev pub the-mailed : WorldOf Numbered → List Letter → Mailed Numbered
the-mailed w post = record { world = w; post = post }

abbrev acted-if : Bool → Person → List Letter → List Letter → WorldOf Numbered → Mailed Numbered
acted-if t p post out w = cond t (node_acted ways post (the-mailed w out) p) (the-mailed w out)

enters : (by : ℕ) (calls : List Call) (h : List Entry) (a : NodeOf) (ea : List Lookout) (b : NodeOf) (eb : List Lookout) → fold (entered_by ways by) (world h a ea b eb) calls ≡ world (enter_all by h calls) a ea b eb
enters by [] h a ea b eb = refl
enters by (call ∷ calls) h a ea b eb = enters by calls (entered h by (ops.Call call)) a ea b eb

-- ---- messages

hands_a : (who : List ℕ) (post : List Letter) (h : List Entry) (a : NodeOf) (ea : List Lookout) (b : NodeOf) (eb : List Lookout) → a.is_lost ≡ false
    → fold (handed ways 1 who) (world h a ea b eb) post ≡ world h (hand who post a) ea b eb
hands_a who [] h a ea b eb kept = refl
hands_a who (letter ∷ post) h a ea b eb kept = go (bytes_eq letter.0 who) (λ n k. hands_a who post h n ea b eb k)
  where
    lost-not : (n : NodeOf) → n.is_lost ≡ false → happened ways (happenings.Deliver 1 letter.1) (world h n ea b eb) ≡ world h (handled stages real letter.1 n) ea b eb
    lost-not n e = simp e

    go : (t : Bool) → ((n : NodeOf) → n.is_lost ≡ false → fold (handed ways 1 who) (world h n ea b eb) post ≡ world h (hand who post n) ea b eb)
        → fold (handed ways 1 who) (cond t (happened ways (happenings.Deliver 1 letter.1) (world h a ea b eb)) (world h a ea b eb)) post
        ≡ world h (hand who post (cond t (handled stages real letter.1 a) a)) ea b eb
    go true rest = ap (λ (w : WorldOf Numbered). fold (handed ways 1 who) w post) (lost-not a kept) ∙ rest (handled stages real letter.1 a) kept
    go false rest = rest a kept

hands_b : (who : List ℕ) (post : List Letter) (h : List Entry) (a : NodeOf) (ea : List Lookout) (b : NodeOf) (eb : List Lookout) → b.is_lost ≡ false
    → fold (handed ways 2 who) (world h a ea b eb) post ≡ world h a ea (hand who post b) eb
hands_b who [] h a ea b eb kept = refl
hands_b who (letter ∷ post) h a ea b eb kept = go (bytes_eq letter.0 who) (λ n k. hands_b who post h a ea n eb k)
  where
    lost-not : (n : NodeOf) → n.is_lost ≡ false → happened ways (happenings.Deliver 2 letter.1) (world h a ea n eb) ≡ world h a ea (handled stages real letter.1 n) eb
    lost-not n e = simp e

    go : (t : Bool) → ((n : NodeOf) → n.is_lost ≡ false → fold (handed ways 2 who) (world h a ea n eb) post ≡ world h a ea (hand who post n) eb)
        → fold (handed ways 2 who) (cond t (happened ways (happenings.Deliver 2 letter.1) (world h a ea b eb)) (world h a ea b eb)) post
        ≡ world h a ea (hand who post (cond t (handled stages real letter.1 b) b)) eb
    go true rest = ap (λ (w : WorldOf Numbered). fold (handed ways 2 who) w post) (lost-not b kept) ∙ rest (handled stages real letter.1 b) kept
    go false rest = rest b kept

-- ---- entries

pub sees_all : (signer : SignerOf) (entries : List Entry) (m : Mind) (used : ℕ) (journal : Past) (commands : List Command)
    → saw_all real entries (node signer m used journal commands) ≡ node signer (fold (λ x e. saw real e x) m entries) used journal commands
sees_all signer [] m used journal commands = refl
sees_all signer (e ∷ entries) m used journal commands = sees_all signer entries (saw real e m) used journal commands

-- ---- a node's half

pub record Acts_a (signer : SignerOf) (first : Person) (post out : List Letter) (h : List Entry) (n : NodeOf) (ea : List Lookout) (b : NodeOf) (eb : List Lookout) (m : Mind) (used : ℕ) (sends : List Letter) (calls : List Call) : Type 0 where
  pub node_then : NodeOf
  pub knows : Becomes signer m used node_then
  pub is : acted ways post (record { world = world h n ea b eb; post = out }) first ≡ record { world = world (enter_all 1 h calls) node_then ea b eb; post = out ++ sends }

ticks_a : (out : List Letter) (h : List Entry) (signer : SignerOf) (m : Mind) (used : ℕ) (journal : Past) (commands : List Command) (ea : List Lookout) (b : NodeOf) (eb : List Lookout) (sends : List Letter) (calls : List Call)
    → tick_gives stages real (signing_of signer) (node signer m used journal commands) ≡ record { sends = sends; calls = calls; spent = None }
    → the-mailed (with_calls ways 1 (happenings.Tick 1) (world h (node signer m used journal commands) ea b eb)) (out ++ (given ways (happenings.Tick 1) (world h (node signer m used journal commands) ea b eb)).sends)
    ≡ the-mailed (world (enter_all 1 h calls) (after_tick stages real (signing_of signer) (node signer m used journal commands)) ea b eb) (out ++ sends)
ticks_a out h signer m used journal commands ea b eb sends calls gives =
    ap (λ (o : Outs). the-mailed (fold (entered_by ways 1) (world h (after_tick stages real (signing_of signer) (node signer m used journal commands)) ea b eb) o.calls) (out ++ o.sends)) gives
    ∙ ap (λ (w : WorldOf Numbered). the-mailed w (out ++ sends)) (enters 1 calls h (after_tick stages real (signing_of signer) (node signer m used journal commands)) ea b eb)

pub acts_a : (signer : SignerOf) (first : Person) (post out : List Letter) (h : List Entry) (n : NodeOf) (ea : List Lookout) (b : NodeOf) (eb : List Lookout) (before after : Mind) (used used_after : ℕ) (sends : List Letter) (calls : List Call)
    → first.number ≡ 1 → first.hand ≡ None → Becomes signer before used n → Does signer (name_of_person first.key) h post before used after used_after sends calls
    → Acts_a signer first post out h n ea b eb after used_after sends calls
acts_a signer first post out h n ea b eb before after used used_after sends calls one no-hand knows d =
    let t = d.takes knows.journal knows.commands in
    let moved : ready ways post first (world h n ea b eb) ≡ world h (node signer d.taken used t.journal t.commands) ea b eb =
    ap (λ (k : ℕ). fold (handed ways k (name_of_person first.key)) (happened ways (happenings.See k) (world h n ea b eb)) post) one
    ∙ ap (λ (x : NodeOf). fold (handed ways 1 (name_of_person first.key)) (happened ways (happenings.See 1) (world h x ea b eb)) post) knows.is
    ∙ ap (λ (x : NodeOf). fold (handed ways 1 (name_of_person first.key)) (world h x ea b eb) post) (sees_all signer (drop before.view.count (oldest_first h)) before used knows.journal knows.commands ∙ ap (λ (x : Mind). node signer x used knows.journal knows.commands) d.sees)
    ∙ hands_a (name_of_person first.key) post h (node signer d.seen used knows.journal knows.commands) ea b eb refl
    ∙ ap (λ (x : NodeOf). world h x ea b eb) t.is in
    record {
      node_then = after_tick stages real (signing_of signer) (node signer d.taken used t.journal t.commands);
      knows = d.becomes t.journal t.commands;
      is = ap (λ (o : Option Signing). acted-if (is_none o) first post out (world h n ea b eb)) no-hand
          ∙ ap (λ (k : ℕ). the-mailed (with_calls ways k (happenings.Tick k) (ready ways post first (world h n ea b eb))) (out ++ (given ways (happenings.Tick k) (ready ways post first (world h n ea b eb))).sends)) one
          ∙ ap (λ (w : WorldOf Numbered). the-mailed (with_calls ways 1 (happenings.Tick 1) w) (out ++ (given ways (happenings.Tick 1) w).sends)) moved
          ∙ ticks_a out h signer d.taken used t.journal t.commands ea b eb sends calls (d.gives t.journal t.commands);
    }

pub record Acts_b (signer : SignerOf) (second : Person) (post out : List Letter) (h : List Entry) (a : NodeOf) (ea : List Lookout) (n : NodeOf) (eb : List Lookout) (m : Mind) (used : ℕ) (sends : List Letter) (calls : List Call) : Type 0 where
  pub node_then : NodeOf
  pub knows : Becomes signer m used node_then
  pub is : acted ways post (record { world = world h a ea n eb; post = out }) second ≡ record { world = world (enter_all 2 h calls) a ea node_then eb; post = out ++ sends }

ticks_b : (out : List Letter) (h : List Entry) (signer : SignerOf) (m : Mind) (used : ℕ) (journal : Past) (commands : List Command) (a : NodeOf) (ea : List Lookout) (eb : List Lookout) (sends : List Letter) (calls : List Call)
    → tick_gives stages real (signing_of signer) (node signer m used journal commands) ≡ record { sends = sends; calls = calls; spent = None }
    → the-mailed (with_calls ways 2 (happenings.Tick 2) (world h a ea (node signer m used journal commands) eb)) (out ++ (given ways (happenings.Tick 2) (world h a ea (node signer m used journal commands) eb)).sends)
    ≡ the-mailed (world (enter_all 2 h calls) a ea (after_tick stages real (signing_of signer) (node signer m used journal commands)) eb) (out ++ sends)
ticks_b out h signer m used journal commands a ea eb sends calls gives =
    ap (λ (o : Outs). the-mailed (fold (entered_by ways 2) (world h a ea (after_tick stages real (signing_of signer) (node signer m used journal commands)) eb) o.calls) (out ++ o.sends)) gives
    ∙ ap (λ (w : WorldOf Numbered). the-mailed w (out ++ sends)) (enters 2 calls h a ea (after_tick stages real (signing_of signer) (node signer m used journal commands)) eb)

pub acts_b : (signer : SignerOf) (second : Person) (post out : List Letter) (h : List Entry) (a : NodeOf) (ea : List Lookout) (n : NodeOf) (eb : List Lookout) (before after : Mind) (used used_after : ℕ) (sends : List Letter) (calls : List Call)
    → second.number ≡ 2 → second.hand ≡ None → Becomes signer before used n → Does signer (name_of_person second.key) h post before used after used_after sends calls
    → Acts_b signer second post out h a ea n eb after used_after sends calls
acts_b signer second post out h a ea n eb before after used used_after sends calls one no-hand knows d =
    let t = d.takes knows.journal knows.commands in
    let moved : ready ways post second (world h a ea n eb) ≡ world h a ea (node signer d.taken used t.journal t.commands) eb =
    ap (λ (k : ℕ). fold (handed ways k (name_of_person second.key)) (happened ways (happenings.See k) (world h a ea n eb)) post) one
    ∙ ap (λ (x : NodeOf). fold (handed ways 2 (name_of_person second.key)) (happened ways (happenings.See 2) (world h a ea x eb)) post) knows.is
    ∙ ap (λ (x : NodeOf). fold (handed ways 2 (name_of_person second.key)) (world h a ea x eb) post) (sees_all signer (drop before.view.count (oldest_first h)) before used knows.journal knows.commands ∙ ap (λ (x : Mind). node signer x used knows.journal knows.commands) d.sees)
    ∙ hands_b (name_of_person second.key) post h a ea (node signer d.seen used knows.journal knows.commands) eb refl
    ∙ ap (λ (x : NodeOf). world h a ea x eb) t.is in
    record {
      node_then = after_tick stages real (signing_of signer) (node signer d.taken used t.journal t.commands);
      knows = d.becomes t.journal t.commands;
      is = ap (λ (o : Option Signing). acted-if (is_none o) second post out (world h a ea n eb)) no-hand
          ∙ ap (λ (k : ℕ). the-mailed (with_calls ways k (happenings.Tick k) (ready ways post second (world h a ea n eb))) (out ++ (given ways (happenings.Tick k) (ready ways post second (world h a ea n eb))).sends)) one
          ∙ ap (λ (w : WorldOf Numbered). the-mailed (with_calls ways 2 (happenings.Tick 2) w) (out ++ (given ways (happenings.Tick 2) w).sends)) moved
          ∙ ticks_b out h signer d.taken used t.journal t.commands a ea eb sends calls (d.gives t.journal t.commands);
    }
