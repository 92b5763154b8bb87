-- Whatever comes to a machine, its node and its watcher stand for its history.
use Rattle.std.proofs.Common.{◌≡◌, ℕ, suc, ◌+◌, false, List, [], ◌∷◌, ◌++◌, length, reverse, drop, refl, sym, ◌∙◌, ap, subst, arith}
use Rattle.std.proofs.lemmas.List.{length-reverse, append-nil, reverse-append}
use Rattle.std.specs.Prelude.{Result, Ok, Err}
use Rattle.std.specs.List.{AllByRecursion}
use Rattle.call_history.specs.History.{Legal, reply_to}
use Rattle.call_history.specs.declared.entry.Entry.{Entry}
use Rattle.channel_safety.specs.Valid.{IsValidOp, IsValidEntry}
use Rattle.lms_signatures.specs.Made.{made_key}
use Rattle.lms_signatures.specs.Signing.{Signing}
use Rattle.network.proofs.Watching.{looks_are_kept, stands_fresh}
use Rattle.network.specs.Histories.{IsFresh, HasLooked}
use Rattle.network.specs.Standing.{AreKept}
use Rattle.network.specs.Watching.{StandsFor, history_after}
use Rattle.network.specs.Ways.{followed, looked}
use Rattle.network.specs.declared.command.Command.{Command}
use Rattle.network.specs.declared.lookout.Lookout.{Lookout}
use Rattle.node_guarantees.specs.Placed.{IsPlaced}
use Rattle.node_guarantees.specs.Ways.{Numbered, key_of, ways}
use Rattle.support_rules.specs.Real.{real}
use Rattle.lasting_node.proofs.Leaves.{Leaves, seen-same, handled-leaves, commanded-leaves, ticked-leaves, watched-leaves, Saw, saw-leaves}
use Rattle.lasting_node.proofs.Entries.{IsValid, IsValidEvent}
use Rattle.lasting_node.specs.Laws.{HasFollowed, IsStanding}
use Rattle.lasting_node.specs.Machines.{new_machine, number, entering, seeing, looking, ticking, look_place, after_entry, after_message, after_command, after_dropped, after_event, next}
use Rattle.lasting_node.specs.declared.machine.NodeMachine.{NodeMachine}
use Rattle.lasting_node.specs.declared.taking.NotTaken.{NotTaken}
use Rattle.node_lines.specs.declared.entries.LedgerEntry.{LedgerEntry}
use Rattle.node_lines.specs.declared.events.NodeEvent.{NodeEvent}
use Rattle.node_lines.specs.declared.events.NodeEvent.TheVariants as events

-- ---- what was not followed yet

drop-front : {A : Type 0} (xs ys : List A) → drop (length xs) (xs ++ ys) ≡ ys
drop-front [] ys = refl
drop-front (x ∷ xs) ys = drop-front xs ys

-- of a history that was followed, nothing
all-followed : (h : List Entry) (count : ℕ) → count ≡ length h → drop count (reverse h) ≡ []
all-followed h count is =
    ap (λ (k : ℕ). drop k (reverse h)) (is ∙ sym (length-reverse h))
    ∙ ap (drop (length (reverse h))) (sym (append-nil (reverse h))) ∙ drop-front (reverse h) []

-- and of a longer one the newest entry
but-newest : (h : List Entry) (e : Entry) (count : ℕ) → count ≡ length h → drop count (reverse (e ∷ h)) ≡ e ∷ []
but-newest h e count is =
    ap (λ (k : ℕ). drop k (reverse (e ∷ h))) (is ∙ sym (length-reverse h))
    ∙ ap (drop (length (reverse h))) (reverse-append (e ∷ []) h) ∙ drop-front (reverse h) (e ∷ [])

-- ---- a node and its watcher

-- a node stands for a history and followed all of it
pub record IsNode (Stood : List Entry → Numbered → Type 0) (key : List ℕ) (h : List Entry) (p : Numbered) : Type 0 where
  pub legal : Legal real h
  pub own : ways.key p ≡ key
  pub stands : Stood h p
  pub able : p.node.is_lost ≡ false
  pub seen : ways.seen p ≡ length h

-- so does a machine, whose entries have valid parts
pub record IsMachine (Stood : List Entry → Numbered → Type 0) (key : List ℕ) (m : NodeMachine) : Type 0 where
  pub valid : AllByRecursion IsValidEntry m.ledger
  pub node : IsNode Stood key m.ledger m.node
  pub watcher : HasFollowed m.ledger m.lookout

-- By any way in which a node stands for a history that is kept, and with it its place.
module _ {Stood : List Entry → Numbered → Type 0} (kept : AreKept ways Stood) (placed : (h : List Entry) (p : Numbered) → Stood h p → IsPlaced h p) where
  module _ (key : List ℕ) where
    quiet : (h : List Entry) (p q : Numbered) → Leaves p.node q.node → Stood h q → IsNode Stood key h p → IsNode Stood key h q
    quiet h p q same still is =
        record {
          legal = is.legal;
          own = ap key_of same.signer ∙ is.own;
          stands = still;
          able = same.lost ∙ is.able;
          seen = seen-same p.node q.node same ∙ is.seen;
        }

    handles : (h : List Entry) (bytes : List ℕ) (p : Numbered) → IsNode Stood key h p → IsNode Stood key h (ways.handled bytes p)
    handles h bytes p is = quiet h p (ways.handled bytes p) (handled-leaves h p (placed h p is.stands).stands bytes) (kept.handled h bytes p is.legal is.stands) is

    commands : (h : List Entry) (step : ℕ) (command : Command) (p : Numbered) → IsNode Stood key h p → IsNode Stood key h (ways.commanded step command p)
    commands h step command p is =
        quiet h p (ways.commanded step command p) (commanded-leaves h p (placed h p is.stands).stands step command) (kept.commanded h step command p is.legal is.stands) is

    pub ticks : (h : List Entry) (p : Numbered) → IsNode Stood key h p → IsNode Stood key h (ways.ticked p)
    ticks h p is = quiet h p (ways.ticked p) (ticked-leaves h p (placed h p is.stands).stands) (kept.ticked h p is.legal is.stands) is

    -- an entry comes
    sees : (h : List Entry) (e : Entry) (p : Numbered) → Legal real (e ∷ h) → IsNode Stood key h p → IsNode Stood key (e ∷ h) (ways.saw (e ∷ []) p)
    sees h e p legal is =
        let saw : Saw e p (ways.saw (e ∷ []) p) = saw-leaves e p is.able in
        record {
          legal = legal;
          own = ap key_of saw.signer ∙ is.own;
          stands = kept.saw (e ∷ h) (e ∷ []) p legal ([], h, refl, sym is.seen) (kept.grows h e p legal is.stands);
          able = saw.able;
          seen = saw.seen ∙ legal.1;
        }

    -- the watcher follows the entries that it hasn't followed, and looks
    looks : (h past entries : List Entry) (p : Numbered) (l : Lookout) → h ≡ history_after past entries → length past + length entries ≡ length h
        → HasFollowed past l → IsNode Stood key h p
        → IsNode Stood key h (ways.watched (followed entries l).seen 0 (looked (ways.chains p) (followed entries l)) p)
    looks h past entries p l are long watcher is =
        quiet h p (ways.watched (followed entries l).seen 0 (looked (ways.chains p) (followed entries l)) p)
        (watched-leaves (followed entries l).seen 0 (looked (ways.chains p) (followed entries l)) p)
        (kept.watched h entries l 0 p is.legal has is.stands) is
      where
        has : HasLooked real h (ways.seen p) l entries
        has = record { later = []; past = past; is = are; count = sym watcher.count; stands = watcher.stands; after = omega (arith, is.seen, watcher.count, long) }

    follows : (h past entries : List Entry) (l : Lookout) → h ≡ history_after past entries → length past + length entries ≡ length h
        → Legal real h → HasFollowed past l → HasFollowed h (followed entries l)
    follows h past entries l are long legal watcher =
        record {
          count = ap (λ (k : ℕ). k + length entries) watcher.count ∙ long;
          stands =
              subst (λ (g : List Entry). StandsFor real g (followed entries l).watcher) (sym are)
              (looks_are_kept real past entries l.watcher (λ f. refl) watcher.stands (subst (Legal real) are legal));
        }

  -- ---- a machine

  module _ (key : List ℕ) where
    pub standing : (m : NodeMachine) → IsMachine Stood key m → IsStanding key m
    standing m is =
        record {
          legal = is.node.legal;
          valid = is.valid;
          own = is.node.own;
          stands = placed m.ledger m.node is.node.stands;
          able = is.node.able;
          seen = is.node.seen;
          watcher = is.watcher;
        }

    machine : (m : NodeMachine) → AllByRecursion IsValidEntry m.ledger → IsNode Stood key m.ledger m.node → HasFollowed m.ledger m.lookout → IsMachine Stood key m
    machine m valid node watcher = record { valid = valid; node = node; watcher = watcher }

    -- the watcher looks, after these entries
    looks-on : (m : NodeMachine) (place : ℕ) (past entries : List Entry) → drop m.lookout.seen (reverse m.ledger) ≡ entries
        → m.ledger ≡ history_after past entries → length past + length entries ≡ length m.ledger
        → AllByRecursion IsValidEntry m.ledger → IsNode Stood key m.ledger m.node → HasFollowed past m.lookout → IsMachine Stood key (looking place m)
    looks-on m place past entries left are long valid is watcher =
        machine (looking place m) valid
        (subst (λ (es : List Entry). IsNode Stood key m.ledger (ways.watched (followed es m.lookout).seen 0 (looked (ways.chains m.node) (followed es m.lookout)) m.node)) (sym left)
        (looks key m.ledger past entries m.node m.lookout are long watcher is))
        (subst (λ (es : List Entry). HasFollowed m.ledger (followed es m.lookout)) (sym left)
        (follows key m.ledger past entries m.lookout are long is.legal watcher))

    entry-stands : (e : LedgerEntry) (m : NodeMachine) → IsValidOp e.op → IsMachine Stood key m → IsMachine Stood key (after_entry e m)
    entry-stands e m valid is =
        looks-on (seeing (entering e m)) 0 m.ledger (new ∷ []) (but-newest m.ledger new m.lookout.seen is.watcher.count) refl (omega arith)
        (valid, is.valid)
        (subst (λ (es : List Entry). IsNode Stood key (new ∷ m.ledger) (ways.saw es m.node)) (sym (but-newest m.ledger new (ways.seen m.node) is.node.seen))
        (sees key m.ledger new m.node (is.node.legal, refl, refl) is.node))
        is.watcher
      where
        new : Entry
        new = record { number = suc (length m.ledger); by = e.by; op = e.op; reply = reply_to real m.ledger e.op }

    event-stands : (event : NodeEvent) (m : NodeMachine) → IsValid event → IsMachine Stood key m → IsMachine Stood key (after_event event m)
    event-stands (events.Entry e) m valid is = entry-stands e m valid is
    event-stands (events.Message bytes) m valid is =
        machine (after_message bytes m) is.valid (handles key m.ledger bytes m.node is.node) is.watcher
    event-stands (events.Command command) m valid is =
        machine (after_command command m) is.valid (commands key m.ledger (number m) command m.node is.node) is.watcher
    event-stands events.Tick m valid is =
        looks-on (ticking m) (look_place m) m.ledger [] (all-followed m.ledger m.lookout.seen is.watcher.count) refl (omega arith) is.valid
        (ticks key m.ledger m.node is.node) is.watcher
    event-stands (events.Dropped call) m valid is = machine (after_dropped call m) is.valid is.node is.watcher

    pub next-stands : (m : NodeMachine) (event : Result NodeEvent NotTaken) → IsValidEvent event → IsMachine Stood key m → IsMachine Stood key (next m event)
    next-stands m (Err why) valid is = is
    next-stands m (Ok event) valid is =
        machine (next m (Ok event)) now.valid now.node now.watcher
      where
        now : IsMachine Stood key (after_event event m)
        now = event-stands event m valid is

  pub new-stands : (signer : Signing) → IsFresh signer → IsMachine Stood (made_key signer.seed signer.id signer.h) (new_machine signer)
  new-stands signer is =
      record {
        valid = tt;
        node = record { legal = tt; own = refl; stands = kept.fresh [] 1 signer is; able = refl; seen = refl };
        watcher = record { count = refl; stands = stands_fresh real };
      }
