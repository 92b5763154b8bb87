-- What stays true over any number of crashes and restarts.
use Rattle.std.proofs.Common.{◌≡◌, ℕ, List, [], ◌∷◌, ◌++◌, length, refl, sym, ◌∙◌, ap, subst, arith}
use Rattle.std.proofs.lemmas.List.{append-nil, append_assoc, length-take}
use Rattle.std.specs.Prelude.{codes, flat_map, Result, Ok, Err}
use Rattle.std.specs.List.{AllByRecursion}
use Rattle.call_history.specs.declared.entry.Entry.{Entry}
use Rattle.sha2.proofs.Facts256.{length-sha256}
use Rattle.sha2.specs.Sha256.{sha256}
use Rattle.lms_signatures.specs.Made.{made_key}
use Rattle.lms_signatures.specs.Signing.{IsHeight}
use Rattle.channel_node.specs.Places.{lines_of}
use Rattle.network.proofs.Real.{network-safe}
use Rattle.network.specs.Standing.{AreKept}
use Rattle.network_node.specs.Holds.{nodes_hold}
use Rattle.network_node.specs.Ruled.{nodes_play}
use Rattle.network_node.specs.Shares.{is_lost}
use Rattle.node_guarantees.proofs.Kept.{nodes_are_kept}
use Rattle.node_guarantees.proofs.Once.{is_honest, signs_once}
use Rattle.node_guarantees.specs.Commanded.{told}
use Rattle.node_guarantees.specs.Placed.{IsPlaced}
use Rattle.node_guarantees.specs.Promised.{IsByRules}
use Rattle.node_guarantees.specs.Telling.{ChallengesAreOwn}
use Rattle.node_guarantees.specs.Ways.{Numbered, ways}
use Rattle.lasting_lines.proofs.Lives.{one_story}
use Rattle.lasting_lines.specs.Batches.{parts, owes_all}
use Rattle.lasting_lines.specs.Files.{written}
use Rattle.lasting_lines.specs.Lines.{after, done_text}
use Rattle.lasting_lines.specs.Serving.{state, owed, IsPrefix}
use Rattle.lasting_lines.specs.declared.played.Played.{Played}
use Rattle.node_lines.specs.declared.events.NodeEvent.{NodeEvent}
use Rattle.node_lines.specs.declared.events.Start.{Start}
use Rattle.lasting_node.proofs.Resent.{resent-signed}
use Rattle.lasting_node.proofs.Sending.{more-answered, lines-stand, lines-stay, lines-send}
use Rattle.lasting_node.proofs.Sent.{Stays, same, then}
use Rattle.lasting_node.proofs.Standing.{IsMachine, standing, new-stands}
use Rattle.lasting_node.specs.Laws.{Keeps, machine_after, batches_in, made_by, Answer, answer_text, response_text, answer_if, answers_to, responses, AreSent, Lasts, NodesLast}
use Rattle.lasting_node.specs.Machines.{taken, answer, line_ways, node_ways, unplayed}
use Rattle.lasting_node.specs.Runs.{id_of, signer_of}
use Rattle.lasting_node.specs.declared.machine.NodeMachine.{NodeMachine}
use Rattle.lasting_node.specs.declared.taking.NotTaken.{NotTaken}

-- ---- records

state-stays : (batches : List (List ℕ)) (p : Played NodeMachine) → Stays p.machine.node (state node_ways p batches).machine.node
state-stays [] p = same p.machine.node
state-stays (batch ∷ batches) p =
    then p.machine.node (after node_ways p batch).machine.node (state node_ways (after node_ways p batch) batches).machine.node
    (lines-stay (parts batch) p.machine) (state-stays batches (after node_ways p batch))

-- ---- what is written

flat-append : (some more : List Answer) → flat_map answer_text (some ++ more) ≡ flat_map answer_text some ++ flat_map answer_text more
flat-append [] more = refl
flat-append (a ∷ some) more =
    ap (λ (text : List ℕ). answer_text a ++ text) (flat-append some more)
    ∙ sym (append_assoc (answer_text a) (flat_map answer_text some) (flat_map answer_text more))

answer-text : (m : NodeMachine) (event : Result NodeEvent NotTaken) → answer m event ≡ flat_map answer_text (answer_if m event)
answer-text m (Err why) = refl
answer-text m (Ok event) = sym (append-nil (answer m (Ok event)))

lines-text : (lines : List (List ℕ)) (m : NodeMachine) → owes_all line_ways m lines ≡ flat_map answer_text (answers_to m lines)
lines-text [] m = refl
lines-text (line ∷ lines) m =
    ap (λ (text : List ℕ). text ++ owes_all line_ways (line_ways.next m line) lines) (answer-text m (taken m line))
    ∙ ap (λ (text : List ℕ). flat_map answer_text (answer_if m (taken m line)) ++ text) (lines-text lines (line_ways.next m line))
    ∙ sym (flat-append (answer_if m (taken m line)) (answers_to (line_ways.next m line) lines))

responses-text : (batches : List (List ℕ)) (p : Played NodeMachine) → owed node_ways p batches ≡ flat_map response_text (responses p batches)
responses-text [] p = refl
responses-text (batch ∷ batches) p =
    ap (λ (text : List ℕ). (text ++ done_text (after node_ways p batch).count (after node_ways p batch).mark) ++ owed node_ways (after node_ways p batch) batches)
    (lines-text (parts batch) p.machine)
    ∙ ap (λ (text : List ℕ). (flat_map answer_text (answers_to p.machine (parts batch)) ++ done_text (after node_ways p batch).count (after node_ways p batch).mark) ++ text)
    (responses-text batches (after node_ways p batch))

-- ---- the laws

-- A node stands by its place, and by any other way that is kept and says that its challenges are its own.
module _ {Other : List Entry → Numbered → Type 0} (kept : AreKept ways Other) (owns : ChallengesAreOwn ways Other is_lost told) where
  abbrev Both : List Entry → Numbered → Type 0
  Both h p = IsPlaced h p × Other h p

  both-kept : AreKept ways Both
  both-kept =
      record {
        fresh = λ h number signer fresh. (nodes_are_kept.fresh h number signer fresh, kept.fresh h number signer fresh);
        saw = λ h entries p legal next st. (nodes_are_kept.saw h entries p legal next st.0, kept.saw h entries p legal next st.1);
        commanded = λ h step command p legal st. (nodes_are_kept.commanded h step command p legal st.0, kept.commanded h step command p legal st.1);
        handled = λ h bytes p legal st. (nodes_are_kept.handled h bytes p legal st.0, kept.handled h bytes p legal st.1);
        ticked = λ h p legal st. (nodes_are_kept.ticked h p legal st.0, kept.ticked h p legal st.1);
        watched = λ h entries l place p legal looks st. (
          nodes_are_kept.watched h entries l place p legal looks st.0,
          kept.watched h entries l place p legal looks st.1,
        );
        grows = λ h e p legal st. (nodes_are_kept.grows h e p legal st.0, kept.grows h e p legal st.1);
        within = λ h p st. nodes_are_kept.within h p st.0;
        honest = λ h p legal valid st. nodes_are_kept.honest h p legal valid st.0;
      }

  is-placed : (h : List Entry) (p : Numbered) → Both h p → IsPlaced h p
  is-placed h p st = st.0

  both-own : ChallengesAreOwn ways Both (λ p. p.node.is_lost) told
  both-own h p st able = owns h p st.1 able

  -- ---- records

  state-stands : (key : List ℕ) (batches : List (List ℕ)) (p : Played NodeMachine) → IsMachine Both key p.machine
      → IsMachine Both key (state node_ways p batches).machine
  state-stands key [] p is = is
  state-stands key (batch ∷ batches) p is =
      state-stands key batches (after node_ways p batch) (lines-stand both-kept is-placed both-own key (parts batch) p.machine is)

  state-sends : (key : List ℕ) (batches : List (List ℕ)) (p : Played NodeMachine) → IsMachine Both key p.machine
      → AllByRecursion (AreSent (made_by (state node_ways p batches).machine.node)) (responses p batches)
  state-sends key [] p is = tt
  state-sends key (batch ∷ batches) p is = (
    more-answered (after node_ways p batch).machine.node (state node_ways (after node_ways p batch) batches).machine.node
        (state-stays batches (after node_ways p batch)) (answers_to p.machine (parts batch))
        (lines-send both-kept is-placed both-own key (parts batch) p.machine is),
    state-sends key batches (after node_ways p batch) (lines-stand both-kept is-placed both-own key (parts batch) p.machine is),
  )

  -- ---- one machine

  by-rules : (key : List ℕ) (m : NodeMachine) → IsMachine Both key m → IsByRules m.ledger (ways.key m.node) (told m.node)
  by-rules key m is = nodes_play m.ledger m.node is.node.legal is.valid is.node.stands.0

  keeps-so : (key : List ℕ) (m : NodeMachine) → IsMachine Both key m → Keeps m
  keeps-so key m is =
      record {
        honest =
            is_honest m.ledger (ways.key m.node) (told m.node) (nodes_are_kept.honest m.ledger m.node is.node.legal is.valid is.node.stands.0)
            (by-rules key m is);
        challenges = owns m.ledger m.node is.node.stands.1 is.node.able;
        again = resent-signed m.node;
        safe = λ valid unforged none in_time.
            network-safe m.ledger (lines_of (ways.key m.node) (told m.node)) valid (ways.key m.node) is.node.legal
            (nodes_are_kept.honest m.ledger m.node is.node.legal is.valid is.node.stands.0) unforged none in_time;
        keeps = nodes_hold m.ledger m.node is.node.legal is.node.stands.0;
      }

  pub nodes_last : NodesLast
  nodes_last signer fresh =
      record {
        stands = λ batches. standing both-kept is-placed key (machine_after signer batches) (after-stands batches);
        keeps = λ batches. keeps-so key (machine_after signer batches) (after-stands batches);
        once = λ runs file lives left. record {
          story =
              subst (λ (text : List ℕ). AllByRecursion (λ run. IsPrefix (written run.before run.ops) text) runs)
              (responses-text (batches_in signer file) (unplayed signer)) (one_story node_ways (unplayed signer) runs file lives left);
          sent = state-sends key (batches_in signer file) (unplayed signer) (new-stands both-kept is-placed signer fresh);
          once =
              signs_once (machine_after signer (batches_in signer file)).ledger (ways.key (machine_after signer (batches_in signer file)).node)
              (told (machine_after signer (batches_in signer file)).node)
              (by-rules key (machine_after signer (batches_in signer file)) (after-stands (batches_in signer file)));
        };
      }
    where
      key : List ℕ
      key = made_key signer.seed signer.id signer.h

      after-stands : (batches : List (List ℕ)) → IsMachine Both key (machine_after signer batches)
      after-stands batches = state-stands key batches (unplayed signer) (new-stands both-kept is-placed signer fresh)

-- ---- the key of a first line

id-long : (seed : List ℕ) → length (id_of seed) ≡ 16
unfolding id_of
id-long seed = omega (arith, length-take 16 (sha256 (codes "id" ++ seed)), length-sha256 (codes "id" ++ seed))

pub started_last : NodesLast → (start : Start) → IsHeight start.h → Lasts (signer_of start)
started_last last start height = last (signer_of start) (record { id = id-long start.seed; height = height; unused = refl })
