-- What the calls of a node leave as it is.
use Rattle.std.proofs.Common.{◌≡◌, ℕ, Bool, true, false, cond, List, [], ◌∷◌, refl, sym, ◌∙◌, ap, subst}
use Rattle.std.specs.Prelude.{Option, Some, None}
use Rattle.call_history.specs.declared.call.Call.{Call}
use Rattle.call_history.specs.declared.entry.Entry.{Entry}
use Rattle.call_history.specs.declared.event.NodeRefusal.{NodeRefusal}
use Rattle.call_history.specs.declared.view.WorldView.{WorldView}
use Rattle.channel_node.specs.Exiting.{leaves}
use Rattle.channel_node.specs.Giving.{after_tick}
use Rattle.channel_node.specs.Minds.{Mind, commanded_if}
use Rattle.channel_node.specs.Nodes.{NodeOf, handled, told_to, saw_one, watched}
use Rattle.channel_node.specs.Places.{AreFew}
use Rattle.channel_node.specs.Playing.{signing_of}
use Rattle.channel_node.specs.Refusing.{command_refusal}
use Rattle.channel_node.specs.Standing.{Stands}
use Rattle.channel_node.specs.Tables.{Tables}
use Rattle.network.specs.declared.command.Command.{Command}
use Rattle.network.specs.declared.command.Command.TheVariants.{Open, OpenOn, OpenVirtual, Pay, Close, Release, Resend, Exit}
use Rattle.node_guarantees.proofs.Staying.{Stays, handled-stays, tick-stays, told-stays}
use Rattle.node_guarantees.specs.Ways.{Numbered, seen_of, noting_if, ways}
use Rattle.support_rules.specs.Real.{real}

-- its signer, its view of the history, and whether memory failed it
pub record Leaves (old new : NodeOf) : Type 0 where
  pub signer : new.signer ≡ old.signer
  pub view : new.mind.view ≡ old.mind.view
  pub lost : new.is_lost ≡ old.is_lost

from-stays : (old new : NodeOf) → Stays old new → Leaves old new
from-stays old new is = record { signer = is.signer; view = is.view; lost = is.lost }

pub seen-same : (old new : NodeOf) → Leaves old new → seen_of new ≡ seen_of old
seen-same old new is =
    ap (λ (b : Bool). cond b 0 new.mind.view.count) is.lost ∙ ap (λ (v : WorldView). cond old.is_lost 0 v.count) is.view

unless : (p : Numbered) (new : NodeOf) → Leaves p.node new → Leaves p.node (cond p.node.is_lost p (record p { node = new })).node
unless p new is = go p.node.is_lost
  where
    go : (b : Bool) → Leaves p.node (cond b p (record p { node = new })).node
    go true = record { signer = refl; view = refl; lost = refl }
    go false = is

noting : (b : Bool) (n : NodeOf) (q : Numbered) → Leaves n q.node → Leaves n (noting_if b q).node
noting true n q is = is
noting false n q is = is

exit-view : (refusal : Option NodeRefusal) (m : Mind) → (commanded_if real (Some Exit) refusal m).view ≡ m.view
exit-view None m = refl
exit-view (Some refusal) m = refl

-- The tables are those of a node that stands for a history.
module _ {t : Tables} (h : List Entry) (p : Numbered) (stands : AreFew h → Stands t real (signing_of p.node.signer) h p.node) where
  told-leaves : (step : ℕ) (command : Command) → Leaves p.node (told_to t real (signing_of p.node.signer) step command p.node)
  told-leaves step (Open f outcome) = from-stays p.node _ (told-stays t real (signing_of p.node.signer) step (Open f outcome) p.node refl)
  told-leaves step (OpenOn o) = from-stays p.node _ (told-stays t real (signing_of p.node.signer) step (OpenOn o) p.node refl)
  told-leaves step (OpenVirtual v) = from-stays p.node _ (told-stays t real (signing_of p.node.signer) step (OpenVirtual v) p.node refl)
  told-leaves step (Pay channel asset amount) =
      from-stays p.node _ (told-stays t real (signing_of p.node.signer) step (Pay channel asset amount) p.node refl)
  told-leaves step (Close channel) = from-stays p.node _ (told-stays t real (signing_of p.node.signer) step (Close channel) p.node refl)
  told-leaves step (Release how channel) = from-stays p.node _ (told-stays t real (signing_of p.node.signer) step (Release how channel) p.node refl)
  told-leaves step (Resend channel) = from-stays p.node _ (told-stays t real (signing_of p.node.signer) step (Resend channel) p.node refl)
  told-leaves step Exit =
      record {
        signer = refl;
        view = exit-view (command_refusal t real (signing_of p.node.signer).limit p.node.used p.node.mind Exit) p.node.mind;
        lost = refl;
      }

  pub handled-leaves : (bytes : List ℕ) → Leaves p.node (cond p.node.is_lost p (record p { node = handled t real bytes p.node })).node
  handled-leaves bytes = unless p (handled t real bytes p.node) (from-stays p.node _ (handled-stays t real bytes p.node))

  pub commanded-leaves : (step : ℕ) (command : Command)
      → Leaves p.node (noting_if (leaves command) (cond p.node.is_lost p (record p { node = told_to t real (signing_of p.node.signer) step command p.node }))).node
  commanded-leaves step command =
      noting (leaves command) p.node (cond p.node.is_lost p (record p { node = told_to t real (signing_of p.node.signer) step command p.node }))
      (unless p (told_to t real (signing_of p.node.signer) step command p.node) (told-leaves step command))

  pub ticked-leaves : Leaves p.node (cond p.node.is_lost p (record p { node = after_tick t real (signing_of p.node.signer) p.node })).node
  ticked-leaves =
      unless p (after_tick t real (signing_of p.node.signer) p.node) (from-stays p.node _ (tick-stays t real (signing_of p.node.signer) p.node))

pub watched-leaves : (seen place : ℕ) (calls : List Call) (p : Numbered) → Leaves p.node (ways.watched seen place calls p).node
watched-leaves seen place calls p = unless p (watched seen place calls p.node) (record { signer = refl; view = refl; lost = refl })

-- ---- an entry

-- its signer, and whether memory failed it; it followed the entry
pub record Saw (e : Entry) (p q : Numbered) : Type 0 where
  pub signer : q.node.signer ≡ p.node.signer
  pub able : q.node.is_lost ≡ false
  pub seen : ways.seen q ≡ e.number

pub saw-leaves : (e : Entry) (p : Numbered) → p.node.is_lost ≡ false → Saw e p (ways.saw (e ∷ []) p)
saw-leaves e p able = subst (Saw e p) (sym so) (record { signer = refl; able = able; seen = ap (λ (b : Bool). cond b 0 e.number) able })
  where
    so : ways.saw (e ∷ []) p ≡ record p { node = saw_one real p.node e }
    so = ap (λ (b : Bool). cond b p (record p { node = saw_one real p.node e })) able
