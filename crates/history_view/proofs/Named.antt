-- Following where rules name channels as the network does.
use Rattle.std.proofs.Common.{◌≡◌, ℕ, List, ◌∷◌, Some, None, OnOk, refl, sym, ◌∙◌, ap, subst}
use Rattle.std.specs.Prelude.{Option, Result, Ok, Err}
use Rattle.channel_values.specs.Parts.{FixedParts}
use Rattle.channel_values.specs.Rules.{Rules}
use Rattle.call_history.specs.Rows.{fixed_of}
use Rattle.call_history.specs.Told.{told_row}
use Rattle.call_history.specs.History.{time_set, or_before, flow_of, payment_of, Legal}
use Rattle.call_history.specs.declared.call.Op.{Op}
use Rattle.call_history.specs.declared.entry.Entry.{Entry}
use Rattle.call_history.specs.declared.view.ChannelView.{ChannelView}
use Rattle.call_history.specs.declared.view.WorldView.{WorldView}
use Rattle.call_history.specs.Naming.{name_of, NamesChannels}
use Rattle.history_view.specs.Views.{channel_turned, views_with, views_turned, views_moved, views_paid, paid_moved, followed}
use Rattle.history_view.specs.Standing.{StandsFor}
use Rattle.history_view.specs.Few.{OfFew}
use Rattle.history_view.proofs.Stands.{following_keeps_standing}

turned_same : (named other : FixedParts → List ℕ) → ((f : FixedParts) → named f ≡ other f) → (op : Op) (f : Option FixedParts) (told : Option (ℕ × Option ℕ)) (views : List ChannelView)
    → views_turned named op f told views ≡ views_turned other op f told views
turned_same named other same op None told views = refl
turned_same named other same op (Some f) None views = refl
turned_same named other same op (Some f) (Some told) views = ap (λ (channel : List ℕ). views_with (channel_turned op told) channel views) (same f)

followed_same : (r : Rules) (e : Entry) (w : WorldView) → NamesChannels r → followed r.named e w ≡ followed name_of e w
followed_same r e w names =
    ap (λ (views : List ChannelView). record {
      now = or_before (time_set e.op e.reply) w.now;
      count = e.number;
      channels = views_paid (payment_of e.op e.reply) (views_moved (flow_of e.op e.reply) views);
      paid = paid_moved (flow_of e.op e.reply) w.paid;
    }) (turned_same r.named name_of names e.op (fixed_of e.op) (told_row w.now e.op e.reply) w.channels)

-- what was followed stands for the longer history
pub stands_followed : {A E : Type 0} (result : Result A E) (r : Rules) (h : List Entry) (e : Entry) (old new : WorldView) → NamesChannels r → StandsFor r h old → Legal r (e ∷ h) → OfFew (fixed_of e.op)
    → OnOk result (new ≡ followed name_of e old) → OnOk result (StandsFor r (e ∷ h) new)
stands_followed (Ok done) r h e old new names st legal few is =
    subst (λ (w : WorldView). StandsFor r (e ∷ h) w) (followed_same r e old names ∙ sym is) ((following_keeps_standing r h e old legal st).stands few)
stands_followed (Err error) r h e old new names st legal few is = tt
