-- What holds of what is kept of a channel, and stays as states are noted and chains adopted, is kept by each event
-- and entry.
use Rattle.std.proofs.Common.{◌≡◌, ℕ, Bool, true, false, cond, List, ◌++◌, refl, ◌∙◌, ap}
use Rattle.std.specs.Prelude.{Option, Some, None, Result, Ok, Err, map}
use Rattle.std.specs.List.{find}
use Rattle.std.specs.Option.{option_map}
use Rattle.std.specs.Str.{bytes_eq}
use Rattle.channel_values.specs.Parts.{FixedParts}
use Rattle.channel_values.specs.Rules.{Rules}
use Rattle.channel_values.specs.declared.chain.Signed.{Signed}
use Rattle.channel_values.specs.declared.fault.ByteFault.{ByteFault}
use Rattle.call_history.specs.History.{is_accepted}
use Rattle.call_history.specs.Marked.{Marked}
use Rattle.call_history.specs.Reading.{message_of}
use Rattle.call_history.specs.Rows.{fixed_of}
use Rattle.call_history.specs.Spelling.{Message}
use Rattle.call_history.specs.declared.entry.Entry.{Entry}
use Rattle.call_history.specs.declared.event.Deed.{Deed}
use Rattle.call_history.specs.declared.event.Deed.TheVariants as deeds
use Rattle.history_view.specs.Views.{view_of}
use Rattle.channel_store.specs.Keeping.{noting, adopting}
use Rattle.channel_store.specs.Storing.{kept_of, kept_with, is_of}
use Rattle.channel_store.specs.declared.kept.Kept.{Kept}
use Rattle.channel_store.proofs.Keeping.{KeepsName, kept_other, kept_here, or_last, kept_append}
use Rattle.network.specs.declared.command.Command.{Command}
use Rattle.network.specs.declared.command.Command.TheVariants.{Open, OpenOn, OpenVirtual, Pay, Close, Release, Resend, Exit}
use Rattle.channel_node.specs.Giving.{signed_here}
use Rattle.channel_node.specs.Minds.{Mind, kept_seeing, shown_by, saw, noted, noted_message, commanded, did}
use Rattle.channel_node.specs.Openings.{adds, opened}

-- the channel is kept, and this holds of what is kept of it
pub record KeptSo (channel : List ℕ) (P : Kept → Type 0) (kept : List Kept) : Type 0 where
  pub k : Kept
  pub is : kept_of channel kept ≡ Some k
  pub holds : P k

module _ (channel : List ℕ) (P : Kept → Type 0) where
  -- what is kept of any channel changes
  changed-so : (change : Kept → Kept) → KeepsName change → ((k : Kept) → P k → P (change k)) → (name : List ℕ) (kept : List Kept) → KeptSo channel P kept
      → KeptSo channel P (kept_with change name kept)
  changed-so change keeps stays name kept h = go (bytes_eq name channel) refl
    where
      go : (b : Bool) → bytes_eq name channel ≡ b → KeptSo channel P (kept_with change name kept)
      go true e = record {
        k = change h.k;
        is = kept_here change keeps name kept channel e ∙ ap (λ (o : Option Kept). option_map change o) h.is;
        holds = stays h.k h.holds;
      }
      go false e = record { k = h.k; is = kept_other change keeps name kept channel e ∙ h.is; holds = h.holds }

  -- other channels are added
  more-so : (kept more : List Kept) → KeptSo channel P kept → KeptSo channel P (kept ++ more)
  more-so kept more h = record {
    k = h.k;
    is = kept_append channel kept more ∙ ap (λ (o : Option Kept). or_last o (find (is_of channel) more)) h.is;
    holds = h.holds;
  }

module _ (r : Rules) (channel : List ℕ) (P : Kept → Type 0) (takes : (x : Signed) (k : Kept) → P k → P (noting r false x k)) where
  module _ (m : Mind) (h : KeptSo channel P m.kept) where
    commanded-so : (command : Command) → KeptSo channel P (commanded r command m).kept
    commanded-so (Open f outcome) = more-so channel P m.kept (map (opened r m.key) (adds m.key (Some (Open f outcome)))) h
    commanded-so (OpenOn o) = more-so channel P m.kept (map (opened r m.key) (adds m.key (Some (OpenOn o)))) h
    commanded-so (OpenVirtual v) = more-so channel P m.kept (map (opened r m.key) (adds m.key (Some (OpenVirtual v)))) h
    commanded-so (Pay paid asset amount) = h
    commanded-so (Close closed) = h
    commanded-so (Release how released) = h
    commanded-so (Resend again) = h
    commanded-so Exit = h

    -- after any event, where it stays if that signs a state of the channel
    pub did-so : (deed : Deed) (command : Option Command) → ((x : Signed) → signed_here channel deed ≡ Some x → (k : Kept) → P k → P (noting r true x k))
        → KeptSo channel P (did r deed command m).kept
    did-so (deeds.Commanded step None) None signs = h
    did-so (deeds.Commanded step None) (Some command) signs = commanded-so command
    did-so (deeds.Commanded step (Some refusal)) None signs = h
    did-so (deeds.Commanded step (Some refusal)) (Some command) signs = h
    did-so (deeds.Handled bytes None) command signs = at (message_of bytes)
      where
        at : (o : Result Message ByteFault) → KeptSo channel P (noted_message r o m).kept
        at (Ok x) = changed-so channel P (noting r false x.1) (λ k. refl) (takes x.1) x.0 m.kept h
        at (Err fault) = h
    did-so (deeds.Handled bytes (Some refusal)) command signs = h
    did-so (deeds.Signed name state signature) command signs = go (bytes_eq name channel) refl signs
      where
        x : Signed
        x = record { state = state; signature = signature }

        go : (b : Bool) → bytes_eq name channel ≡ b → ((y : Signed) → cond b (Some x) None ≡ Some y → (k : Kept) → P k → P (noting r true y k))
            → KeptSo channel P (noted r true name x m).kept
        go true e s = changed-so channel P (noting r true x) (λ k. refl) (s x refl) name m.kept h
        go false e s = record { k = h.k; is = kept_other (noting r true x) (λ k. refl) name m.kept channel e ∙ h.is; holds = h.holds }
    did-so (deeds.SignedChallenge name state who signature) command signs = h
    did-so (deeds.Called call) command signs = h
    did-so (deeds.Watched watcher calls) command signs = h

-- after any entry
pub saw-so : (r : Rules) (channel : List ℕ) (P : Kept → Type 0) → ((w : Marked) (k : Kept) → P k → P (adopting r w k)) → (m : Mind) → KeptSo channel P m.kept → (e : Entry)
    → KeptSo channel P (saw r e m).kept
saw-so r channel P adopts m h e = go (is_accepted e.reply)
  where
    seeing : (o : Option FixedParts) → KeptSo channel P (kept_seeing r m.view e.op o m.kept)
    seeing None = h
    seeing (Some f) =
        let shown : Marked = shown_by e.op (view_of m.view.channels (r.named f)).shown in
        changed-so channel P (adopting r shown) (λ k. refl) (adopts shown) (r.named f) m.kept h

    go : (b : Bool) → KeptSo channel P (cond b (kept_seeing r m.view e.op (fixed_of e.op) m.kept) m.kept)
    go true = seeing (fixed_of e.op)
    go false = h
