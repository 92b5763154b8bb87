-- What is kept of a channel keeps its name, and its own place there.
use Rattle.std.proofs.Common.{◌≡◌, ℕ, zero, suc, Bool, true, false, cond, List, [], ◌∷◌, ◌++◌, map, refl, sym, ◌∙◌, subst, inl, inr}
use Rattle.std.specs.Prelude.{Option, Some, None, Result, Ok, Err, slice_set}
use Rattle.std.specs.List.{AllByRecursion, slice_get}
use Rattle.channel_values.specs.Parts.{FixedParts}
use Rattle.channel_values.specs.declared.chain.Signed.{Signed}
use Rattle.channel_values.specs.declared.fault.ByteFault.{ByteFault}
use Rattle.channel_safety.proofs.Tests.{some-eq, none-eq}
use Rattle.channel_safety.specs.Journals.{In}
use Rattle.call_history.proofs.Names.{same_bytes}
use Rattle.call_history.specs.History.{is_accepted}
use Rattle.call_history.specs.Reading.{message_of}
use Rattle.call_history.specs.Rows.{fixed_of}
use Rattle.call_history.specs.Spelling.{Message}
use Rattle.call_history.specs.declared.entry.Entry.{Entry}
use Rattle.call_history.specs.declared.event.Deed.TheVariants as deeds
use Rattle.call_history.specs.declared.event.NodeRefusal.{NodeRefusal}
use Rattle.channel_store.specs.Keeping.{noting, adopting}
use Rattle.channel_store.specs.Storing.{is_of, place_of, kept_of, kept_at, kept_with}
use Rattle.channel_store.specs.declared.kept.Kept.{Kept}
use Rattle.history_view.specs.Views.{view_of}
use Rattle.network.specs.declared.command.Command.{Command}
use Rattle.network.specs.declared.command.Command.TheVariants.{Open, OpenOn, OpenVirtual, Pay, Close, Release, Resend, Exit}
use Rattle.channel_node.specs.Minds.{Mind, saw, shown_by, kept_seeing, noted, noted_message, with_opened, commanded, did}
use Rattle.channel_node.proofs.Agreeing.{among, filtered}
use Rattle.channel_node.specs.Openings.{opened_by, takes_part, adds, opened}
use Rattle.channel_store.proofs.Places.{found_at_place, found_passes}
use Rattle.support_rules.specs.Real.{real}
use Rattle.fairness_laws.specs.Owning.{IsNamed, IsMindOf}

module _ (key : List ℕ) where
  abbrev pub AreNamed : List Kept → Type 0
  AreNamed = AllByRecursion (IsNamed key)

  got : (kept : List Kept) (i : ℕ) (k : Kept) → AreNamed kept → slice_get kept i ≡ Some k → IsNamed key k
  got [] i k all e = absurd (none-eq k e)
  got (x ∷ kept) zero k all e = subst (IsNamed key) (some-eq x k e) all.0
  got (x ∷ kept) (suc i) k all e = got kept i k all.1 e

  set-named : (kept : List Kept) (i : ℕ) (k : Kept) → AreNamed kept → IsNamed key k → AreNamed (slice_set kept i k)
  set-named [] i k all is = tt
  set-named (x ∷ kept) zero k all is = (is, all.1)
  set-named (x ∷ kept) (suc i) k all is = (all.0, set-named kept i k all.1 is)

  append-named : (kept more : List Kept) → AreNamed kept → AreNamed more → AreNamed (kept ++ more)
  append-named [] more all rest = rest
  append-named (x ∷ kept) more all rest = (all.0, append-named kept more all.1 rest)

  -- what is kept of a channel is of its name
  pub found-named : (channel : List ℕ) (kept : List Kept) (k : Kept) → AreNamed kept → kept_of channel kept ≡ Some k → IsNamed key k
  found-named channel kept k all e = got kept (place_of channel kept) k all e

  pub named-so : (channel : List ℕ) (kept : List Kept) (k : Kept) → AreNamed kept → kept_of channel kept ≡ Some k → real.named k.chain.fixed ≡ channel
  named-so channel kept k all e =
      (found-named channel kept k all e).name ∙ same_bytes k.channel channel (found_passes (is_of channel) kept k (sym (found_at_place (is_of channel) kept) ∙ e))

  changed : (change : Kept → Kept) → ((k : Kept) → IsNamed key k → IsNamed key (change k)) → (channel : List ℕ) (kept : List Kept) → AreNamed kept → AreNamed (kept_with change channel kept)
  changed change keeps channel kept all = go (kept_of channel kept) refl
    where
      go : (o : Option Kept) → kept_of channel kept ≡ o → AreNamed (kept_at change kept (place_of channel kept) o)
      go None e = all
      go (Some k) e = set-named kept (place_of channel kept) (change k) all (keeps k (got kept (place_of channel kept) k all e))

  noted-named : (own : Bool) (channel : List ℕ) (s : Signed) (m : Mind) → IsMindOf key m → IsMindOf key (noted real own channel s m)
  noted-named own channel s m is = record {
    same = is.same;
    named = changed (noting real own s) (λ k it. record { name = it.name; mine = it.mine }) channel m.kept is.named;
  }

  -- ---- entries

  pub saw-named : (e : Entry) (m : Mind) → IsMindOf key m → IsMindOf key (saw real e m)
  saw-named e m is = record { same = is.same; named = go (is_accepted e.reply) }
    where
      of-part : (o : Option FixedParts) → AreNamed (kept_seeing real m.view e.op o m.kept)
      of-part None = is.named
      of-part (Some f) =
          changed (adopting real (shown_by e.op (view_of m.view.channels (real.named f)).shown)) (λ k it. record { name = it.name; mine = it.mine })
          (real.named f) m.kept is.named

      go : (b : Bool) → AreNamed (cond b (kept_seeing real m.view e.op (fixed_of e.op) m.kept) m.kept)
      go true = of-part (fixed_of e.op)
      go false = is.named

  -- ---- events

  opened-named : (fs : List FixedParts) → ((f : FixedParts) → In f fs → takes_part key f ≡ true) → AreNamed (map (opened real key) fs)
  opened-named [] takes = tt
  opened-named (f ∷ fs) takes = (record { name = refl; mine = among key f (takes f (inl refl)) }, opened-named fs (λ g i. takes g (inr i)))

  with-opened : (command : Command) (m : Mind) → IsMindOf key m → IsMindOf key (with_opened real command m)
  with-opened command m is = record {
    same = is.same;
    named =
        append-named m.kept (map (opened real m.key) (adds m.key (Some command))) is.named
        (subst (λ (own : List ℕ). AreNamed (map (opened real own) (adds own (Some command)))) (sym is.same)
        (opened-named (adds key (Some command)) (filtered key (opened_by command))));
  }

  commanded-named : (command : Command) (m : Mind) → IsMindOf key m → IsMindOf key (commanded real command m)
  commanded-named (Open f outcome) m is = with-opened (Open f outcome) m is
  commanded-named (OpenOn o) m is = with-opened (OpenOn o) m is
  commanded-named (OpenVirtual v) m is = with-opened (OpenVirtual v) m is
  commanded-named (Pay channel asset amount) m is = is
  commanded-named (Close channel) m is = record { same = is.same; named = is.named }
  commanded-named (Release how channel) m is = record { same = is.same; named = is.named }
  commanded-named (Resend channel) m is = is
  commanded-named Exit m is = record { same = is.same; named = is.named }

  pub command-named : (step : ℕ) (refusal : Option NodeRefusal) (command : Command) (m : Mind) → IsMindOf key m → IsMindOf key (did real (deeds.Commanded step refusal) (Some command) m)
  command-named step None command m is = commanded-named command m is
  command-named step (Some refusal) command m is = is

  message-named : (read : Result Message ByteFault) (m : Mind) → IsMindOf key m → IsMindOf key (noted_message real read m)
  message-named (Ok message) m is = noted-named false message.0 message.1 m is
  message-named (Err fault) m is = is

  pub handled-named : (bytes : List ℕ) (refusal : Option NodeRefusal) (m : Mind) → IsMindOf key m → IsMindOf key (did real (deeds.Handled bytes refusal) None m)
  handled-named bytes None m is = message-named (message_of bytes) m is
  handled-named bytes (Some refusal) m is = is

  pub signed-named : (channel : List ℕ) (s : Signed) (m : Mind) → IsMindOf key m → IsMindOf key (noted real true channel s m)
  signed-named channel s m is = noted-named true channel s m is
