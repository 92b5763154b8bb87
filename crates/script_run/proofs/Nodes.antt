-- What a node does in a tick, with a message and with a command, by what it knows.
use Rattle.std.proofs.Common.{◌≡◌, ℕ, suc, Bool, true, false, cond, List, [], ◌∷◌, ◌++◌, refl, sym, ◌∙◌, ap, subst}
use Rattle.std.specs.Prelude.{nat_lt, Option, Some, None, Result, Ok, is_some}
use Rattle.channel_values.specs.Parts.{StateParts}
use Rattle.channel_values.specs.declared.chain.Mark.{Mark}
use Rattle.channel_values.specs.declared.chain.Signed.{Signed}
use Rattle.channel_values.specs.declared.fault.ByteFault.{ByteFault}
use Rattle.channel_values.specs.Digests.{name_of_person}
use Rattle.channel_values.specs.Messages.{message_of_state}
use Rattle.channel_values.specs.Rules.{Rules}
use Rattle.call_history.specs.Reading.{message_of}
use Rattle.call_history.specs.Spelling.{Message, message}
use Rattle.call_history.specs.declared.call.Call.{Call}
use Rattle.call_history.specs.declared.event.Deed.TheVariants as deeds
use Rattle.call_history.specs.declared.event.NodeRefusal.{NodeRefusal}
use Rattle.call_history.specs.declared.view.WorldView.{WorldView}
use Rattle.call_history.proofs.Names.{bytes_eq_self}
use Rattle.network.specs.declared.command.Command.{Command}
use Rattle.network.specs.declared.command.Command.TheVariants.{Open, Pay, Close}
use Rattle.network.specs.declared.outs.Outs.{Outs}
use Rattle.std.specs.Option.{option_or}
use Rattle.channel_values.specs.declared.value.AssetOutcome.{AssetOutcome}
use Rattle.history_view.specs.Views.{unseen}
use Rattle.channel_node.specs.Leaving.{calls_of}
use Rattle.channel_node.specs.Giving.{after_tick, tick_gives, command_answers, command_gives, sent_if, spent_if, challenge_calls, spent_challenging, sends_of}
use Rattle.channel_node.specs.Minds.{Mind, fresh, noted, noted_message, facts_of, commanded, did}
use Rattle.channel_node.specs.Nodes.{NodeOf, gave, handled, told_to, wrote, asked, paid_if, exited, signed, signed_if, challenged_all}
use Rattle.channel_node.specs.Playing.{Signing, SignerOf}
use Rattle.channel_node.specs.Refusing.{signs_in, message_refusal, command_refusal}
use Rattle.stage_tables.specs.Stages.{calls_in}
use Rattle.script_run.specs.Table.{stages}
use Rattle.script_run.proofs.Pasts.{grown}
use Rattle.script_run.specs.Pair.{mind, node, Becomes, Past}
use Rattle.script_run.specs.TwoPeople.{Pair, fixed, name}
use Rattle.script_run.proofs.Notes.{by}

abbrev pub Letters : Type 0
Letters = List (List ℕ × List ℕ)

-- a tick makes this of the node, and gives this
pub record Ticks (r : Rules) (s : Signing) (n : NodeOf) (signer : SignerOf) (m : Mind) (used : ℕ) (sends : Letters) (calls : List Call) : Type 0 where
  pub becomes : Becomes signer m used (after_tick stages r s n)
  pub gives : tick_gives stages r s n ≡ record { sends = sends; calls = calls; spent = None }

-- it didn't leave
gave_stays : (calls : List Call) (signer : SignerOf) (r : Rules) (p : Pair) (me : ℕ) (key : List ℕ) (closing : Bool) (view : WorldView) (states : List StateParts) (marks : List Mark) (last : Option StateParts) (used : ℕ) (journal : Past) (commands : List Command)
    → Becomes signer (mind r p me key closing view states marks last) used (exited (gave calls (node signer (mind r p me key closing view states marks last) used journal commands)))
gave_stays [] signer r p me key closing view states marks last used journal commands = record { journal = journal; commands = commands; is = refl }
gave_stays (call ∷ calls) signer r p me key closing view states marks last used journal commands = gave_stays calls signer r p me key closing view states marks last used (grown journal (record { seen = view.count; deed = deeds.Called call }) refl) commands

module _ (r : Rules) (s : Signing) (channel : List ℕ) where
  -- what a tick does after its states are signed
  abbrev calls_then : NodeOf → List Call
  calls_then n = challenge_calls r s (channel ∷ []) n ++ calls_of stages (challenged_all r s (channel ∷ []) n).has_exited (challenged_all r s (channel ∷ []) n).mind

  abbrev then : NodeOf → NodeOf
  then n = exited (gave (calls_then n) (challenged_all r s (channel ∷ []) n))

  abbrev outs_of : Letters → Option ℕ → NodeOf → Outs
  outs_of sends spent n =
      record {
        sends = sends ++ [];
        calls = calls_then n;
        spent = option_or (option_or spent None) (spent_challenging r s (channel ∷ []) n);
      }

abbrev outs : Letters → List Call → Outs
outs sends calls = record { sends = sends; calls = calls; spent = None }

module _ (r : Rules) (p : Pair) (s : Signing) (signer : SignerOf) (me : ℕ) (key : List ℕ) (closing : Bool) (view : WorldView) (states : List StateParts) (marks : List Mark) (last : Option StateParts) (used : ℕ) (journal : Past) (commands : List Command) where
  abbrev here : NodeOf
  here = node signer (mind r p me key closing view states marks last) used journal commands

  abbrev given : Option StateParts → Outs
  given o = outs_of r s (name r p) (sent_if r s (name r p) o here) (spent_if s o here) (signed_if r s (name r p) o here)

  pub tick_waits : (calls : List Call) → signs_in stages r None (mind r p me key closing view states marks last) (name r p) ≡ None
      → calls_in (facts_of (mind r p me key closing view states marks last)) ≡ calls
      → Ticks r s here signer (mind r p me key closing view states marks last) used [] calls
  tick_waits calls waits called =
      record {
        becomes = subst (Becomes signer (mind r p me key closing view states marks last) used)
            (sym (ap (λ (o : Option StateParts). then r s (name r p) (signed_if r s (name r p) o here)) waits ∙ ap (λ (cs : List Call). exited (gave cs here)) called))
            (gave_stays calls signer r p me key closing view states marks last used journal commands);
        gives = ap given waits ∙ ap (outs []) called;
      }

  abbrev signature : StateParts → List ℕ
  signature state = s.made used (message_of_state (r.digest (name r p) state))

  abbrev signed_with : StateParts → Mind → NodeOf
  signed_with state m = record (wrote (deeds.Signed (name r p) state (signature state)) m here) { used = suc used }

  pub tick_signs : (state : StateParts) (to : List ℕ) (next : List StateParts) (with : List Mark) (own : Option StateParts) (calls : List Call) → nat_lt used s.limit ≡ true
      → signs_in stages r None (mind r p me key closing view states marks last) (name r p) ≡ Some state
      → noted r true (name r p) (by state (signature state)) (mind r p me key closing view states marks last) ≡ mind r p me key closing view next with own
      → sends_of (mind r p me key closing view next with own) (name r p) state (signature state) ≡ (to, message (name r p, by state (signature state))) ∷ []
      → calls_in (facts_of (mind r p me key closing view next with own)) ≡ calls
      → Ticks r s here signer (mind r p me key closing view next with own) (suc used) ((to, message (name r p, by state (signature state))) ∷ []) calls
  tick_signs state to next with own calls unspent signs notes sends called =
      record {
        becomes = subst (Becomes signer (mind r p me key closing view next with own) (suc used))
            (sym (ap (λ (o : Option StateParts). then r s (name r p) (signed_if r s (name r p) o here)) signs
            ∙ ap (λ (b : Bool). then r s (name r p) (cond b (signed r s (name r p) state here) here)) unspent
            ∙ ap (λ (m : Mind). then r s (name r p) (signed_with state m)) notes
            ∙ ap (λ (cs : List Call). exited (gave cs (signed_with state (mind r p me key closing view next with own)))) called))
            (gave_stays calls signer r p me key closing view next with own (suc used) (grown journal (record { seen = view.count; deed = deeds.Signed (name r p) state (signature state) }) refl) commands);
        gives = ap given signs
            ∙ ap (λ (b : Bool). outs_of r s (name r p) (cond b (sends_of (signed r s (name r p) state here).mind (name r p) state (signature state)) []) (cond b None (Some used)) (cond b (signed r s (name r p) state here) here)) unspent
            ∙ ap (λ (m : Mind). outs_of r s (name r p) (sends_of m (name r p) state (signature state)) None (signed_with state m)) notes
            ∙ ap (λ (letters : Letters). outs (letters ++ []) (calls_in (facts_of (mind r p me key closing view next with own)))) sends
            ∙ ap (outs ((to, message (name r p, by state (signature state))) ∷ [])) called;
      }

  -- ---- a message

  pub handles : (bytes : List ℕ) (from : Signed) (next : List StateParts) (with : List Mark) (own : Option StateParts)
      → message_of bytes ≡ Ok (name r p, from)
      → message_refusal stages r (mind r p me key closing view states marks last) (Ok (name r p, from)) ≡ None
      → noted r false (name r p) from (mind r p me key closing view states marks last) ≡ mind r p me key closing view next with own
      → Becomes signer (mind r p me key closing view next with own) used (handled stages r bytes here)
  handles bytes from next with own reads takes notes =
      subst (Becomes signer (mind r p me key closing view next with own) used)
      (sym (ap (λ (o : Option NodeRefusal). wrote (deeds.Handled bytes o) (did r (deeds.Handled bytes o) None here.mind) here) (ap (message_refusal stages r here.mind) reads ∙ takes)
      ∙ ap (λ (m : Result Message ByteFault). wrote (deeds.Handled bytes None) (noted_message r m here.mind) here) reads
      ∙ ap (λ (m : Mind). wrote (deeds.Handled bytes None) m here) notes))
      (record { journal = grown journal (record { seen = view.count; deed = deeds.Handled bytes None }) refl; commands = commands; is = refl })

  -- one that is refused changes nothing
  pub handles_late : (bytes : List ℕ) (from : Signed) → message_of bytes ≡ Ok (name r p, from)
      → is_some (message_refusal stages r (mind r p me key closing view states marks last) (Ok (name r p, from))) ≡ true
      → Becomes signer (mind r p me key closing view states marks last) used (handled stages r bytes here)
  handles_late bytes from reads late =
      subst (λ (o : Option NodeRefusal). Becomes signer here.mind used (wrote (deeds.Handled bytes o) (did r (deeds.Handled bytes o) None here.mind) here))
      (sym (ap (message_refusal stages r here.mind) reads)) (go (message_refusal stages r here.mind (Ok (name r p, from))) late)
    where
      go : (o : Option NodeRefusal) → is_some o ≡ true → Becomes signer here.mind used (wrote (deeds.Handled bytes o) (did r (deeds.Handled bytes o) None here.mind) here)
      go None e = absurd cc
      go (Some why) e = record { journal = grown journal (record { seen = view.count; deed = deeds.Handled bytes (Some why) }) refl; commands = commands; is = refl }

  -- ---- commands

  pub told_close : (step : ℕ) → command_refusal stages r s.limit used (mind r p me key closing view states marks last) (Close (name r p)) ≡ None
      → commanded r (Close (name r p)) (mind r p me key closing view states marks last) ≡ mind r p me key true view states marks last
      → Becomes signer (mind r p me key true view states marks last) used (told_to stages r s step (Close (name r p)) here)
  told_close step allowed becomes =
      subst (Becomes signer (mind r p me key true view states marks last) used)
      (sym (ap (λ (o : Option NodeRefusal). paid_if stages r s o (Close (name r p)) (asked r s step (Close (name r p)) o here)) allowed
      ∙ ap (λ (m : Mind). record (wrote (deeds.Commanded step None) m here) { commands = commands ++ Close (name r p) ∷ [] }) becomes))
      (record { journal = grown journal (record { seen = view.count; deed = deeds.Commanded step None }) refl; commands = commands ++ Close (name r p) ∷ []; is = refl })

  abbrev pub asked_to_pay : ℕ → ℕ → NodeOf
  asked_to_pay step amount = asked r s step (Pay (name r p) p.asset amount) None here

  pub told_pay : (step amount : ℕ) (state : StateParts) (next : List StateParts) (with : List Mark) (own : Option StateParts) → nat_lt used s.limit ≡ true
      → command_refusal stages r s.limit used (mind r p me key closing view states marks last) (Pay (name r p) p.asset amount) ≡ None
      → signs_in stages r (Some (Pay (name r p) p.asset amount)) (mind r p me key closing view states marks last) (name r p) ≡ Some state
      → noted r true (name r p) (by state (signature state)) (mind r p me key closing view states marks last) ≡ mind r p me key closing view next with own
      → Becomes signer (mind r p me key closing view next with own) (suc used) (told_to stages r s step (Pay (name r p) p.asset amount) here)
  told_pay step amount state next with own unspent allowed signs notes =
      subst (Becomes signer (mind r p me key closing view next with own) (suc used))
      (sym (ap (λ (o : Option NodeRefusal). paid_if stages r s o (Pay (name r p) p.asset amount) (asked r s step (Pay (name r p) p.asset amount) o here)) allowed
      ∙ ap (λ (o : Option StateParts). signed_if r s (name r p) o (asked_to_pay step amount)) signs
      ∙ ap (λ (b : Bool). cond b (signed r s (name r p) state (asked_to_pay step amount)) (asked_to_pay step amount)) unspent
      ∙ ap (λ (m : Mind). record (wrote (deeds.Signed (name r p) state (signature state)) m (asked_to_pay step amount)) { used = suc used }) notes))
      (record {
        journal = grown (grown journal (record { seen = view.count; deed = deeds.Commanded step None }) refl) (record { seen = view.count; deed = deeds.Signed (name r p) state (signature state) }) refl;
        commands = commands ++ Pay (name r p) p.asset amount ∷ [];
        is = refl;
      })

  pub answers_pay : (amount : ℕ) (state : StateParts) (to : List ℕ) (next : List StateParts) (with : List Mark) (own : Option StateParts) → nat_lt used s.limit ≡ true
      → command_refusal stages r s.limit used (mind r p me key closing view states marks last) (Pay (name r p) p.asset amount) ≡ None
      → signs_in stages r (Some (Pay (name r p) p.asset amount)) (mind r p me key closing view states marks last) (name r p) ≡ Some state
      → noted r true (name r p) (by state (signature state)) (mind r p me key closing view states marks last) ≡ mind r p me key closing view next with own
      → sends_of (mind r p me key closing view next with own) (name r p) state (signature state) ≡ (to, message (name r p, by state (signature state))) ∷ []
      → command_answers stages r s 0 (Pay (name r p) p.asset amount) here ≡ Ok (outs ((to, message (name r p, by state (signature state))) ∷ []) [])
  answers_pay amount state to next with own unspent allowed signs notes sends =
      ap (command_gives stages r s 0 (Pay (name r p) p.asset amount) here) allowed
      ∙ ap (λ (o : Option StateParts). Ok (outs (sent_if r s (name r p) o (asked_to_pay 0 amount)) [])) signs
      ∙ ap (λ (b : Bool). Ok (outs (cond b (sends_of (signed r s (name r p) state (asked_to_pay 0 amount)).mind (name r p) state (signature state)) []) [])) unspent
      ∙ ap (λ (m : Mind). Ok (outs (sends_of m (name r p) state (signature state)) [])) notes
      ∙ ap (λ (letters : Letters). Ok (outs letters [])) sends

-- what is sent goes to the other
pub sends_b : (r : Rules) (p : Pair) (key : List ℕ) (closing : Bool) (view : WorldView) (states : List StateParts) (marks : List Mark) (last : Option StateParts) (state : StateParts) (signature : List ℕ)
    → sends_of (mind r p 0 key closing view states marks last) (name r p) state signature ≡ (name_of_person p.key_b, message (name r p, by state signature)) ∷ []
sends_b r p key closing view states marks last state signature = simp (bytes_eq_self (name r p))

pub sends_a : (r : Rules) (p : Pair) (key : List ℕ) (closing : Bool) (view : WorldView) (states : List StateParts) (marks : List Mark) (last : Option StateParts) (state : StateParts) (signature : List ℕ)
    → sends_of (mind r p 1 key closing view states marks last) (name r p) state signature ≡ (name_of_person p.key_a, message (name r p, by state signature)) ∷ []
sends_a r p key closing view states marks last state signature = simp (bytes_eq_self (name r p))

-- ---- the command to open

pub told_open : (r : Rules) (p : Pair) (s : Signing) (signer : SignerOf) (me : ℕ) (key : List ℕ) (used step : ℕ) (journal : Past) (commands : List Command) (o : List AssetOutcome)
    → command_refusal stages r s.limit used (fresh key) (Open (fixed p) o) ≡ None
    → commanded r (Open (fixed p) o) (fresh key) ≡ mind r p me key false unseen [] [] None
    → Becomes signer (mind r p me key false unseen [] [] None) used (told_to stages r s step (Open (fixed p) o) (node signer (fresh key) used journal commands))
told_open r p s signer me key used step journal commands o allowed becomes =
    subst (Becomes signer (mind r p me key false unseen [] [] None) used)
    (sym (ap (λ (x : Option NodeRefusal). paid_if stages r s x (Open (fixed p) o) (asked r s step (Open (fixed p) o) x (node signer (fresh key) used journal commands))) allowed
    ∙ ap (λ (m : Mind). record (wrote (deeds.Commanded step None) m (node signer (fresh key) used journal commands)) { commands = commands ++ Open (fixed p) o ∷ [] }) becomes))
    (record { journal = grown journal (record { seen = 0; deed = deeds.Commanded step None }) refl; commands = commands ++ Open (fixed p) o ∷ []; is = refl })
