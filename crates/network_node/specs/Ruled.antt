-- The journal of a node is one that its rules give, event for event.
use Rattle.std.proofs.Common.{◌≡◌, ℕ, Bool, true, false, cond, List, refl, subst}
use Rattle.std.specs.Prelude.{Option, Some, None, is_none}
use Rattle.channel_values.specs.Parts.{StateParts}
use Rattle.call_history.specs.declared.entry.Entry.{Entry}
use Rattle.call_history.specs.declared.event.Deed.{Deed}
use Rattle.call_history.specs.declared.event.Deed.TheVariants as deeds
use Rattle.channel_safety.proofs.Tests.{none-eq, is-none}
use Rattle.channel_values.specs.Rules.{Rules}
use Rattle.channel_store.specs.Storing.{kept_of}
use Rattle.channel_store.specs.declared.kept.Kept.{Kept}
use Rattle.network.specs.declared.command.Command.{Command}
use Rattle.channel_node.proofs.Keys.{made_keys_sign_well}
use Rattle.channel_node.proofs.Bridging.{plays-at}
use Rattle.channel_node.proofs.Exits.{played_journals_leave_for_good}
use Rattle.channel_node.specs.Minds.{Mind, facts_of}
use Rattle.channel_node.specs.Nodes.{told_of}
use Rattle.channel_node.specs.Places.{mind_at}
use Rattle.channel_node.specs.Playing.{Signing, signing_of, signings, pending, Allowed, Plays}
use Rattle.channel_node.specs.Refusing.{not_open, wish_staying, if_signable, signs_of, signs_in}
use Rattle.channel_node.specs.Tables.{Tables}
use Rattle.stage_tables.specs.Stages.{stages}
use Rattle.node_guarantees.proofs.Kept.{few-values}
use Rattle.node_guarantees.specs.Commanded.{told}
use Rattle.node_guarantees.specs.Ways.{ways}
use Rattle.node_guarantees.specs.Placed.{IsPlaced}
use Rattle.share_laws.specs.Kept.{is_signing}
use Rattle.support_rules.specs.Real.{real}
use Rattle.node_guarantees.specs.Telling.{JournalsAreByRules}

-- what no payment made is signed only while all is open
signs-open : (t : Tables) (r : Rules) (m : Mind) (channel : List ℕ) (state : StateParts) → signs_in t r None m channel ≡ Some state → not_open t (facts_of m) ≡ None
signs-open t r m channel state e = at (kept_of channel m.kept) e
  where
    at : (o : Option Kept) → signs_of t r None m channel o ≡ Some state → not_open t (facts_of m) ≡ None
    at None e = absurd (none-eq state e)
    at (Some k) e = go m.left e
      where
        test : (b : Bool) → is_none (not_open t (facts_of m)) ≡ b → if_signable r (facts_of m) channel k (cond b (t.wanted (facts_of m) channel) None) ≡ Some state
            → not_open t (facts_of m) ≡ None
        test true is e = is-none (not_open t (facts_of m)) is
        test false is e = absurd (none-eq state e)

        go : (b : Bool) → if_signable r (facts_of m) channel k (cond b None (wish_staying t None m channel k)) ≡ Some state → not_open t (facts_of m) ≡ None
        go true e = absurd (none-eq state e)
        go false e = test (is_none (not_open t (facts_of m))) refl e

allowed-open : (t : Tables) (r : Rules) (s : Signing) (past : List Entry) (m : Mind) (used : ℕ) (waits : Option Command) (deed : Deed) (command : Option Command)
    → Allowed t r s past m used waits deed command → is_signing deed ≡ true → waits ≡ None → not_open t (facts_of m) ≡ None
allowed-open t r s past m used waits (deeds.Signed channel state signature) command allowed is none =
    signs-open t r m channel state (subst (λ (w : Option Command). signs_in t r w m channel ≡ Some state) none allowed.0)
allowed-open t r s past m used waits (deeds.Commanded step refusal) command allowed is none = absurd cc
allowed-open t r s past m used waits (deeds.Handled bytes refusal) command allowed is none = absurd cc
allowed-open t r s past m used waits (deeds.SignedChallenge channel state who signature) command allowed is none = absurd cc
allowed-open t r s past m used waits (deeds.Called call) command allowed is none = absurd cc
allowed-open t r s past m used waits (deeds.Watched watcher calls) command allowed is none = absurd cc

pub nodes_play : JournalsAreByRules ways IsPlaced told
unfolding signing_of
nodes_play h p legal valid placed =
    record {
      signer = p.node.signer;
      fits = placed.sound;
      owns = refl;
      signs = made_keys_sign_well p.node.signer placed.sound;
      plays = plays;
      leaves = λ newer x front is. played_journals_leave_for_good stages real (signing_of p.node.signer) h newer x front legal (subst (Plays stages real (signing_of p.node.signer) h) is plays);
      live = λ newer x front later past is signing none split seen.
          allowed-open stages real (signing_of p.node.signer) past (mind_at real (signing_of p.node.signer).key past front) (signings front) (pending front) x.deed x.command
          ((plays-at stages real (signing_of p.node.signer) h newer x front (subst (Plays stages real (signing_of p.node.signer) h) is plays)).place later past split seen).1 signing none;
    }
  where
    plays : Plays stages real (signing_of p.node.signer) h (told_of p.node)
    plays = (placed.stands (few-values h valid)).plays
