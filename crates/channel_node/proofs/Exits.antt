-- A node signs states until it left, and challenges from then on.
use Rattle.std.proofs.Common.{◌≡◌, ℕ, true, List, sym, ◌∙◌, subst}
use Rattle.channel_values.specs.Parts.{StateParts}
use Rattle.channel_values.specs.Rules.{Rules}
use Rattle.call_history.specs.declared.entry.Entry.{Entry}
use Rattle.call_history.specs.declared.event.Deed.{Deed}
use Rattle.call_history.specs.declared.event.Deed.TheVariants as deeds
use Rattle.channel_safety.proofs.Lists.{Suffix, suffix_of}
use Rattle.channel_node.specs.Leaving.{ChallengesWith}
use Rattle.channel_node.specs.Minds.{Mind}
use Rattle.channel_node.specs.Places.{Told, mind_at}
use Rattle.channel_node.specs.Playing.{Signing, signings, pending, Allowed, PlaysEvent}
use Rattle.channel_node.specs.Tables.{Tables}
use Rattle.channel_node.specs.Exits.{LeavesForGood}
use Rattle.channel_node.specs.NodeLaws.{PlayedJournalsLeaveForGood}
use Rattle.channel_node.proofs.Bridging.{plays-at}
use Rattle.channel_node.proofs.Leaving.{exited, left-is, signs-staying, challenges-left}

leaves-one : (ts : Tables) (r : Rules) (s : Signing) (h : List Entry) (x : Told) (front : List Told) → PlaysEvent ts r s h x front → LeavesForGood x front
leaves-one ts r s h x front ev = at (suffix_of h x.seen ev.within)
  where
    at : Suffix h x.seen → LeavesForGood x front
    at su = record {
      states = λ channel state signature e. sym left ∙ signs-staying ts r (pending front) m channel state (allowed (deeds.Signed channel state signature) e).0;
      challenges = λ channel state who signature e. sym left ∙ leaving channel state who (allowed (deeds.SignedChallenge channel state who signature) e).1;
    }
      where
        m : Mind
        m = mind_at r s.key su.past front

        left : m.left ≡ exited front
        left = left-is ts r s h x front ev su.past su.len

        allowed : (deed : Deed) → x.deed ≡ deed → Allowed ts r s su.past m (signings front) (pending front) deed x.command
        allowed deed e = subst (λ (d : Deed). Allowed ts r s su.past m (signings front) (pending front) d x.command) e (ev.place su.later su.past su.is su.len).1

        leaving : (channel : List ℕ) (state : StateParts) (who : ℕ) → ChallengesWith m channel state who → m.left ≡ true
        leaving channel state who own = challenges-left m channel own.0 own.1

pub played_journals_leave_for_good : PlayedJournalsLeaveForGood
played_journals_leave_for_good t r s h newer x front legal plays = leaves-one t r s h x front (plays-at t r s h newer x front plays)
