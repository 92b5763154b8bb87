-- A look that a node writes into its journal is one that its rules give.
use Rattle.std.proofs.Common.{◌≡◌, ℕ, ◌≤◌, true, false, List, ◌∷◌, ◌++◌, inl, inr, length, refl, sym, ◌∙◌, ap, subst, arith}
use Rattle.std.specs.Prelude.{None}
use Rattle.std.specs.List.{flat_map}
use Rattle.channel_values.specs.Rules.{Rules}
use Rattle.call_history.specs.History.{Legal}
use Rattle.call_history.specs.declared.call.Call.{Call}
use Rattle.call_history.specs.declared.entry.Entry.{Entry}
use Rattle.call_history.specs.declared.event.Deed.TheVariants as deeds
use Rattle.call_history.specs.declared.event.Event.{Event}
use Rattle.channel_store.specs.Keeping.{held_chain}
use Rattle.network.specs.Watching.{looks}
use Rattle.channel_safety.proofs.Lists.{Suffix, suffix_of, append_assoc'}
use Rattle.channel_safety.proofs.Rowing.{legal-suffix}
use Rattle.channel_safety.specs.Journals.{In, is_watched}
use Rattle.channel_node.specs.Minds.{Mind}
use Rattle.channel_node.specs.Nodes.{NodeOf, told_of, watched}
use Rattle.channel_node.specs.Standing.{Looks}
use Rattle.channel_node.specs.Places.{Told, tell, mind_at, AreFew}
use Rattle.channel_node.specs.Tables.{Tables}
use Rattle.channel_node.specs.Playing.{Signing, signings, pending, PlaysEvent, Plays}
use Rattle.channel_node.proofs.Keepers.{same-tail, Waits}
use Rattle.channel_node.proofs.Looking.{looks-stay}
use Rattle.channel_node.proofs.Places.{mind-watched, told-event}

pub watches : (ts : Tables) (r : Rules) (s : Signing) (h : List Entry) (legal : Legal r h) (n : NodeOf) (seen watcher : ℕ) (given : List Call) → Looks r h seen given n → Waits ts r s h legal n None
    → Waits ts r s h legal (watched seen watcher given n) None
watches ts r s h legal n seen watcher given ls w =
    record {
      plays = subst (Plays ts r s h) (sym told-is) (event, w.plays);
      later = w.later;
      past = w.past;
      split = w.split;
      few = w.few;
      mind = w.mind ∙ sym (mind-watched r s.key w.past x (told_of n) (λ m. refl)) ∙ ap (mind_at r s.key w.past) (sym told-is);
      used = w.used ∙ ap signings (sym told-is);
      before = λ y i u. was y u (subst (In y) told-is i);
      waiting = ap pending told-is;
      count = w.count;
    }
  where
    e : Event
    e = record { seen = seen; deed = deeds.Watched watcher given }

    x : Told
    x = tell e None

    told-is : told_of (watched seen watcher given n) ≡ x ∷ told_of n
    told-is = told-event n.journal e n.commands refl

    was : (y : Told) → is_watched y.deed ≡ false → In y (x ∷ told_of n) → y.seen ≤ length w.past
    was y u (inl same) = let b : is_watched y.deed ≡ true = ap (λ (z : Told). is_watched z.deed) same in absurd cc
    was y u (inr i) = w.before y i u

    event : PlaysEvent ts r s h x (told_of n)
    event = record {
      within = ls.within;
      rising = λ y i u. (let a : y.seen ≤ length w.past = w.before y i u in let b : n.mind.view.count ≡ length w.past = w.count in let d : n.mind.view.count ≤ seen = ls.after in omega arith);
      place = λ later past is len. ((ls.are later past is len).0, (w.waiting, looks-here later past is len (suffix_of past (length w.past) (let b : n.mind.view.count ≡ length w.past = w.count in let d : n.mind.view.count ≤ seen = ls.after in omega arith))));
    }
      where
        looks-here : (later past : List Entry) → h ≡ later ++ past → length past ≡ seen → Suffix past (length w.past) → given ≡ looks r past (flat_map held_chain (mind_at r s.key past (told_of n)).kept)
        looks-here later past is len su =
            let tail : su.past ≡ w.past =
            same-tail (later ++ su.later) w.later su.past w.past (sym (append_assoc' later su.later su.past) ∙ (ap (λ (z : List Entry). later ++ z) (sym su.is) ∙ (sym is ∙ w.split))) su.len in
            let whole : past ≡ su.later ++ w.past = su.is ∙ ap (λ (z : List Entry). su.later ++ z) tail in
            (ls.are later past is len).1 ∙ ap (λ (m : Mind). looks r past (flat_map held_chain m.kept)) w.mind
            ∙ ap (λ (p : List Entry). looks r p (flat_map held_chain (mind_at r s.key w.past (told_of n)).kept)) whole
            ∙ looks-stay r s.key su.later w.past (told_of n) (subst (Legal r) whole (legal-suffix r later past (subst (Legal r) is legal))) (subst AreFew whole (ls.are later past is len).0) w.before
            ∙ ap (λ (p : List Entry). looks r p (flat_map held_chain (mind_at r s.key p (told_of n)).kept)) (sym whole)
