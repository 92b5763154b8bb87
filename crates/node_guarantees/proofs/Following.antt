-- Entries that come next are followed one by one; and a look of a watcher that stands for a front of the history is
-- one of the node's.
use Rattle.std.proofs.Common.{◌≡◌, suc, ◌+◌, ◌≤◌, false, List, [], ◌∷◌, ◌++◌, length, reverse, sym, ◌∙◌, ap, subst, arith, length-append}
use Rattle.std.proofs.lemmas.List.{length-reverse}
use Rattle.std.specs.List.{flat_map}
use Rattle.channel_values.specs.Rules.{Rules}
use Rattle.call_history.specs.History.{Legal}
use Rattle.call_history.specs.Naming.{NamesChannels}
use Rattle.call_history.specs.declared.entry.Entry.{Entry}
use Rattle.channel_store.specs.Keeping.{held_chain}
use Rattle.network.proofs.Watching.{looks_are_kept, checkpoints_are}
use Rattle.network.specs.Watching.{history_after, looks}
use Rattle.channel_safety.proofs.Lists.{append_assoc'}
use Rattle.channel_safety.proofs.Rowing.{legal-suffix}
use Rattle.network.specs.Ways.{followed, looked}
use Rattle.network.specs.Histories.{ComeNext, HasLooked}
use Rattle.network.specs.declared.lookout.Lookout.{Lookout}
use Rattle.channel_node.proofs.Calling.{calls_keep_standing}
use Rattle.channel_node.proofs.Keepers.{same-tail}
use Rattle.channel_node.proofs.Standing.{few-suffix}
use Rattle.channel_node.specs.Nodes.{NodeOf, saw_one, saw_all}
use Rattle.channel_node.specs.Standing.{Stands, ComesNext, Looks}
use Rattle.channel_node.specs.Places.{AreFew}
use Rattle.channel_node.specs.Playing.{Signing}
use Rattle.channel_node.specs.Tables.{Tables}
use Rattle.network.proofs.Fronts.{after_is}

module _ (t : Tables) (r : Rules) (h : List Entry) (legal : Legal r h) where
  -- a front of the history
  front-legal : (later past : List Entry) → h ≡ later ++ past → Legal r past
  front-legal later past is = legal-suffix r later past (subst (Legal r) is legal)

  front-few : AreFew h → (later past : List Entry) → h ≡ later ++ past → AreFew past
  front-few few later past is = few-suffix later past (subst AreFew is few)

  -- the first of the entries that come next
  split : (later past entries : List Entry) (e : Entry) → h ≡ later ++ history_after past (e ∷ entries) → h ≡ (later ++ reverse entries) ++ (e ∷ past)
  split later past entries e is = is ∙ ap (λ (z : List Entry). later ++ z) (after_is (e ∷ past) entries) ∙ append_assoc' later (reverse entries) (e ∷ past)

  comes-first : (e : Entry) (entries : List Entry) (n : NodeOf) → AreFew h → ComeNext h (e ∷ entries) n.mind.view.count → ComesNext h e n
  comes-first e entries n few c =
      let one : h ≡ (c.0 ++ reverse entries) ++ (e ∷ c.1) = split c.0 c.1 entries e c.2 in
      (c.0 ++ reverse entries, c.1, one, c.3, (front-few few (c.0 ++ reverse entries) (e ∷ c.1) one).0)

  -- then come the others
  comes-then : (e : Entry) (entries : List Entry) (n : NodeOf) → ComeNext h (e ∷ entries) n.mind.view.count → ComeNext h entries (saw_one r n e).mind.view.count
  comes-then e entries n c =
      let numbered : e.number ≡ suc (length c.1) = (front-legal (c.0 ++ reverse entries) (e ∷ c.1) (split c.0 c.1 entries e c.2)).1 in
      (c.0, e ∷ c.1, c.2, sym numbered)

  pub sees-within : (entries : List Entry) (n : NodeOf) → ComeNext h entries n.mind.view.count → (saw_all r entries n).mind.view.count ≤ length h
  sees-within [] n c = omega (arith, ap length c.2, length-append c.0 c.1, c.3)
  sees-within (e ∷ entries) n c = sees-within entries (saw_one r n e) (comes-then e entries n c)

  pub sees-all : (s : Signing) (entries : List Entry) (n : NodeOf) → AreFew h → n.is_lost ≡ false → ComeNext h entries n.mind.view.count → Stands t r s h n → Stands t r s h (saw_all r entries n)
  sees-all s [] n few kept c st = st
  sees-all s (e ∷ entries) n few kept c st =
      sees-all s entries (saw_one r n e) few kept (comes-then e entries n c) ((calls_keep_standing t r s h n legal kept st).sees e (comes-first e entries n few c))

  -- a look by chains that the node holds
  pub looks-so : (entries : List Entry) (l : Lookout) (n : NodeOf) → NamesChannels r → AreFew h → HasLooked r h n.mind.view.count l entries
      → Looks r h (followed entries l).seen (looked (flat_map held_chain n.mind.kept) (followed entries l)) n
  looks-so entries l n names few x =
      record {
        within = omega (arith, ap length x.is, length-append x.later (history_after x.past entries), long);
        after = x.after;
        are = λ later past is len. (
          front-few few later past is,
          whole ∙ ap (λ (z : List Entry). looks r z (flat_map held_chain n.mind.kept)) (sym (same-tail later x.later past (history_after x.past entries) (sym is ∙ x.is) (len ∙ sym long))),
        );
      }
    where
      long : length (history_after x.past entries) ≡ l.seen + length entries
      long = omega (arith, ap length (after_is x.past entries), length-append (reverse entries) x.past, length-reverse entries, x.count)

      whole : looked (flat_map held_chain n.mind.kept) (followed entries l) ≡ looks r (history_after x.past entries) (flat_map held_chain n.mind.kept)
      whole =
          checkpoints_are r (history_after x.past entries) (followed entries l).watcher (flat_map held_chain n.mind.kept)
          (looks_are_kept r x.past entries l.watcher names x.stands (front-legal x.later (history_after x.past entries) x.is))
