-- A round leaves its crew in order.
use Rattle.std.proofs.Common.{◌≡◌, ℕ, inl, inr, Bool, true, false, List, [], ◌∷◌, refl, sym, ◌∙◌, ap, subst, arith}
use Rattle.std.proofs.lemmas.List.{length-reverse}
use Rattle.std.specs.Prelude.{cond}
use Rattle.std.specs.Str.{bytes_eq}
use Rattle.call_history.specs.History.{newest_first, Legal}
use Rattle.call_history.specs.declared.entry.Entry.{Entry}
use Rattle.adjudicator.proofs.SharedSteps.{shared_legal}
use Rattle.channel_safety.specs.Journals.{In}
use Rattle.network.specs.Ways.{Ways}
use Rattle.network.specs.Members.{MemberOf}
use Rattle.channel_values.specs.Outcomes.{AreApart}
use Rattle.support_rules.specs.Real.{real}
use Rattle.network.specs.Standing.{AreKept}
use Rattle.network_rounds.specs.Members.{Letter}
use Rattle.network_rounds.specs.Players.{Player, awake}
use Rattle.network_rounds.specs.Rounds.{CrewOf}
use Rattle.network_rounds.specs.Working.{Given}
use Rattle.network_rounds.specs.Crews.{Rise, numbers_of, keys_of, cast_numbers, IsOrdered}
use Rattle.network_rounds.specs.Journals.{WritesJournals}
use Rattle.network_rounds.specs.Laws.{RoundsKeepOrder}
use Rattle.network_rounds.specs.Races.{Stage, IsRacing}
use Rattle.network_rounds.specs.Told.{NodeRan, ActorRan, Each, Round}
use Rattle.network_rounds.proofs.Lines.{node_gains}
use Rattle.network_rounds.proofs.Races.{have-followed}

-- ---- actors that are done leave

awake-in : (k : ℕ) (xs : List Player) → In k (cast_numbers (awake xs)) → In k (cast_numbers xs)
awake-in k [] i = absurd i
awake-in k (x ∷ xs) i = go x.done (λ j. awake-in k xs j) i
  where
    go : (b : Bool) → (In k (cast_numbers (awake xs)) → In k (cast_numbers xs)) → In k (cast_numbers (cond b (awake xs) (x ∷ awake xs))) → In k (cast_numbers (x ∷ xs))
    go true rest j = inr (rest j)
    go false rest (inl e) = inl e
    go false rest (inr j) = inr (rest j)

awake-rise : (xs : List Player) → Rise (cast_numbers xs) → Rise (cast_numbers (awake xs))
awake-rise [] r = tt
awake-rise (x ∷ xs) r = go x.done (awake-rise xs r.1)
  where
    go : (b : Bool) → Rise (cast_numbers (awake xs)) → Rise (cast_numbers (cond b (awake xs) (x ∷ awake xs)))
    go true rest = rest
    go false rest = ((λ k i. r.0 k (awake-in k xs i)), rest)

-- ---- the others keep their numbers

cast-same : (h later : List Entry) (xs ys : List Player) (zs : List (List Letter)) (ws : List (List Given)) → Each (ActorRan h later) xs ys zs ws → cast_numbers ys ≡ cast_numbers xs
cast-same h later [] [] [] [] e = refl
cast-same h later (x ∷ xs) (y ∷ ys) (z ∷ zs) (w ∷ ws) e =
    ap (λ (n : ℕ). n ∷ cast_numbers ys) e.0.number ∙ ap (λ (ns : List ℕ). x.number ∷ ns) (cast-same h later xs ys zs ws e.1)
cast-same h later [] [] [] (w ∷ ws) e = absurd e
cast-same h later [] [] (z ∷ zs) ws e = absurd e
cast-same h later [] (y ∷ ys) zs ws e = absurd e
cast-same h later (x ∷ xs) [] zs ws e = absurd e
cast-same h later (x ∷ xs) (y ∷ ys) [] ws e = absurd e
cast-same h later (x ∷ xs) (y ∷ ys) (z ∷ zs) [] e = absurd e

module _ {P : Type 0} (ways : Ways P) where
  record AreSame (m m' : MemberOf P) : Type 0 where
    number : ways.number m'.node ≡ ways.number m.node
    key : ways.key m'.node ≡ ways.key m.node

  record HaveSame (xs ys : List (MemberOf P)) : Type 0 where
    numbers : numbers_of ways ys ≡ numbers_of ways xs
    keys : keys_of ways ys ≡ keys_of ways xs

  nodes-same : (post : List Letter) (h later : List Entry) (xs ys : List (MemberOf P)) (zs : List (List Letter)) (ws : List (List Given)) → Each (NodeRan ways post h later) xs ys zs ws
      → ((m m' : MemberOf P) (sent : List Letter) (gave : List Given) → In m xs → NodeRan ways post h later m m' sent gave → AreSame m m') → HaveSame xs ys
  nodes-same post h later [] [] [] [] e same = record { numbers = refl; keys = refl }
  nodes-same post h later (x ∷ xs) (y ∷ ys) (z ∷ zs) (w ∷ ws) e same =
      let one = same x y z w (inl refl) e.0 in
      let rest = nodes-same post h later xs ys zs ws e.1 (λ m m' sent gave i. same m m' sent gave (inr i)) in record {
        numbers = ap (λ (n : ℕ). n ∷ numbers_of ways ys) one.number ∙ ap (λ (ns : List ℕ). ways.number x.node ∷ ns) rest.numbers;
        keys = ap (λ (k : List ℕ). k ∷ keys_of ways ys) one.key ∙ ap (λ (ks : List (List ℕ)). ways.key x.node ∷ ks) rest.keys;
      }
  nodes-same post h later [] [] [] (w ∷ ws) e same = absurd e
  nodes-same post h later [] [] (z ∷ zs) ws e same = absurd e
  nodes-same post h later [] (y ∷ ys) zs ws e same = absurd e
  nodes-same post h later (x ∷ xs) [] zs ws e same = absurd e
  nodes-same post h later (x ∷ xs) (y ∷ ys) [] ws e same = absurd e
  nodes-same post h later (x ∷ xs) (y ∷ ys) (z ∷ zs) [] e same = absurd e

  module _ (stands : List Entry → P → Type 0) (lost : P → Bool) (kept : AreKept ways stands) (writes : WritesJournals ways lost) where
    ordered : (s : Stage P) (after : CrewOf P) (later : List Entry) → IsRacing ways stands lost s → IsOrdered ways s.crew → Round ways s.crew after s.seen later → IsOrdered ways after
    ordered s after later is order round = record {
      nodes = subst Rise (sym nodes.numbers) order.nodes;
      cast = subst Rise (sym cast) (awake-rise s.crew.cast order.cast);
      apart = λ k i j. order.apart k (subst (In k) nodes.numbers i) (awake-in k s.crew.cast (subst (In k) cast j));
      keys = subst (AreApart bytes_eq) (sym nodes.keys) order.keys;
    }
      where
        legal : Legal real (newest_first later)
        legal = shared_legal real later (round.legal is.crew.legal)

        same : (m m' : MemberOf P) (sent : List Letter) (gave : List Given) → In m s.crew.nodes → NodeRan ways s.crew.post s.seen later m m' sent gave → AreSame m m'
        same m m' sent gave i n =
            let r = is.racers m i in
            let member = is.crew.nodes m i in
            let gained = node_gains ways lost writes s.seen later s.crew.post m m' sent gave n r.watched legal r.well
            (omega (arith, kept.within (newest_first s.seen) m.node member.node, length-reverse s.seen)) (have-followed ways stands lost kept writes s.seen m member) in
            record { number = gained.number; key = gained.key }

        nodes : HaveSame s.crew.nodes after.nodes
        nodes = nodes-same s.crew.post s.seen later s.crew.nodes after.nodes round.sent round.gave round.nodes same

        cast : cast_numbers after.cast ≡ cast_numbers (awake s.crew.cast)
        cast = cast-same s.seen later (awake s.crew.cast) after.cast round.posted round.called round.cast

pub rounds_keep_order : {P : Type 0} (ways : Ways P) (stands : List Entry → P → Type 0) → RoundsKeepOrder ways stands
rounds_keep_order ways stands lost kept writes s after later is order round = ordered ways stands lost kept writes s after later is order round
