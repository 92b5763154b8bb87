-- What workers need before a phase.
use Rattle.std.proofs.Common.{◌≡◌, ℕ, zero, suc, ◌+◌, Bool, true, false, cond, List, [], ◌∷◌, ◌++◌, length, map, drop, fold, refl, sym, ap, ◌∙◌, subst, arith, length-append}
use Rattle.std.specs.Prelude.{All}
use Rattle.std.specs.Str.{bytes_eq}
use Rattle.call_history.specs.declared.entry.Entry.{Entry}
use Rattle.shared_object.specs.Caller.{Caller}
use Rattle.shared_object.specs.History.{StartsWith}
use Rattle.channel_safety.specs.Journals.{In}
use Rattle.network.specs.Ways.{Ways}
use Rattle.network.specs.declared.lookout.Lookout.{Lookout}
use Rattle.network.specs.Members.{MemberOf, handed}
use Rattle.network_rounds.specs.Members.{Letter, heard, person, acted, HasFollowed}
use Rattle.network_rounds.specs.Players.{Player}
use Rattle.network_rounds.specs.Working.{Given}
use Rattle.network_rounds.specs.Workers.{WorkerOf, a_node, an_actor, Acts, CanAct, CanWatch, Turn, AreTurns, Phase}

-- of each worker
abbrev pub Each : {A : Type 0} → (A → Type 0) → List A → Type 0
Each Q [] = Unit {0}
Each Q (x ∷ xs) = Q x × Each Q xs

each-append : {A : Type 0} (Q : A → Type 0) (xs ys : List A) → Each Q xs → Each Q ys → Each Q (xs ++ ys)
each-append Q [] ys p q = q
each-append Q (x ∷ xs) ys p q = (p.0, each-append Q xs ys p.1 q)

-- what is known of each of the views is known at each index
pub at-each : {A B : Type 0} (Q : B → Type 0) (f : A → B) (xs : List A) → Each Q (map f xs) → All (λ x. Q (f x)) xs
at-each Q f [] e k d lt = absurd (omega (arith, lt))
at-each Q f (x ∷ xs) e zero d lt = e.0
at-each Q f (x ∷ xs) e (suc k) d lt = at-each Q f xs e.1 k d (omega (arith, lt))

module _ {P : Type 0} (ways : Ways P) where
  -- a node keeps its watchers while it acts
  heard-watchers : (who : List ℕ) (letter : Letter) (m : MemberOf P) → (heard ways who m letter).watchers ≡ m.watchers
  heard-watchers who letter m = go (bytes_eq letter.0 who)
    where
      go : (b : Bool) → (cond b (handed ways letter.1 m) m).watchers ≡ m.watchers
      go true = refl
      go false = refl

  all-watchers : (who : List ℕ) (post : List Letter) (m : MemberOf P) → (fold (heard ways who) m post).watchers ≡ m.watchers
  all-watchers who [] m = refl
  all-watchers who (x ∷ post) m = all-watchers who post (heard ways who m x) ∙ heard-watchers who x m

  acted-watchers : (post : List Letter) (seen : List Entry) (m : MemberOf P) → (acted ways post seen m).watchers ≡ m.watchers
  acted-watchers post seen m = all-watchers (person ways m) post (record { node = ways.saw (drop (ways.seen m.node) seen) m.node; watchers = m.watchers })

  nodes-can : (seen : List Entry) (nodes : List (MemberOf P)) → All (HasFollowed ways seen) nodes → Each (CanAct ways seen) (map (λ m. a_node m []) nodes)
  nodes-can seen [] all = tt
  nodes-can seen (m ∷ nodes) all = (all 0 m (omega arith), nodes-can seen nodes (λ k d lt. all (suc k) d (omega (arith, lt))))

  actors-can : (seen : List Entry) (xs : List Player) → Each (CanAct ways seen) (map (λ x. an_actor x []) xs)
  actors-can seen [] = tt
  actors-can seen (x ∷ xs) = (tt, actors-can seen xs)

  pub workers-can : (seen : List Entry) (nodes : List (MemberOf P)) (xs : List Player) → All (HasFollowed ways seen) nodes
      → Each (CanAct ways seen) (map (λ m. a_node m []) nodes ++ map (λ x. an_actor x []) xs)
  workers-can seen nodes xs all = each-append (CanAct ways seen) (map (λ m. a_node m []) nodes) (map (λ x. an_actor x []) xs) (nodes-can seen nodes all) (actors-can seen xs)

  -- after the first phase
  still-can : (post : List Letter) (h later : List Entry) (w v : WorkerOf P) (gave : List Given) (c d : Caller Entry) → StartsWith later h → CanAct ways h w → Acts ways post w v gave c d → CanWatch later v
  still-can post h later (a_node m sent) (a_node m' sent') gave c d s can (more, is, a) =
      let same = ap (λ (x : MemberOf P). x.watchers) a.is ∙ acted-watchers post a.seen m in (
        (λ l i. let k = can.watchers l (subst (λ (ws : List Lookout). In l ws) same i) in let n = ap length s.1 in omega (arith, k, n, length-append h s.0)),
        (let n = ap length same in let f = can.few in omega (arith, n, f)),
      )
  still-can post h later (an_actor x sent) (an_actor y sent') gave c d s can a = tt
  still-can post h later (a_node m sent) (an_actor y sent') gave c d s can a = absurd a
  still-can post h later (an_actor x sent) (a_node m sent') gave c d s can a = absurd a

  all-still : (post : List Letter) (c : Caller Entry) (later : List Entry) (ts : List (Turn P)) → StartsWith later c.seen → AreTurns (Acts ways post) c ts → Each (CanAct ways c.seen) (map (λ t. t.worker) ts)
      → Each (CanWatch later) (map (λ t. t.after) ts)
  all-still post c later [] s each can = tt
  all-still post c later (t ∷ ts) s each can = (still-can post c.seen later t.worker t.after t.gave t.seat t.seat_after s can.0 each.0.does, all-still post c later ts s each.1 can.1)

  pub watchers-can : (post : List Letter) (workers after : List (WorkerOf P)) (c d : Caller Entry) → Phase (Acts ways post) workers after c d → Each (CanAct ways c.seen) workers → Each (CanWatch d.seen) after
  watchers-can post workers after c d p can =
      subst (Each (CanWatch d.seen)) p.after_are
      (all-still post c d.seen p.turns (subst (StartsWith d.seen) p.kept_is.1 p.gathers.later) p.each (subst (Each (CanAct ways c.seen)) (sym p.workers_are) can))
