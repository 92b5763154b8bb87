-- Calls of edges that stand in a stretch of a history, and the run of these edges.
use Rattle.std.proofs.Common.{◌≡◌, ℕ, List, [], ◌∷◌, ◌++◌, refl, ◌∙◌, inl, inr}
use Rattle.call_history.specs.declared.call.Call.{Call}
use Rattle.call_history.specs.declared.call.Op.TheVariants as ops
use Rattle.call_history.specs.declared.entry.Entry.{Entry}
use Rattle.funding_plans.specs.declared.plan.Part.{Part}
use Rattle.share_laws.specs.Books.{Books, Counting}
use Rattle.share_laws.specs.Sound.{IsSound}
use Rattle.share_laws.proofs.PartShares.{Pays}
use Rattle.std.proofs.lemmas.List.{append-nil}
use Rattle.channel_exits.specs.Endings.{Stand}
use Rattle.channel_exits.proofs.Edges.{Edge, left, Run, moves, stands}

-- the edges are those of the calls, in their order: each call may be of no edge, and an edge that is gone needs no call
pub data Follows (Gone : Edge → Type 0) (IsFor : Edge → Call → Type 0) : List Edge → List Call → Type 0 where
  nothing : Follows Gone IsFor [] []
  unmatched : {xs : List Edge} {cs : List Call} (c : Call) → Follows Gone IsFor xs cs → Follows Gone IsFor xs (c ∷ cs)
  gone : {xs : List Edge} {cs : List Call} (x : Edge) → Gone x → Follows Gone IsFor xs cs → Follows Gone IsFor (x ∷ xs) cs
  matched : {xs : List Edge} {cs : List Call} (x : Edge) (c : Call) → IsFor x c → Follows Gone IsFor xs cs → Follows Gone IsFor (x ∷ xs) (c ∷ cs)

-- one list added to another, item by item
abbrev pub onto : {X : Type 0} → List X → List X → List X
onto [] ys = ys
onto (x ∷ xs) ys = onto xs (x ∷ ys)

onto_onto : {X : Type 0} (xs ys zs : List X) → onto (onto xs ys) zs ≡ onto ys (xs ++ zs)
onto_onto [] ys zs = refl
onto_onto (x ∷ xs) ys zs = onto_onto xs (x ∷ ys) zs

pub onto-twice : {X : Type 0} (xs : List X) → onto (onto xs []) [] ≡ xs
onto-twice xs = onto_onto xs [] [] ∙ append-nil xs

module _ (Gone : Edge → Type 0) (IsFor : Edge → Call → Type 0) where
  pub follows-append : (xs ys : List Edge) (cs ds : List Call) → Follows Gone IsFor xs cs → Follows Gone IsFor ys ds → Follows Gone IsFor (xs ++ ys) (cs ++ ds)
  follows-append xs ys cs ds nothing g = g
  follows-append xs ys cs ds (unmatched {xs = us} {cs = vs} c f) g = unmatched c (follows-append us ys vs ds f g)
  follows-append xs ys cs ds (gone {xs = us} {cs = vs} x n f) g = gone x n (follows-append us ys vs ds f g)
  follows-append xs ys cs ds (matched {xs = us} {cs = vs} x c m f) g = matched x c m (follows-append us ys vs ds f g)

  pub follows-none : (cs : List Call) → Follows Gone IsFor [] cs
  follows-none [] = nothing
  follows-none (c ∷ cs) = unmatched c (follows-none cs)

  pub follows-onto : (xs ys : List Edge) (cs ds : List Call) → Follows Gone IsFor xs cs → Follows Gone IsFor ys ds → Follows Gone IsFor (onto xs ys) (onto cs ds)
  follows-onto xs ys cs ds nothing g = g
  follows-onto xs ys cs ds (unmatched {xs = us} {cs = vs} c f) g = follows-onto us ys vs (c ∷ ds) f (unmatched c g)
  follows-onto xs ys cs ds (gone {xs = us} {cs = vs} x n f) g = follows-onto us (x ∷ ys) vs ds f (gone x n g)
  follows-onto xs ys cs ds (matched {xs = us} {cs = vs} x c m f) g = follows-onto us (x ∷ ys) vs (c ∷ ds) f (matched x c m g)

-- an entry is a payment or none to a sound plan
pub record Steps (me : List ℕ) (ps : List Part) (b c : Books) (paid now : ℕ) : Type 0 where
  pub counting : List Counting
  pub sound : IsSound me ps counting
  pub pays : Pays b c counting me paid now

module _ (me : List ℕ) (ps : List Part) (B : List Entry → Books) (paid : List Entry → ℕ) (IsFor : Edge → Call → Type 0) (Ok : List Entry → Type 0)
    (older : (e : Entry) (l : List Entry) → Ok (e ∷ l) → Ok l)
    (step : (e : Entry) (l : List Entry) → Ok (e ∷ l) → Steps me ps (B l) (B (e ∷ l)) (paid l) (paid (e ∷ l)))
    (answered : (e : Entry) (l : List Entry) (c : Call) (x : Edge) → Ok (e ∷ l) → e.op ≡ ops.Call c → IsFor x c → left (B (e ∷ l)) x ≡ 0)
    (z : Books) (last : ℕ) where
  -- what an edge pays is nothing from then on
  abbrev pub IsGone : Edge → Type 0
  IsGone x = (l : List Entry) → Ok l → left (B l) x ≡ 0

  before : (calls : List Edge) (e : Entry) (l : List Entry) → Ok (e ∷ l) → Run me ps calls (B (e ∷ l)) (paid (e ∷ l)) z last → Run me ps calls (B l) (paid l) z last
  before calls e l ok run = let s = step e l ok in moves s.counting s.sound s.pays run

  from_start : (calls : List Edge) (l : List Entry) → Ok l → Run me ps calls (B l) (paid l) z last → Run me ps calls (B []) (paid []) z last
  from_start calls [] ok run = run
  from_start calls (e ∷ l) ok run = from_start calls l (older e l ok) (before calls e l ok run)

  drop-first : (c : Call) (cs : List Call) (l : List Entry) → Stand (c ∷ cs) l → Stand cs l
  drop-first c cs [] s = absurd s
  drop-first c [] (e ∷ l) s = tt
  drop-first c (d ∷ cs) (e ∷ l) (inl s) = inr s.1
  drop-first c (d ∷ cs) (e ∷ l) (inr s) = inr (drop-first c (d ∷ cs) l s)

  -- the entry of a call, and the run from right after it
  record At (calls : List Edge) (c : Call) (cs : List Call) : Type 0 where
    entry : Entry
    past : List Entry
    op : entry.op ≡ ops.Call c
    rest : Stand cs past
    ok : Ok (entry ∷ past)
    run : Run me ps calls (B (entry ∷ past)) (paid (entry ∷ past)) z last

  find : (calls : List Edge) (c : Call) (cs : List Call) (l : List Entry) → Stand (c ∷ cs) l → Ok l → Run me ps calls (B l) (paid l) z last → At calls c cs
  find calls c cs [] s ok run = absurd s
  find calls c cs (e ∷ l) (inl s) ok run = record { entry = e; past = l; op = s.0; rest = s.1; ok = ok; run = run }
  find calls c cs (e ∷ l) (inr s) ok run = find calls c cs l s (older e l ok) (before calls e l ok run)

  -- both lists have the newest first
  pub stands-run : (xs : List Edge) (cs : List Call) → Follows IsGone IsFor xs cs → (calls : List Edge) (l : List Entry) → Stand cs l → Ok l →
      Run me ps calls (B l) (paid l) z last → Run me ps (onto xs calls) (B []) (paid []) z last
  stands-run xs cs nothing calls l s ok run = from_start calls l ok run
  stands-run xs cs (unmatched {xs = us} {cs = vs} c f) calls l s ok run = stands-run us vs f calls l (drop-first c vs l s) ok run
  stands-run xs cs (gone {xs = us} {cs = vs} x n f) calls l s ok run = stands-run us vs f (x ∷ calls) l s ok (stands x (n l ok) run)
  stands-run xs cs (matched {xs = us} {cs = vs} x c m f) calls l s ok run =
      let at = find calls c vs l s ok run in
      stands-run us vs f (x ∷ calls) at.past at.rest (older at.entry at.past at.ok)
      (before (x ∷ calls) at.entry at.past at.ok (stands x (answered at.entry at.past c x at.ok at.op m) at.run))
