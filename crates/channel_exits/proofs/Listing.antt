-- The edges of an exit follow its list of calls, in each asset.
use Rattle.std.proofs.Common.{◌≡◌, ℕ, Bool, true, false, cond, ◌||◌, ◌&&◌, List, [], ◌∷◌, ◌++◌, refl, sym, ◌∙◌, ap, subst, inl, inr, ◌⊎◌}
use Rattle.std.specs.Prelude.{◌==◌, nat_lt, Option, Some, None, flat_map}
use Rattle.std.specs.List.{AllByRecursion, list_any}
use Rattle.std.proofs.lemmas.Bool.{false≢true, eqb-true}
use Rattle.std.specs.Str.{bytes_eq}
use Rattle.channel_values.specs.Outcomes.{is_same}
use Rattle.channel_values.specs.declared.value.AssetOutcome.{AssetOutcome}
use Rattle.channel_values.specs.declared.value.Dest.{Dest}
use Rattle.channel_values.specs.declared.value.Dest.TheVariants.{Person, Channel}
use Rattle.channel_values.specs.declared.value.Item.{Item}
use Rattle.channel_values.specs.declared.value.Shape.TheVariants.{Guarantee}
use Rattle.channel_values.specs.Amounts.{has}
use Rattle.call_history.specs.Dues.{shape_in, place_of}
use Rattle.call_history.specs.Flows.{is_among}
use Rattle.call_history.specs.declared.call.Call.{Call}
use Rattle.call_history.specs.Calls.{make_transfer, make_claim}
use Rattle.funding_plans.specs.declared.plan.Part.{Part}
use Rattle.funding_plans.specs.declared.plan.Part.TheVariants.{Root, OnLedger, End, Middle}
use Rattle.funding_plans.specs.Shapes.{items_of, list_of, items_in, list_in, is_listed, position_of}
use Rattle.funding_plans.specs.Parts.{own_guarantor, channels}
use Rattle.call_history.proofs.Names.{same_bytes, bytes_eq_self}
use Rattle.std.proofs.lemmas.List.{append-nil}
use Rattle.channel_exits.specs.Calls.{Ended, transfer_if, transfer_to, claim_if, claim_for, transfer_among, items_ended, exits, transfers_of, passed_to, root_calls, other_calls, put, put_all, put_ended, assets_of, of_each, exit_calls}
use Rattle.channel_exits.proofs.Edges.{Edge, moving, claiming, payer}
use Rattle.channel_exits.proofs.Order.{AreFrom, part_edges, other_edges}
use Rattle.channel_exits.proofs.Standing.{Follows, nothing, gone, matched, follows-append, follows-none}

-- ---- the edges

abbrev pub edge_to : List ℕ → List (List ℕ) → Dest → List Edge
edge_to f names (Person n) = []
edge_to f names (Channel n) = cond (is_among n names) (cond (bytes_eq n f) [] (moving f (Channel n) ∷ [])) []

abbrev pub edges_to : List ℕ → List (List ℕ) → List Item → List Edge
edges_to f names [] = []
edges_to f names (x ∷ xs) = edge_to f names x.to ++ edges_to f names xs

-- to the channels of these names that a channel names, and also by the edges of items that it doesn't have
abbrev pub out_edges : (items : List ℕ → List Item) → (more : List ℕ → List Edge) → List (List ℕ) → List ℕ → List Edge
out_edges items more names c = edges_to c names (items c) ++ more c

abbrev pub root_edges : (items : List ℕ → List Item) → (more : List ℕ → List Edge) → List ℕ → List (List ℕ) → Part → List Edge
root_edges items more me names (Root c) = out_edges items more names c ++ moving c (Person me) ∷ []
root_edges items more me names _ = []

abbrev pub all_root_edges : (items : List ℕ → List Item) → (more : List ℕ → List Edge) → List ℕ → List (List ℕ) → List Part → List Edge
all_root_edges items more me names [] = []
all_root_edges items more me names (p ∷ ps) = root_edges items more me names p ++ all_root_edges items more me names ps

-- an end's channel passes on what it is paid
abbrev pub onward_edges : (items : List ℕ → List Item) → (more : List ℕ → List Edge) → List Part → List ℕ → List Edge
onward_edges items more parts c = out_edges items more (passed_to parts c) c

-- ---- assets

abbrev is_in : ℕ → List ℕ → Bool
is_in a assets = list_any (λ b. b == a) assets

or-left : (t u : Bool) → t ≡ true → (t || u) ≡ true
or-left true u h = refl
or-left false u h = absurd (false≢true h)

or-right : (t u : Bool) → u ≡ true → (t || u) ≡ true
or-right true u h = refl
or-right false u h = h

in-later : (a b : ℕ) (rest : List ℕ) → is_in a rest ≡ true → is_in a (put b rest) ≡ true
in-later a b [] h = cc
in-later a b (x ∷ rest) h = go (b == x) (nat_lt b x) h (in-later a b rest)
  where
    later : (t : Bool) → (t || is_in a rest) ≡ true → (is_in a rest ≡ true → is_in a (put b rest) ≡ true) → (t || is_in a (put b rest)) ≡ true
    later true k rec = refl
    later false k rec = rec k

    go : (t u : Bool) → ((x == a) || is_in a rest) ≡ true → (is_in a rest ≡ true → is_in a (put b rest) ≡ true) →
        is_in a (cond t (x ∷ rest) (cond u (b ∷ x ∷ rest) (x ∷ put b rest))) ≡ true
    go true u k rec = k
    go false true k rec = or-right (b == a) ((x == a) || is_in a rest) k
    go false false k rec = later (x == a) k rec

in-put : (a b : ℕ) (rest : List ℕ) → (b == a) ≡ true → is_in a (put b rest) ≡ true
in-put a b [] h = or-left (b == a) false h
in-put a b (x ∷ rest) h = go (b == x) (eqb-true b x) (nat_lt b x) (in-put a b rest h)
  where
    go : (t : Bool) → (t ≡ true → b ≡ x) → (u : Bool) → is_in a (put b rest) ≡ true → is_in a (cond t (x ∷ rest) (cond u (b ∷ x ∷ rest) (x ∷ put b rest))) ≡ true
    go true e u rec = or-left (x == a) (is_in a rest) (subst (λ (y : ℕ). (y == a) ≡ true) (e refl) h)
    go false e true rec = or-left (b == a) ((x == a) || is_in a rest) h
    go false e false rec = or-right (x == a) (is_in a (put b rest)) rec

in-all-later : (a : ℕ) (os : List AssetOutcome) (rest : List ℕ) → is_in a rest ≡ true → is_in a (put_all os rest) ≡ true
in-all-later a [] rest h = h
in-all-later a (o ∷ os) rest h = in-later a o.asset (put_all os rest) (in-all-later a os rest h)

-- an asset of which an outcome has something
abbrev is_asset : ℕ → List AssetOutcome → Bool
is_asset a os = list_any (λ o. o.asset == a) os

in-all : (a : ℕ) (os : List AssetOutcome) (rest : List ℕ) → is_asset a os ≡ true → is_in a (put_all os rest) ≡ true
in-all a [] rest h = cc
in-all a (o ∷ os) rest h = go (o.asset == a) refl h (in-all a os rest)
  where
    go : (t : Bool) → (o.asset == a) ≡ t → (t || is_asset a os) ≡ true → (is_asset a os ≡ true → is_in a (put_all os rest) ≡ true) → is_in a (put o.asset (put_all os rest)) ≡ true
    go true e k rec = in-put a o.asset (put_all os rest) e
    go false e k rec = in-later a o.asset (put_all os rest) (rec k)

has-asset : (os : List AssetOutcome) (a : ℕ) (d : Dest) → has (items_in a os) d ≡ true → is_asset a os ≡ true
has-asset [] a d h = cc
has-asset (o ∷ os) a d h = go (o.asset == a) refl h (has-asset os a d)
  where
    go : (t : Bool) → (o.asset == a) ≡ t → has (items_of (cond t (Some o.shape) (shape_in os a))) d ≡ true →
        (has (items_in a os) d ≡ true → is_asset a os ≡ true) → (t || is_asset a os) ≡ true
    go true e k rec = refl
    go false e k rec = rec k

list-asset : (os : List AssetOutcome) (a : ℕ) (d : Dest) → is_listed (list_in a os) d ≡ true → is_asset a os ≡ true
list-asset [] a d h = cc
list-asset (o ∷ os) a d h = go (o.asset == a) refl h (list-asset os a d)
  where
    go : (t : Bool) → (o.asset == a) ≡ t → is_listed (list_of (cond t (Some o.shape) (shape_in os a))) d ≡ true →
        (is_listed (list_in a os) d ≡ true → is_asset a os ≡ true) → (t || is_asset a os) ≡ true
    go true e k rec = refl
    go false e k rec = rec k

in-ended : (a : ℕ) (e : Option (List AssetOutcome)) (o : List AssetOutcome) (rest : List ℕ) → e ≡ Some o → is_asset a o ≡ true → is_in a (put_ended e rest) ≡ true
in-ended a e o rest is h = subst (λ (x : Option (List AssetOutcome)). is_in a (put_ended x rest) ≡ true) (sym is) (in-all a o rest h)

in-ended-later : (a : ℕ) (e : Option (List AssetOutcome)) (rest : List ℕ) → is_in a rest ≡ true → is_in a (put_ended e rest) ≡ true
in-ended-later a None rest h = h
in-ended-later a (Some o) rest h = in-all-later a o rest h

in-assets : (ended : Ended) (a : ℕ) (n : List ℕ) (o : List AssetOutcome) (cs : List (List ℕ)) → ended n ≡ Some o → is_asset a o ≡ true → is_among n cs ≡ true →
    is_in a (assets_of ended cs) ≡ true
in-assets ended a n o [] is h k = cc
in-assets ended a n o (c ∷ cs) is h k = go (bytes_eq n c) (same_bytes n c) k (in-assets ended a n o cs is h)
  where
    go : (t : Bool) → (t ≡ true → n ≡ c) → (t || is_among n cs) ≡ true → (is_among n cs ≡ true → is_in a (assets_of ended cs) ≡ true) →
        is_in a (put_ended (ended c) (assets_of ended cs)) ≡ true
    go true e k rec = in-ended a (ended c) o (assets_of ended cs) (ap ended (sym (e refl)) ∙ is) h
    go false e k rec = in-ended-later a (ended c) (assets_of ended cs) (rec k)

-- ---- of one asset

module _ (ended : Ended) (a : ℕ) where
  -- the item that an edge pays is there
  abbrev pub IsLive : Edge → Type 0
  IsLive (moving f d) = (o : List AssetOutcome) × (ended f ≡ Some o) × (has (items_in a o) d ≡ true)
  IsLive (claiming g j d) =
      (p : List AssetOutcome) × (o : List AssetOutcome) × (ended g ≡ Some p) × (ended j ≡ Some o) × (is_listed (list_in a p) d ≡ true) × (has (items_in a o) d ≡ true)
      × ((list : List Dest) × (shape_in p a ≡ Some (Guarantee j list)))

  -- its call
  abbrev pub IsFor : Edge → Call → Type 0
  IsFor (moving f d) c =
      (o : List AssetOutcome) × (ended f ≡ Some o) × (has (items_in a o) d ≡ true) × (is_same d (Channel f) ≡ false) × (c ≡ make_transfer f o a (place_of (items_in a o) d))
  IsFor (claiming g j d) c =
      (p : List AssetOutcome) × (o : List AssetOutcome) × (ended g ≡ Some p) × (ended j ≡ Some o) × (is_listed (list_in a p) d ≡ true) × (has (items_in a o) d ≡ true)
      × ((list : List Dest) × (shape_in p a ≡ Some (Guarantee j list))) × (is_same d (Channel g) ≡ false) × (c ≡ make_claim g p j o a (position_of (list_in a p) d))

  -- an edge that isn't gone pays another than its payer, and is live
  -- a claim is from a guarantor of its target
  abbrev pub IsFit : (List ℕ → List ℕ → Type 0) → Edge → Type 0
  IsFit Backs (moving f d) = Unit {0}
  IsFit Backs (claiming g j d) = Backs g j

  abbrev pub FitsPart : (List ℕ → List ℕ → Type 0) → Part → Type 0
  FitsPart Backs (Root c) = Unit {0}
  FitsPart Backs (OnLedger l c) = Unit {0}
  FitsPart Backs (End v) = Backs (own_guarantor v) v.joint × (bytes_eq v.channel (own_guarantor v) ≡ false)
  FitsPart Backs (Middle v) =
      Backs v.guarantor_a v.joint × Backs v.guarantor_b v.joint × (bytes_eq v.channel v.guarantor_a ≡ false) × (bytes_eq v.channel v.guarantor_b ≡ false)

  module _ (Backs : List ℕ → List ℕ → Type 0) (Gone : Edge → Type 0) (classify : (x : Edge) → IsFit Backs x → Gone x ⊎ IsLive x) where
    abbrev Runs : List Edge → List Call → Type 0
    Runs xs cs = Follows Gone IsFor xs cs

    both-true : (t u : Bool) → t ≡ true → u ≡ true → (t && u) ≡ true
    both-true true u h k = k
    both-true false u h k = absurd (false≢true h)

    one-transfer : (f : List ℕ) (d : Dest) → is_same d (Channel f) ≡ false → Runs (moving f d ∷ []) (transfer_to ended f d a)
    one-transfer f d ne = go (classify (moving f d) tt)
      where
        go : Gone (moving f d) ⊎ IsLive (moving f d) → Runs (moving f d ∷ []) (transfer_to ended f d a)
        go (inl g) = gone (moving f d) g (follows-none Gone IsFor (transfer_to ended f d a))
        go (inr x) =
            subst (λ (cs : List Call). Runs (moving f d ∷ []) cs)
            (sym (ap (λ (e : Option (List AssetOutcome)). transfer_if f e d a) x.1
            ∙ ap (λ (t : Bool). cond t (make_transfer f x.0 a (place_of (items_in a x.0) d) ∷ []) []) x.2))
            (matched (moving f d) (make_transfer f x.0 a (place_of (items_in a x.0) d)) (x.0, x.1, x.2, ne, refl) nothing)

    one-claim : (g j : List ℕ) (d : Dest) → Backs g j → is_same d (Channel g) ≡ false → Runs (claiming g j d ∷ []) (claim_for ended g j d a)
    one-claim g j d fit ne = go (classify (claiming g j d) fit)
      where
        go : Gone (claiming g j d) ⊎ IsLive (claiming g j d) → Runs (claiming g j d ∷ []) (claim_for ended g j d a)
        go (inl n) = gone (claiming g j d) n (follows-none Gone IsFor (claim_for ended g j d a))
        go (inr x) =
            subst (λ (cs : List Call). Runs (claiming g j d ∷ []) cs)
            (sym (ap (λ (e : Option (List AssetOutcome)). claim_if g e j (ended j) d a) x.2
            ∙ (ap (λ (e : Option (List AssetOutcome)). claim_if g (Some x.0) j e d a) x.3
            ∙ ap (λ (t : Bool). cond t (make_claim g x.0 j x.1 a (position_of (list_in a x.0) d) ∷ []) []) (both-true _ _ x.4 x.5))))
            (matched (claiming g j d) (make_claim g x.0 j x.1 a (position_of (list_in a x.0) d)) (x.0, x.1, x.2, x.3, x.4, x.5, x.6, ne, refl) nothing)

    to-channels : (f : List ℕ) (names : List (List ℕ)) (items : List Item) → Runs (edges_to f names items) (flat_map (λ item. transfer_among ended f names a item.to) items)
    to-channels f names [] = nothing
    to-channels f names (x ∷ xs) =
        follows-append Gone IsFor (edge_to f names x.to) (edges_to f names xs) (transfer_among ended f names a x.to) (flat_map (λ item. transfer_among ended f names a item.to) xs)
        (to x.to) (to-channels f names xs)
      where
        to : (d : Dest) → Runs (edge_to f names d) (transfer_among ended f names a d)
        to (Person n) = nothing
        to (Channel n) = go (is_among n names) (bytes_eq n f) refl
          where
            go : (t u : Bool) → bytes_eq n f ≡ u → Runs (cond t (cond u [] (moving f (Channel n) ∷ [])) []) (cond t (transfer_to ended f (Channel n) a) [])
            go true true e = follows-none Gone IsFor (transfer_to ended f (Channel n) a)
            go true false e = one-transfer f (Channel n) e
            go false u e = nothing

    abbrev items : List ℕ → List Item
    items n = items_ended (ended n) a

    module _ (more : List ℕ → List Edge) (more-from : (x : List ℕ) → AreFrom x (more x)) (more-gone : (x : List ℕ) → Runs (more x) []) where
      -- a channel's transfers to others and to the person
      out-run : (me : List ℕ) (names : List (List ℕ)) (c : List ℕ) → Runs (out_edges items more names c ++ moving c (Person me) ∷ []) (transfers_of ended me names c a)
      out-run me names c =
          follows-append Gone IsFor (out_edges items more names c) (moving c (Person me) ∷ []) to_others (transfer_to ended c (Person me) a)
          (subst (λ (cs : List Call). Runs (out_edges items more names c) cs) (append-nil to_others)
          (follows-append Gone IsFor (edges_to c names (items c)) (more c) to_others [] (to-channels c names (items c)) (more-gone c)))
          (one-transfer c (Person me) refl)
        where
          to_others : List Call
          to_others = flat_map (λ item. transfer_among ended c names a item.to) (items c)

      root-part : (me : List ℕ) (names : List (List ℕ)) (p : Part) → Runs (root_edges items more me names p) (root_calls ended me names p a)
      root-part me names (Root c) = out-run me names c
      root-part me names (OnLedger l c) = nothing
      root-part me names (End v) = nothing
      root-part me names (Middle v) = nothing

      other-part : (me : List ℕ) (ps : List Part) (p : Part) → FitsPart Backs p → Runs (part_edges (onward_edges items more ps) me p) (other_calls ended me ps p a)
      other-part me ps (Root c) h = nothing
      other-part me ps (OnLedger l c) h = one-transfer c (Person me) refl
      other-part me ps (End v) h =
          follows-append Gone IsFor (claiming g v.joint (Channel v.channel) ∷ []) (claiming g v.joint (Person me) ∷ own) (claim_for ended g v.joint (Channel v.channel) a) _
          (one-claim g v.joint (Channel v.channel) h.0 h.1)
          (follows-append Gone IsFor (claiming g v.joint (Person me) ∷ []) own (claim_for ended g v.joint (Person me) a) _
          (one-claim g v.joint (Person me) h.0 refl) (out-run me (passed_to ps v.channel) v.channel))
        where
          g : List ℕ
          g = own_guarantor v

          own : List Edge
          own = onward_edges items more ps v.channel ++ moving v.channel (Person me) ∷ []
      other-part me ps (Middle v) h =
          follows-append Gone IsFor (claiming ga v.joint (Channel v.channel) ∷ []) (claiming gb v.joint (Channel v.channel) ∷ claiming ga v.joint (Person me) ∷ claiming gb v.joint (Person me) ∷ [])
          (claim_for ended ga v.joint (Channel v.channel) a) _ (one-claim ga v.joint (Channel v.channel) h.0 h.2)
          (follows-append Gone IsFor (claiming gb v.joint (Channel v.channel) ∷ []) (claiming ga v.joint (Person me) ∷ claiming gb v.joint (Person me) ∷ [])
          (claim_for ended gb v.joint (Channel v.channel) a) _ (one-claim gb v.joint (Channel v.channel) h.1 h.3)
          (follows-append Gone IsFor (claiming ga v.joint (Person me) ∷ []) (claiming gb v.joint (Person me) ∷ [])
          (claim_for ended ga v.joint (Person me) a) _ (one-claim ga v.joint (Person me) h.0 refl) (one-claim gb v.joint (Person me) h.1 refl)))
        where
          ga : List ℕ
          ga = v.guarantor_a

          gb : List ℕ
          gb = v.guarantor_b

    -- ---- over the assets

    -- each edge pays from one of these
    abbrev PayFrom : List (List ℕ) → List Edge → Type 0
    PayFrom cs [] = Unit {0}
    PayFrom cs (x ∷ xs) = ((is_among (payer x) cs ≡ true) × IsFit Backs x) × PayFrom cs xs

    live-in : (cs : List (List ℕ)) (x : Edge) → is_among (payer x) cs ≡ true → IsLive x → is_in a (assets_of ended cs) ≡ true
    live-in cs (moving f d) k x = in-assets ended a f x.0 cs x.1 (has-asset x.0 a d x.2) k
    live-in cs (claiming g j d) k x = in-assets ended a g x.0 cs x.2 (list-asset x.0 a d x.4) k

    all-gone : (cs : List (List ℕ)) (xs : List Edge) (calls : List Call) → PayFrom cs xs → is_in a (assets_of ended cs) ≡ false → Runs xs calls
    all-gone cs [] calls h out = follows-none Gone IsFor calls
    all-gone cs (x ∷ xs) calls h out = gone x (one (classify x h.0.1)) (all-gone cs xs calls h.1 out)
      where
        one : Gone x ⊎ IsLive x → Gone x
        one (inl g) = g
        one (inr live) = absurd (false≢true (sym out ∙ live-in cs x h.0.0 live))

    pick : (xs : List Edge) (calls : ℕ → List Call) (assets : List ℕ) → is_in a assets ≡ true → Runs xs (calls a) → Runs xs (flat_map calls assets)
    pick xs calls [] h f = cc
    pick xs calls (b ∷ rest) h f = go (b == a) (eqb-true b a) h (pick xs calls rest)
      where
        go : (t : Bool) → (t ≡ true → b ≡ a) → (t || is_in a rest) ≡ true → (is_in a rest ≡ true → Runs xs (calls a) → Runs xs (flat_map calls rest)) → Runs xs (calls b ++ flat_map calls rest)
        go true e k rec =
            subst (λ (ys : List Edge). Runs ys (calls b ++ flat_map calls rest)) (append-nil xs)
            (follows-append Gone IsFor xs [] (calls b) (flat_map calls rest) (subst (λ (c : ℕ). Runs xs (calls c)) (sym (e refl)) f) (follows-none Gone IsFor (flat_map calls rest)))
        go false e k rec = follows-append Gone IsFor [] xs (calls b) (flat_map calls rest) (follows-none Gone IsFor (calls b)) (rec k f)

    over-assets : (xs : List Edge) (calls : Part → ℕ → List Call) (p : Part) → PayFrom (exits p) xs → Runs xs (calls p a) → Runs xs (of_each ended calls p)
    over-assets xs calls p h f = go (is_in a (assets_of ended (exits p))) refl
      where
        go : (t : Bool) → is_in a (assets_of ended (exits p)) ≡ t → Runs xs (of_each ended calls p)
        go true e = pick xs (calls p) (assets_of ended (exits p)) e f
        go false e = all-gone (exits p) xs (of_each ended calls p) h e

    self : (n : List ℕ) (ns : List (List ℕ)) → is_among n (n ∷ ns) ≡ true
    self n ns = or-left (bytes_eq n n) (is_among n ns) (bytes_eq_self n)

    next : (m n : List ℕ) (ns : List (List ℕ)) → is_among n (m ∷ n ∷ ns) ≡ true
    next m n ns = or-right (bytes_eq n m) (is_among n (n ∷ ns)) (self n ns)

    from-append : (cs : List (List ℕ)) (xs ys : List Edge) → PayFrom cs xs → PayFrom cs ys → PayFrom cs (xs ++ ys)
    from-append cs [] ys h k = k
    from-append cs (x ∷ xs) ys h k = (h.0, from-append cs xs ys h.1 k)

    -- so do transfers from one of these
    moved-from : (cs : List (List ℕ)) (f : List ℕ) (xs : List Edge) → is_among f cs ≡ true → AreFrom f xs → PayFrom cs xs
    moved-from cs f [] k h = tt
    moved-from cs f (moving g d ∷ xs) k h = ((subst (λ (n : List ℕ). is_among n cs ≡ true) (sym h.0) k, tt), moved-from cs f xs k h.1)
    moved-from cs f (claiming g j d ∷ xs) k h = absurd h

    edges-from : (f : List ℕ) (names : List (List ℕ)) (xs : List Item) → AreFrom f (edges_to f names xs)
    edges-from f names [] = tt
    edges-from f names (x ∷ xs) = both (edge_to f names x.to) (edges_to f names xs) (to x.to) (edges-from f names xs)
      where
        both : (xs ys : List Edge) → AreFrom f xs → AreFrom f ys → AreFrom f (xs ++ ys)
        both [] ys h k = k
        both (moving g d ∷ xs) ys h k = (h.0, both xs ys h.1 k)
        both (claiming g j d ∷ xs) ys h k = absurd h

        to : (d : Dest) → AreFrom f (edge_to f names d)
        to (Person n) = tt
        to (Channel n) = go (is_among n names) (bytes_eq n f)
          where
            go : (t u : Bool) → AreFrom f (cond t (cond u [] (moving f (Channel n) ∷ [])) [])
            go true true = tt
            go true false = (refl, tt)
            go false u = tt

    module _ (more : List ℕ → List Edge) (more-from : (x : List ℕ) → AreFrom x (more x)) (more-gone : (x : List ℕ) → Runs (more x) []) where
      out-from : (cs : List (List ℕ)) (me : List ℕ) (names : List (List ℕ)) (c : List ℕ) → is_among c cs ≡ true → PayFrom cs (out_edges items more names c ++ moving c (Person me) ∷ [])
      out-from cs me names c k =
          from-append cs (out_edges items more names c) (moving c (Person me) ∷ [])
          (from-append cs (edges_to c names (items c)) (more c) (moved-from cs c (edges_to c names (items c)) k (edges-from c names (items c))) (moved-from cs c (more c) k (more-from c)))
          ((k, tt), tt)

      root-from : (me : List ℕ) (names : List (List ℕ)) (p : Part) → PayFrom (exits p) (root_edges items more me names p)
      root-from me names (Root c) = out-from (c ∷ []) me names c (self c [])
      root-from me names (OnLedger l c) = tt
      root-from me names (End v) = tt
      root-from me names (Middle v) = tt

      part-from : (me : List ℕ) (ps : List Part) (p : Part) → FitsPart Backs p → PayFrom (exits p) (part_edges (onward_edges items more ps) me p)
      part-from me ps (Root c) h = tt
      part-from me ps (OnLedger l c) h = ((self c [], tt), tt)
      part-from me ps (End v) h =
          ((next v.channel (own_guarantor v) [], h.0), ((next v.channel (own_guarantor v) [], h.0), out-from (exits (End v)) me (passed_to ps v.channel) v.channel (self v.channel (own_guarantor v ∷ []))))
      part-from me ps (Middle v) h =
          ((self v.guarantor_a (v.guarantor_b ∷ []), h.0), ((next v.guarantor_a v.guarantor_b [], h.1), ((self v.guarantor_a (v.guarantor_b ∷ []), h.0), ((next v.guarantor_a v.guarantor_b [], h.1), tt))))

      roots-run : (me : List ℕ) (names : List (List ℕ)) (ps : List Part) → Runs (all_root_edges items more me names ps) (flat_map (of_each ended (root_calls ended me names)) ps)
      roots-run me names [] = nothing
      roots-run me names (p ∷ ps) =
          follows-append Gone IsFor (root_edges items more me names p) (all_root_edges items more me names ps) (of_each ended (root_calls ended me names) p) (flat_map (of_each ended (root_calls ended me names)) ps)
          (over-assets (root_edges items more me names p) (root_calls ended me names) p (root-from me names p) (root-part more more-from more-gone me names p))
          (roots-run me names ps)

      others-run : (me : List ℕ) (all ps : List Part) → AllByRecursion (FitsPart Backs) ps → Runs (other_edges (onward_edges items more all) me ps) (flat_map (of_each ended (other_calls ended me all)) ps)
      others-run me all [] h = nothing
      others-run me all (p ∷ ps) h =
          follows-append Gone IsFor (part_edges (onward_edges items more all) me p) (other_edges (onward_edges items more all) me ps)
          (of_each ended (other_calls ended me all) p) (flat_map (of_each ended (other_calls ended me all)) ps)
          (over-assets (part_edges (onward_edges items more all) me p) (other_calls ended me all) p (part-from me all p h.0) (other-part more more-from more-gone me all p h.0))
          (others-run me all ps h.1)

      -- the edges of the roots and of the other parts follow the list
      pub list-run : (me : List ℕ) (ps : List Part) → AllByRecursion (FitsPart Backs) ps →
          Runs (all_root_edges items more me (channels ps) ps ++ other_edges (onward_edges items more ps) me ps) (exit_calls ended me ps)
      list-run me ps h =
          follows-append Gone IsFor (all_root_edges items more me (channels ps) ps) (other_edges (onward_edges items more ps) me ps)
          (flat_map (of_each ended (root_calls ended me (channels ps))) ps) (flat_map (of_each ended (other_calls ended me ps)) ps)
          (roots-run me (channels ps) ps) (others-run me ps ps h)
