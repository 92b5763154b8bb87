-- The rows of a view: their places in a table of names, and a row that is taken out and put back.
use Rattle.std.proofs.Common.{◌≡◌, ℕ, zero, suc, ◌<◌, ◌≤◌, List, [], ◌∷◌, ◌++◌, Bool, true, false, cond, ◌&&◌, length, set, get_or, Some, None, refl, sym, ◌∙◌, ap, arith}
use Rattle.std.proofs.lemmas.Bool.{eqb-true}
use Rattle.std.proofs.lemmas.List.Folds.{find_at}
use Rattle.std.specs.Prelude.{◌==◌, unwrap_or}
use Rattle.std.specs.List.{position, position_or_len, find, slice_get}
use Rattle.std.specs.Map.{lookup}
use Rattle.std.specs.Str.{bytes_eq}
use Rattle.indexmap.specs.IndexMap.{insert_entry}
use Rattle.call_history.specs.Tables.{found}
use Rattle.call_history.specs.Viewed.{unknown, is_of, view_of, views_with, ArePlaced, is_paid, paid_amount, paid_with, same_key, paid_rows}
use Rattle.call_history.specs.declared.view.ChannelView.{ChannelView}
use Rattle.call_history.proofs.Names.{same_bytes, bytes_eq_self}
use Rattle.call_history.proofs.Placed as places
use Rattle.call_history.proofs.Placed.{position_some, position_none, at_end}
use Rattle.call_history.proofs.Tabled.{found_at, none_at, change_there, change_added, found_added, changed_same}

-- ---- the table of names

-- what is added of a new name has the last place
pub placed_new : (before after : List (List ℕ × ℕ)) (views : List ChannelView) (v : ChannelView)
    → ArePlaced before views → lookup (bytes_eq v.channel) before ≡ None
    → ((c : List ℕ) → lookup (bytes_eq c) after ≡ cond (bytes_eq v.channel c) (Some (length views)) (lookup (bytes_eq c) before))
    → ArePlaced after (views ++ v ∷ [])
placed_new = places.placed_new (λ (v : ChannelView). v.channel)

-- of a name that has a place the first row is meant
pub placed_again : (places : List (List ℕ × ℕ)) (views : List ChannelView) (v : ChannelView) (i : ℕ)
    → ArePlaced places views → lookup (bytes_eq v.channel) places ≡ Some i → ArePlaced places (views ++ v ∷ [])
placed_again = places.placed_again (λ (v : ChannelView). v.channel)

-- what stands in place of another of the same name
pub placed_set : (places : List (List ℕ × ℕ)) (views : List ChannelView) (i : ℕ) (v : ChannelView)
    → ArePlaced places views → (get_or views i v).channel ≡ v.channel → ArePlaced places (set views i v)
placed_set = places.placed_set (λ (v : ChannelView). v.channel)

-- ---- the row of a channel

pub view_there : (channel : List ℕ) (views : List ChannelView) (i : ℕ) (d : ChannelView) → position (is_of channel) views ≡ Some i
    → get_or views i d ≡ view_of views channel
view_there channel views i d e =
    let at = position_some (is_of channel) views i e in found_at (is_of channel) (unknown channel) d views i at.0 at.1

pub view_past : (channel : List ℕ) (views : List ChannelView) → position (is_of channel) views ≡ None → view_of views channel ≡ unknown channel
view_past channel views e =
    sym (none_at (is_of channel) (unknown channel) views (position_or_len (is_of channel) views) refl (position_none (is_of channel) views e))

pub find_there : (channel : List ℕ) (views : List ChannelView) (i : ℕ) (d : ChannelView) → position (is_of channel) views ≡ Some i
    → find (is_of channel) views ≡ Some (get_or views i d)
find_there channel views i d e =
    let at = position_some (is_of channel) views i e in
    find_at (is_of channel) views ∙ ap (λ (k : ℕ). slice_get views k) (sym at.0) ∙ there views i at.1
  where
    there : (xs : List ChannelView) (k : ℕ) → k < length xs → slice_get xs k ≡ Some (get_or xs k d)
    there [] k l = absurd (omega (arith, l))
    there (y ∷ ys) zero l = refl
    there (y ∷ ys) (suc k) l = there ys k (omega (arith, l))

pub find_past : (channel : List ℕ) (views : List ChannelView) → position (is_of channel) views ≡ None → find (is_of channel) views ≡ None
find_past channel views e = find_at (is_of channel) views ∙ past views (position_or_len (is_of channel) views) (position_none (is_of channel) views e)
  where
    past : (xs : List ChannelView) (k : ℕ) → length xs ≤ k → slice_get xs k ≡ None
    past [] k l = refl
    past (y ∷ ys) zero l = absurd (omega (arith, l))
    past (y ∷ ys) (suc k) l = past ys k (omega (arith, l))

-- what is found of a channel is the channel's
pub view_named : (views : List ChannelView) (channel : List ℕ) → (view_of views channel).channel ≡ channel
view_named [] channel = refl
view_named (v ∷ vs) channel = go (bytes_eq v.channel channel) refl (view_named vs channel)
  where
    go : (b : Bool) → bytes_eq v.channel channel ≡ b → (view_of vs channel).channel ≡ channel
        → (cond b v (view_of vs channel)).channel ≡ channel
    go true e ih = same_bytes v.channel channel e
    go false e ih = ih

pub changed_there : (channel : List ℕ) (views : List ChannelView) (i : ℕ) (change : ChannelView → ChannelView) → position (is_of channel) views ≡ Some i
    → set views i (change (view_of views channel)) ≡ views_with change channel views
changed_there channel views i change e =
    let at = position_some (is_of channel) views i e in change_there (is_of channel) change (unknown channel) views i at.0 at.1

-- where there was none, one of which nothing is known was added
pub view_added : (channel : List ℕ) (views : List ChannelView) (i : ℕ) (d : ChannelView) → position (is_of channel) views ≡ None → length views ≡ i
    → get_or (views ++ unknown channel ∷ []) i d ≡ view_of views channel
view_added channel views i d e end =
    found_added (is_of channel) (unknown channel) d views i (at_end (is_of channel) views i e end) end

pub changed_added : (channel : List ℕ) (views : List ChannelView) (i : ℕ) (change : ChannelView → ChannelView)
    → position (is_of channel) views ≡ None → length views ≡ i
    → set (views ++ unknown channel ∷ []) i (change (view_of views channel)) ≡ views_with change channel views
changed_added channel views i change e end =
    change_added (is_of channel) change (unknown channel) views i (at_end (is_of channel) views i e end) end

-- a row that was taken out, changed, and put back
pub put_back : (change : ChannelView → ChannelView) (channel : List ℕ) (before between after : List ChannelView) (taken new : ChannelView)
    → taken ≡ view_of before channel
    → between ≡ views_with (λ v. unknown channel) channel before
    → new ≡ change taken → new.channel ≡ taken.channel
    → after ≡ views_with (λ v. new) new.channel between
    → after ≡ views_with change channel before
put_back change channel before between after taken new is out made named into =
    into
    ∙ ap (λ (n : List ℕ). views_with (λ v. new) n between) name
    ∙ ap (λ (vs : List ChannelView). views_with (λ v. new) channel vs) out
    ∙ twice before
    ∙ changed_same (is_of channel) (λ v. new) change (unknown channel) before (made ∙ ap change is)
  where
    name : new.channel ≡ channel
    name = named ∙ ap (λ (v : ChannelView). v.channel) is ∙ view_named before channel

    -- only the last change of a row counts
    twice : (views : List ChannelView)
        → views_with (λ v. new) channel (views_with (λ v. unknown channel) channel views) ≡ views_with (λ v. new) channel views
    twice [] = ap (λ (b : Bool). cond b (new ∷ []) (unknown channel ∷ new ∷ [])) (bytes_eq_self channel)
    twice (v ∷ vs) = go (bytes_eq v.channel channel) refl (twice vs)
      where
        go : (b : Bool) → bytes_eq v.channel channel ≡ b
            → views_with (λ v. new) channel (views_with (λ v. unknown channel) channel vs) ≡ views_with (λ v. new) channel vs
            → views_with (λ v. new) channel (cond b (unknown channel ∷ vs) (v ∷ views_with (λ v. unknown channel) channel vs))
            ≡ cond b (new ∷ vs) (v ∷ views_with (λ v. new) channel vs)
        go true e ih = ap (λ (b : Bool). cond b (new ∷ vs) (unknown channel ∷ views_with (λ v. new) channel vs)) (bytes_eq_self channel)
        go false e ih =
            ap (λ (b : Bool). cond b (new ∷ views_with (λ v. unknown channel) channel vs)
            (v ∷ views_with (λ v. new) channel (views_with (λ v. unknown channel) channel vs))) e
            ∙ ap (λ (ws : List ChannelView). v ∷ ws) ih

-- ---- what persons were paid

abbrev Key : Type 0
Key = List ℕ × ℕ

flip_bytes : (a b : List ℕ) → bytes_eq a b ≡ bytes_eq b a
flip_bytes a b = go (bytes_eq a b) refl (bytes_eq b a) refl
  where
    go : (x : Bool) → bytes_eq a b ≡ x → (y : Bool) → bytes_eq b a ≡ y → x ≡ y
    go true p true q = refl
    go false p false q = refl
    go true p false q = let other : bytes_eq b a ≡ true = ap (λ z. bytes_eq b z) (same_bytes a b p) ∙ bytes_eq_self b in absurd cc
    go false p true q = let other : bytes_eq a b ≡ true = ap (λ z. bytes_eq a z) (same_bytes b a q) ∙ bytes_eq_self a in absurd cc

flip_key : (e : Key × ℕ) (person : List ℕ) (asset : ℕ) → same_key (person, asset) e.0 ≡ is_paid person asset (e.0.0, e.0.1, e.1)
flip_key e person asset =
    ap (λ (b : Bool). b && (asset == e.0.1)) (flip_bytes person e.0.0) ∙ ap (λ (b : Bool). bytes_eq e.0.0 person && b) (flip_numbers asset e.0.1)
  where
    flip_numbers : (a b : ℕ) → (a == b) ≡ (b == a)
    flip_numbers a b = grind arith

both_true : (a b : Bool) → (a && b) ≡ true → (a ≡ true) × (b ≡ true)
both_true true b e = (refl, e)
both_true false b e = absurd (cc)

pub paid_there : (entries : List (Key × ℕ)) (person : List ℕ) (asset : ℕ)
    → unwrap_or (lookup (same_key (person, asset)) entries) 0 ≡ paid_amount (paid_rows entries) person asset
paid_there [] person asset = refl
paid_there (e ∷ es) person asset =
    go (same_key (person, asset) e.0) (paid_there es person asset)
    ∙ ap (λ (b : Bool). (cond b (e.0.0, e.0.1, e.1) (found (is_paid person asset) (person, asset, 0) (paid_rows es))).2) (flip_key e person asset)
  where
    go : (b : Bool) → unwrap_or (lookup (same_key (person, asset)) es) 0 ≡ paid_amount (paid_rows es) person asset
        → unwrap_or (cond b (Some e.1) (lookup (same_key (person, asset)) es)) 0
        ≡ (cond b (e.0.0, e.0.1, e.1) (found (is_paid person asset) (person, asset, 0) (paid_rows es))).2
    go true ih = refl
    go false ih = ih

pub paid_set : (entries : List (Key × ℕ)) (person : List ℕ) (asset amount : ℕ)
    → paid_rows (insert_entry same_key entries (person, asset) amount) ≡ paid_with (λ before. amount) person asset (paid_rows entries)
paid_set [] person asset amount = refl
paid_set (e ∷ es) person asset amount =
    go (same_key (person, asset) e.0) refl (paid_set es person asset amount)
    ∙ ap (λ (b : Bool). cond b ((person, asset, amount) ∷ paid_rows es)
    ((e.0.0, e.0.1, e.1) ∷ paid_with (λ before. amount) person asset (paid_rows es))) (flip_key e person asset)
  where
    go : (b : Bool) → same_key (person, asset) e.0 ≡ b
        → paid_rows (insert_entry same_key es (person, asset) amount) ≡ paid_with (λ before. amount) person asset (paid_rows es)
        → paid_rows (cond b ((e.0, amount) ∷ es) (e ∷ insert_entry same_key es (person, asset) amount))
        ≡ cond b ((person, asset, amount) ∷ paid_rows es) ((e.0.0, e.0.1, e.1) ∷ paid_with (λ before. amount) person asset (paid_rows es))
    go true same ih =
        let p = both_true (bytes_eq person e.0.0) (asset == e.0.1) same in
        λ i. (sym (same_bytes person e.0.0 p.0) i, sym (eqb-true asset e.0.1 p.1) i, amount) ∷ paid_rows es
    go false same ih = ap (λ (rows : List (List ℕ × ℕ × ℕ)). (e.0.0, e.0.1, e.1) ∷ rows) ih
