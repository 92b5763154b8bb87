-- What is read is spelled so, and valid.
use Rattle.std.proofs.Common.{◌≡◌, ℕ, zero, suc, ◌+◌, ◌-◌, ◌^◌, ◌<◌, ◌≤◌, Bool, true, false, cond, eqb, leb, List, [], ◌∷◌, ◌++◌, length, take, Result, Ok, refl, sym, ap, subst, ◌∙◌, append_assoc, arith, lit<, inl, inr, ◌⊎◌}
use Rattle.std.specs.List.{flat_map, list_any}
use Rattle.std.specs.Int.{w32, w64, to_be_bytes}
use Rattle.std.proofs.lemmas.Bool.{eqb-true, leb-false}
use Rattle.std.proofs.lemmas.List.{append-nil, length-append, take_at}
use Rattle.std.proofs.lemmas.List.Concat.{flat_map-cons}
use Rattle.channel_values.specs.declared.fault.ByteFault.{ByteFault}
use Rattle.channel_values.specs.declared.value.Dest.{Dest}
use Rattle.channel_values.specs.declared.value.Dest.TheVariants.{Person, Channel}
use Rattle.channel_values.specs.declared.value.Item.{Item}
use Rattle.channel_values.specs.declared.value.Shape.{Shape}
use Rattle.channel_values.specs.declared.value.Shape.TheVariants.{Allocation, Guarantee}
use Rattle.channel_values.specs.declared.value.AssetOutcome.{AssetOutcome}
use Rattle.channel_values.specs.Outcomes.{AreBytes, IsName, IsDest, is_same, pays_same, is_unordered, total, IsItem, AreItems, AreDests, IsShape, IsAssetOutcome, AreAssets, IsOutcome}
use Rattle.channel_values.specs.Spelling.{dest, item, count, shape, asset_outcome, outcome}
use Rattle.channel_values.specs.Reading.{byte_at, number_at, name_at, tagged, dest_at, many_at, item_at, listed_at, count_at, allocation_at, guarantee_at, shape_at, asset_at, outcome_at}
use Rattle.channel_values.proofs.Fields.{bind_ok, ok_is, passed, Takes, Takes-then, byte_takes, wide32, wide64, number_takes, name_takes, count_takes}
use Rattle.channel_values.proofs.Apart.{AreApart-push, Each-push}
use Rattle.channel_values.proofs.Loop.{total-push}

-- which way a test went
pub chosen : {A : Type 0} (b : Bool) (x y z : A) → cond b x y ≡ z → ((b ≡ true) × (x ≡ z)) ⊎ ((b ≡ false) × (y ≡ z))
chosen true x y z e = inl (refl, e)
chosen false x y z e = inr (refl, e)

tagged_takes : (whole : ℕ) (make : List ℕ → Dest) (bytes : List ℕ) (x : Dest × List ℕ) → AreBytes bytes → tagged whole make bytes ≡ Ok x → (name : List ℕ) × IsName name × (x.0 ≡ make name) × Takes bytes name x.1
tagged_takes whole make bytes x fits e =
    let a = bind_ok (name_at whole bytes) (λ name. Ok (make name.0, name.1)) x e in
    let t = name_takes whole bytes a.0 fits a.1 in
    let same = ok_is (make a.0.0, a.0.1) x a.2 in
    subst (λ (y : Dest × List ℕ). (name : List ℕ) × IsName name × (y.0 ≡ make name) × Takes bytes name y.1) same (a.0.0, t.1, refl, t.0)

-- a destination after its tag
dest_from_tag : (bytes : List ℕ) (tag : ℕ) (rest : List ℕ) (make : List ℕ → Dest) (x : Dest × List ℕ) → ((name : List ℕ) → dest (make name) ≡ tag ∷ name) → ((name : List ℕ) → IsName name → IsDest (make name))
    → Takes bytes (tag ∷ []) rest → ((name : List ℕ) × IsName name × (x.0 ≡ make name) × Takes rest name x.1) → Takes bytes (dest x.0) x.1 × IsDest x.0
dest_from_tag bytes tag rest make x spelled valid first named =
    let name = named.0 in
    let both : Takes bytes (tag ∷ name) x.1 = Takes-then bytes (tag ∷ []) rest name x.1 first named.3 in
    rw (named.2, spelled name) (both, valid name named.1)

dest_takes : (whole : ℕ) (bytes : List ℕ) (x : Dest × List ℕ) → AreBytes bytes → dest_at whole bytes ≡ Ok x → Takes bytes (dest x.0) x.1 × IsDest x.0
unfolding dest_at
dest_takes whole bytes x fits e =
    let a = bind_ok (byte_at whole bytes) _ x e in
    let t = byte_takes whole bytes a.0 fits a.1 in
    elim (chosen (eqb a.0.0 1) _ _ (Ok x) a.2) [
      | inl p ↦
          let tag : a.0.0 ≡ 1 = eqb-true _ _ p.0 in
          dest_from_tag bytes 1 a.0.1 (λ n. Person n) x (λ n. refl) (λ n h. h) (subst (λ (k : ℕ). Takes bytes (k ∷ []) a.0.1) tag t.0) (tagged_takes whole (λ n. Person n) a.0.1 x t.0.rest_fits p.1)
      | inr q ↦
          elim (chosen (eqb a.0.0 2) _ _ (Ok x) q.1) [
            | inl p ↦
                let tag : a.0.0 ≡ 2 = eqb-true _ _ p.0 in
                dest_from_tag bytes 2 a.0.1 (λ n. Channel n) x (λ n. refl) (λ n h. h) (subst (λ (k : ℕ). Takes bytes (k ∷ []) a.0.1) tag t.0) (tagged_takes whole (λ n. Channel n) a.0.1 x t.0.rest_fits p.1)
            | inr r ↦ absurd (let never = r.1 in cc)
          ]
    ]

item_takes : (whole : ℕ) (seen : List Item) (bytes : List ℕ) (x : Item × List ℕ) → AreItems seen → AreBytes bytes → item_at whole seen bytes ≡ Ok x → Takes bytes (item x.0) x.1 × AreItems (seen ++ x.0 ∷ [])
unfolding item_at
item_takes whole seen bytes x good fits e =
    let a = bind_ok (dest_at whole bytes) _ x e in
    let fresh = passed (list_any (λ i. is_same i.to a.0.0) seen) _ _ x a.2 in
    let b = bind_ok (number_at whole w64 a.0.1) _ x fresh.1 in
    let within = passed (leb (2 ^ 64) (total seen + b.0.0)) _ _ x b.2 in
    let t0 = dest_takes whole bytes a.0 fits a.1 in
    let t1 = number_takes whole w64 (2 ^ 64) wide64 a.0.1 b.0 t0.0.rest_fits b.1 in
    let made : Item = record { to = a.0.0; amount = b.0.0 } in
    let fit : total seen + b.0.0 < 2 ^ 64 = leb-false _ _ within.0 in
    let more : AreItems (seen ++ made ∷ []) = record {
      each = Each-push IsItem seen made good.each (t0.1, t1.1);
      apart = AreApart-push pays_same seen made good.apart fresh.0;
      within = rw (total-push seen made) fit;
    } in
    subst (λ (y : Item × List ℕ). Takes bytes (item y.0) y.1 × AreItems (seen ++ y.0 ∷ [])) (ok_is (made, b.0.1) x within.1) (Takes-then bytes (dest a.0.0) a.0.1 (to_be_bytes w64 b.0.0) b.0.1 t0.0 t1.0, more)

listed_takes : (whole : ℕ) (seen : List Dest) (bytes : List ℕ) (x : Dest × List ℕ) → AreDests seen → AreBytes bytes → listed_at whole seen bytes ≡ Ok x → Takes bytes (dest x.0) x.1 × AreDests (seen ++ x.0 ∷ [])
unfolding listed_at
listed_takes whole seen bytes x good fits e =
    let a = bind_ok (dest_at whole bytes) _ x e in
    let fresh = passed (list_any (λ d. is_same d a.0.0) seen) _ _ x a.2 in
    let t = dest_takes whole bytes a.0 fits a.1 in
    let more : AreDests (seen ++ a.0.0 ∷ []) = record {
      each = Each-push IsDest seen a.0.0 good.each t.1;
      apart = AreApart-push is_same seen a.0.0 good.apart fresh.0;
    } in
    subst (λ (y : Dest × List ℕ). Takes bytes (dest y.0) y.1 × AreDests (seen ++ y.0 ∷ [])) (ok_is a.0 x fresh.1) (t.0, more)

-- Values one after the other: what is read is spelled so, and good after those seen.
pub many_take : {X : Type 0} (one : List X → List ℕ → Result (X × List ℕ) ByteFault) (spell : X → List ℕ) (Good : List X → Type 0)
    → ((seen : List X) (bytes : List ℕ) (x : X × List ℕ) → Good seen → AreBytes bytes → one seen bytes ≡ Ok x → Takes bytes (spell x.0) x.1 × Good (seen ++ x.0 ∷ []))
    → (n : ℕ) (seen : List X) (bytes : List ℕ) (y : List X × List ℕ) → Good seen → AreBytes bytes → many_at one seen n bytes ≡ Ok y
    → (new : List X) × (y.0 ≡ seen ++ new) × (length new ≡ n) × Takes bytes (flat_map spell new) y.1 × Good y.0
unfolding many_at
many_take {X} one spell Good step zero seen bytes y good fits e =
    subst (λ (z : List X × List ℕ). (new : List X) × (z.0 ≡ seen ++ new) × (length new ≡ 0) × Takes bytes (flat_map spell new) z.1 × Good z.0) (ok_is (seen, bytes) y e)
    ([], sym (append-nil seen), refl, record { parts = refl; rest_fits = fits }, good)
many_take {X} one spell Good step (suc n) seen bytes y good fits e =
    let a = bind_ok (one seen bytes) _ y e in
    let first = step seen bytes a.0 good fits a.1 in
    let others = many_take one spell Good step n (seen ++ a.0.0 ∷ []) a.0.1 y first.1 first.0.rest_fits a.2 in
    let both = Takes-then bytes (spell a.0.0) a.0.1 (flat_map spell others.0) y.1 first.0 others.3 in
    (a.0.0 ∷ others.0, others.1 ∙ append_assoc seen (a.0.0 ∷ []) others.0, ap suc others.2, rw flat_map-cons both, others.4)

pub count_is : (n k limit : ℕ) → n ≡ k → k ≤ limit → limit < 256 → k ≡ count n
count_is n k limit e le lt = omega arith

no_items : AreItems []
no_items = record { each = tt; apart = tt; within = lit< tt }

no_dests : AreDests []
no_dests = record { each = tt; apart = tt }

no_assets : AreAssets []
no_assets = record { each = tt; rising = tt }

allocation_takes : (whole : ℕ) (bytes : List ℕ) (x : Shape × List ℕ) → AreBytes bytes → allocation_at whole bytes ≡ Ok x → Takes (1 ∷ bytes) (shape x.0) x.1 × IsShape x.0
unfolding allocation_at
allocation_takes whole bytes x fits e =
    let a = bind_ok (count_at whole 16 bytes) _ x e in
    let b = bind_ok (many_at (item_at whole) [] a.0.0 a.0.1) _ x a.2 in
    let t0 = count_takes whole 16 bytes a.0 fits a.1 in
    let t1 = many_take (item_at whole) item AreItems (item_takes whole) a.0.0 [] a.0.1 b.0 no_items t0.0.rest_fits b.1 in
    let items : List Item = t1.0 in
    let good : AreItems items = rw (← t1.1) t1.4 in
    let counted : Takes bytes (count (length items) ∷ []) a.0.1 = subst (λ (k : ℕ). Takes bytes (k ∷ []) a.0.1) (count_is (length items) a.0.0 16 t1.2 t0.1 (lit< tt)) t0.0 in
    let both = Takes-then bytes (count (length items) ∷ []) a.0.1 (flat_map item items) b.0.1 counted t1.3 in
    let all : Takes (1 ∷ bytes) (shape (Allocation items)) b.0.1 = record { parts = ap (λ (w : List ℕ). 1 ∷ w) both.parts; rest_fits = both.rest_fits } in
    let few : length items ≤ 16 = omega (arith, t1.2, t0.1) in
    let same : b.0.0 ≡ items = t1.1 in
    subst (λ (y : Shape × List ℕ). Takes (1 ∷ bytes) (shape y.0) y.1 × IsShape y.0) (ap (λ (v : List Item). (Allocation v, b.0.1)) (sym same) ∙ ok_is (Allocation b.0.0, b.0.1) x b.2) (all, (few, good))

guarantee_takes : (whole : ℕ) (bytes : List ℕ) (x : Shape × List ℕ) → AreBytes bytes → guarantee_at whole bytes ≡ Ok x → Takes (2 ∷ bytes) (shape x.0) x.1 × IsShape x.0
unfolding guarantee_at
guarantee_takes whole bytes x fits e =
    let n = bind_ok (name_at whole bytes) _ x e in
    let a = bind_ok (count_at whole 16 n.0.1) _ x n.2 in
    let b = bind_ok (many_at (listed_at whole) [] a.0.0 a.0.1) _ x a.2 in
    let tn = name_takes whole bytes n.0 fits n.1 in
    let t0 = count_takes whole 16 n.0.1 a.0 tn.0.rest_fits a.1 in
    let t1 = many_take (listed_at whole) dest AreDests (listed_takes whole) a.0.0 [] a.0.1 b.0 no_dests t0.0.rest_fits b.1 in
    let dests : List Dest = t1.0 in
    let good : AreDests dests = rw (← t1.1) t1.4 in
    let counted : Takes n.0.1 (count (length dests) ∷ []) a.0.1 = subst (λ (k : ℕ). Takes n.0.1 (k ∷ []) a.0.1) (count_is (length dests) a.0.0 16 t1.2 t0.1 (lit< tt)) t0.0 in
    let both = Takes-then n.0.1 (count (length dests) ∷ []) a.0.1 (flat_map dest dests) b.0.1 counted t1.3 in
    let named = Takes-then bytes n.0.0 n.0.1 (count (length dests) ∷ flat_map dest dests) b.0.1 tn.0 both in
    let all : Takes (2 ∷ bytes) (shape (Guarantee n.0.0 dests)) b.0.1 = record { parts = ap (λ (w : List ℕ). 2 ∷ w) named.parts; rest_fits = named.rest_fits } in
    let few : length dests ≤ 16 = omega (arith, t1.2, t0.1) in
    let same : b.0.0 ≡ dests = t1.1 in
    subst (λ (y : Shape × List ℕ). Takes (2 ∷ bytes) (shape y.0) y.1 × IsShape y.0) (ap (λ (v : List Dest). (Guarantee n.0.0 v, b.0.1)) (sym same) ∙ ok_is (Guarantee n.0.0 b.0.0, b.0.1) x b.2) (all, (tn.1, few, good))

shape_takes : (whole : ℕ) (bytes : List ℕ) (x : Shape × List ℕ) → AreBytes bytes → shape_at whole bytes ≡ Ok x → Takes bytes (shape x.0) x.1 × IsShape x.0
unfolding shape_at
shape_takes whole bytes x fits e =
    let a = bind_ok (byte_at whole bytes) _ x e in
    let t = byte_takes whole bytes a.0 fits a.1 in
    elim (chosen (eqb a.0.0 1) _ _ (Ok x) a.2) [
      | inl p ↦
          let kind : bytes ≡ 1 ∷ a.0.1 = t.0.parts ∙ ap (λ (k : ℕ). k ∷ a.0.1) (eqb-true _ _ p.0) in
          subst (λ (w : List ℕ). Takes w (shape x.0) x.1 × IsShape x.0) (sym kind) (allocation_takes whole a.0.1 x t.0.rest_fits p.1)
      | inr q ↦
          elim (chosen (eqb a.0.0 2) _ _ (Ok x) q.1) [
            | inl p ↦
                let kind : bytes ≡ 2 ∷ a.0.1 = t.0.parts ∙ ap (λ (k : ℕ). k ∷ a.0.1) (eqb-true _ _ p.0) in
                subst (λ (w : List ℕ). Takes w (shape x.0) x.1 × IsShape x.0) (sym kind) (guarantee_takes whole a.0.1 x t.0.rest_fits p.1)
            | inr r ↦ absurd (let never = r.1 in cc)
          ]
    ]

asset_takes : (whole : ℕ) (seen : List AssetOutcome) (bytes : List ℕ) (x : AssetOutcome × List ℕ) → AreAssets seen → AreBytes bytes → asset_at whole seen bytes ≡ Ok x → Takes bytes (asset_outcome x.0) x.1 × AreAssets (seen ++ x.0 ∷ [])
unfolding asset_at
asset_takes whole seen bytes x good fits e =
    let a = bind_ok (number_at whole w32 bytes) _ x e in
    let above = passed (list_any (λ o. leb a.0.0 o.asset) seen) _ _ x a.2 in
    let b = bind_ok (shape_at whole a.0.1) _ x above.1 in
    let t0 = number_takes whole w32 (2 ^ 32) wide32 bytes a.0 fits a.1 in
    let t1 = shape_takes whole a.0.1 b.0 t0.0.rest_fits b.1 in
    let made : AssetOutcome = record { asset = a.0.0; shape = b.0.0 } in
    let more : AreAssets (seen ++ made ∷ []) = record {
      each = Each-push IsAssetOutcome seen made good.each (t0.1, t1.1);
      rising = AreApart-push is_unordered seen made good.rising above.0;
    } in
    subst (λ (y : AssetOutcome × List ℕ). Takes bytes (asset_outcome y.0) y.1 × AreAssets (seen ++ y.0 ∷ [])) (ok_is (made, b.0.1) x b.2) (Takes-then bytes (to_be_bytes w32 a.0.0) a.0.1 (shape b.0.0) b.0.1 t0.0 t1.0, more)

pub outcome_takes : (whole : ℕ) (bytes : List ℕ) (x : List AssetOutcome × List ℕ) → AreBytes bytes → outcome_at whole bytes ≡ Ok x → Takes bytes (outcome x.0) x.1 × IsOutcome x.0
unfolding outcome_at outcome
outcome_takes whole bytes x fits e =
    let a = bind_ok (count_at whole 4 bytes) _ x e in
    let t0 = count_takes whole 4 bytes a.0 fits a.1 in
    let t1 = many_take (asset_at whole) asset_outcome AreAssets (asset_takes whole) a.0.0 [] a.0.1 x no_assets t0.0.rest_fits a.2 in
    let os : List AssetOutcome = t1.0 in
    let good : AreAssets os = rw (← t1.1) t1.4 in
    let counted : Takes bytes (count (length os) ∷ []) a.0.1 = subst (λ (k : ℕ). Takes bytes (k ∷ []) a.0.1) (count_is (length os) a.0.0 4 t1.2 t0.1 (lit< tt)) t0.0 in
    let both = Takes-then bytes (count (length os) ∷ []) a.0.1 (flat_map asset_outcome os) x.1 counted t1.3 in
    let few : length os ≤ 4 = omega (arith, t1.2, t0.1) in
    let same : x.0 ≡ os = t1.1 in
    subst (λ (v : List AssetOutcome). Takes bytes (outcome v) x.1 × IsOutcome v) (sym same) (both, (few, good))

-- the front of the bytes, as a value's spelling
pub front_is : (bytes text rest : List ℕ) → bytes ≡ text ++ rest → (length rest ≤ length bytes) × (take (length bytes - length rest) bytes ≡ text)
front_is bytes text rest e =
    let long : length bytes ≡ length text + length rest = ap length e ∙ length-append text rest in
    (omega arith, ap (take (length bytes - length rest)) e ∙ take_at text rest (length bytes - length rest) (omega arith))
