-- What a row of a root's table wants: a repeated state in the two rows of the set-up, and a final state in that of
-- closing.
use Rattle.std.proofs.Common.{◌≡◌, ℕ, ◌*◌, ◌-◌, Bool, true, false, cond, ◌||◌, List, [], ◌∷◌, ◌⊎◌, inl, inr, refl}
use Rattle.std.specs.Prelude.{◌==◌, not, ◌&&◌, Option, Some, None}
use Rattle.std.specs.Str.{bytes_eq}
use Rattle.call_history.specs.Mode.{is_final}
use Rattle.channel_values.specs.Parts.{StateParts}
use Rattle.call_history.specs.declared.call.Call.{Call}
use Rattle.funding_plans.specs.Rows.{Row, signing, calling, waiting, stage_in, wanted_in}
use Rattle.funding_plans.specs.Seats.{holds, is_set_up, repeats, final_state}
use Rattle.ledger_channel.specs.Roots.{Direct, deposits, is_funded, is_any_due, transfers, concluding, people, root_rows}
use Rattle.channel_safety.proofs.Tests.{none-eq}

-- rows as a root has them, by which of them are left
abbrev rows : (name : List ℕ) → (l0 l1 l2 l3 l4 l5 : Bool) → (w0 w2 w4 : Option StateParts) → (c1 c5 c6 : List Call) → List Row
rows name l0 l1 l2 l3 l4 l5 w0 w2 w4 c1 c5 c6 =
    signing l0 (record { channel = name; state = w0 } ∷ []) ∷ calling l1 c1 ∷ signing l2 (record { channel = name; state = w2 } ∷ [])
    ∷ waiting l3 ∷ signing l4 (record { channel = name; state = w4 } ∷ []) ∷ calling l5 c5 ∷ calling false c6 ∷ []

-- which row wants the state
data Row_of (l0 l2 l3 l4 : Bool) (w0 w2 w4 : Option StateParts) (s : StateParts) : Type 0 where
  first : l0 ≡ false → w0 ≡ Some s → Row_of l0 l2 l3 l4 w0 w2 w4 s
  second : l2 ≡ false → w2 ≡ Some s → Row_of l0 l2 l3 l4 w0 w2 w4 s
  third : l3 ≡ true → l4 ≡ false → w4 ≡ Some s → Row_of l0 l2 l3 l4 w0 w2 w4 s

picks : (b : Bool) (w : Option StateParts) (s : StateParts) → cond b w None ≡ Some s → w ≡ Some s
picks true w s e = e
picks false w s e = absurd (none-eq s e)

row-of : (name channel : List ℕ) (l0 l1 l2 l3 l4 l5 : Bool) (w0 w2 w4 : Option StateParts) (c1 c5 c6 : List Call) (s : StateParts)
    → wanted_in channel (rows name l0 l1 l2 l3 l4 l5 w0 w2 w4 c1 c5 c6) ≡ Some s
    → ((stage_in (rows name l0 l1 l2 l3 l4 l5 w0 w2 w4 c1 c5 c6) == 6) ≡ false) × Row_of l0 l2 l3 l4 w0 w2 w4 s
row-of name channel false l1 l2 l3 l4 l5 w0 w2 w4 c1 c5 c6 s e = (refl, first refl (picks (bytes_eq name channel) w0 s e))
row-of name channel true false l2 l3 l4 l5 w0 w2 w4 c1 c5 c6 s e = absurd (none-eq s e)
row-of name channel true true false l3 l4 l5 w0 w2 w4 c1 c5 c6 s e = (refl, second refl (picks (bytes_eq name channel) w2 s e))
row-of name channel true true true false l4 l5 w0 w2 w4 c1 c5 c6 s e = absurd (none-eq s e)
row-of name channel true true true true false l5 w0 w2 w4 c1 c5 c6 s e = (refl, third refl refl (picks (bytes_eq name channel) w4 s e))
row-of name channel true true true true true false w0 w2 w4 c1 c5 c6 s e = absurd (none-eq s e)
row-of name channel true true true true true true w0 w2 w4 c1 c5 c6 s e = absurd (none-eq s e)

-- what is wanted, by the stage: a repeated state of the set-up, or a final state where Close was commanded and the
-- participant didn't let go of it
pub data IsWanted (d : Direct) (s : StateParts) : Type 0 where
  opens : (from until : ℕ) → (until ≡ people d) ⊎ (until ≡ 2 * people d) → repeats from until d.channel ≡ Some s → IsWanted d s
  closes : d.closing ≡ true → d.over ≡ false → d.channel.all_final ≡ false → final_state d.channel ≡ Some s → IsWanted d s

-- where the participant let go of it nothing is wanted
none-in : (name channel : List ℕ) (closing over l0 l1 k1 l2 l4 l5 : Bool) (w0 w2 w4 : Option StateParts) (c1 c5 c6 : List Call) → closing ≡ true → over ≡ true
    → wanted_in channel (rows name (closing || l0) (closing || l1 || k1) (closing || l2) closing (over || l4) (over || l5) w0 w2 w4 c1 c5 c6) ≡ None
none-in name channel true true l0 l1 k1 l2 l4 l5 w0 w2 w4 c1 c5 c6 e o = refl
none-in name channel true false l0 l1 k1 l2 l4 l5 w0 w2 w4 c1 c5 c6 e o = absurd cc
none-in name channel false over l0 l1 k1 l2 l4 l5 w0 w2 w4 c1 c5 c6 e o = absurd cc

pub none-wanted : (d : Direct) (channel : List ℕ) → d.closing ≡ true → d.over ≡ true → wanted_in channel (root_rows d) ≡ None
none-wanted d channel closing over =
    none-in d.channel.name channel d.closing d.over (is_set_up d.channel) (is_funded d) (holds (people d) d.channel) (holds (2 * people d - 1) d.channel)
    d.channel.all_final (is_final d.standing && not (is_any_due d))
    (repeats 0 (people d) d.channel) (repeats (people d) (2 * people d) d.channel) (final_state d.channel) (deposits d) (concluding d d.standing) (cond (d.over && is_final d.standing) (transfers d) []) closing over

neither : (a b : Bool) → (a || b) ≡ false → (a ≡ false) × (b ≡ false)
neither true b e = absurd (tf e)
  where
    tf : true ≡ false → ⊥
    tf h = cc
neither false b e = (refl, e)

pub wants : (d : Direct) (channel : List ℕ) (s : StateParts) → wanted_in channel (root_rows d) ≡ Some s → ((stage_in (root_rows d) == 6) ≡ false) × IsWanted d s
wants d channel s e =
    let found =
    row-of d.channel.name channel (d.closing || is_set_up d.channel) (d.closing || is_funded d || holds (people d) d.channel)
    (d.closing || holds (2 * people d - 1) d.channel) d.closing (d.over || d.channel.all_final) (d.over || (is_final d.standing && not (is_any_due d)))
    (repeats 0 (people d) d.channel) (repeats (people d) (2 * people d) d.channel) (final_state d.channel) (deposits d) (concluding d d.standing) (cond (d.over && is_final d.standing) (transfers d) []) s e in
    (found.0, go found.1)
  where
    go : Row_of (d.closing || is_set_up d.channel) (d.closing || holds (2 * people d - 1) d.channel) d.closing (d.over || d.channel.all_final)
        (repeats 0 (people d) d.channel) (repeats (people d) (2 * people d) d.channel) (final_state d.channel) s → IsWanted d s
    go (first l w) = opens 0 (people d) (inl refl) w
    go (second l w) = opens (people d) (2 * people d) (inr refl) w
    go (third c l w) = let n = neither d.over d.channel.all_final l in closes c n.0 n.1 w
