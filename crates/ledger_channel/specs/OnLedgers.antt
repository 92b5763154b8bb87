-- The stages of a payment channel that a ledger funds.
use Rattle.std.specs.Prelude.{ℕ, Bool, not, ◌&&◌, ◌||◌, List, [], ◌∷◌, Option, None, if◌then◌else◌, nat_le, nat_lt}
use Rattle.std.specs.Str.{bytes_eq}
use Rattle.channel_values.specs.declared.value.AssetOutcome.{AssetOutcome}
use Rattle.channel_values.specs.Parts.{StateParts}
use Rattle.funding_plans.specs.Seats.{Seat, state_is, is_state_final, holds, has_signed_past, repeats, final_state, toward, settled_on, up_in, down_in, is_down, amounts_after, takes_payment, takes_vote, is_spelled}
use Rattle.funding_plans.specs.declared.child.Child.{Child}
use Rattle.funding_plans.specs.Rows.{Row, ◌⊢◌, signing, waiting, stage_in}

-- the channel, its ledger, what is set aside for it, and whether Close was commanded
pub record Funded : Type 0 where
  pub channel : Seat
  pub ledger : Seat
  pub child : Child
  pub closing : Bool

abbrev pub target_up : Funded → Option (List AssetOutcome)
target_up p = up_in p.child p.ledger

-- what the channel's latest state says goes back to the two people
abbrev pub ends_now : Funded → Option (ℕ × ℕ)
ends_now p = amounts_after p.child.asset p.child.first p.child.second p.channel.top

abbrev pub target_down : Funded → Option (List AssetOutcome)
target_down p = down_in p.child p.ledger (ends_now p)

abbrev pub is_settled_up : Funded → Bool
is_settled_up p = has_signed_past p.channel || settled_on (target_up p) p.ledger

abbrev pub on_ledger_rows : Funded → List Row
on_ledger_rows p =
    -- 0 setup
    signing (p.closing || holds 1 p.channel) ((p.channel ⊢ repeats 0 2 p.channel) ∷ [])
    -- 1 ledger up
    ∷ signing (p.closing || is_settled_up p) ((p.ledger ⊢ toward (target_up p) p.ledger) ∷ [])
    -- 2 post
    ∷ signing (p.closing || holds 3 p.channel) ((p.channel ⊢ repeats 2 4 p.channel) ∷ [])
    -- 3 running
    ∷ waiting p.closing
    -- 4 finals
    ∷ signing p.channel.all_final ((p.channel ⊢ final_state p.channel) ∷ [])
    -- 5 ledger down
    ∷ signing (is_down p.child p.ledger) ((p.ledger ⊢ toward (target_down p) p.ledger) ∷ [])
    -- 6 closed
    ∷ []

abbrev pub on_ledger_stage : Funded → ℕ
on_ledger_stage p = stage_in (on_ledger_rows p)

-- the target in the ledger now: up in the opening stages, down in the closing ones once the channel's latest state is
-- final
abbrev pub ledger_target : Funded → ℕ → Option (List AssetOutcome)
ledger_target p stage =
    if not p.closing then (if nat_le stage 2 then target_up p else None)
    else (if nat_lt stage 6 && state_is is_state_final p.channel.top then target_down p else None)

abbrev pub on_ledger_takes : Funded → List ℕ → StateParts → Bool
on_ledger_takes p name s =
    if bytes_eq p.channel.name name then takes_payment p.channel s
    else (bytes_eq p.ledger.name name && takes_vote (is_spelled (ledger_target p (on_ledger_stage p))) p.ledger s)
