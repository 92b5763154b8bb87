-- The one spelling of each call and of each message: a call's tag, and the fields in their order.
use Rattle.std.specs.Prelude.{ℕ, List, [], ◌∷◌, ◌++◌}
use Rattle.std.specs.Int.{w32, w64, to_be_bytes}
use Rattle.channel_values.specs.declared.chain.Signed.{Signed}
use Rattle.channel_values.specs.Spelling.{outcome, sized, state, fixed, signed, chain}
use Rattle.call_history.specs.declared.call.Call.{Call}
use Rattle.call_history.specs.declared.call.Call.TheVariants.{Deposit, Challenge, Respond, Refute, Checkpoint, Conclude, Transfer, Claim}

-- tags 1 to 8
unfoldable pub call : Call → List ℕ
call (Deposit d) =
    1 ∷ (d.channel ++ (to_be_bytes w32 d.asset ++ (to_be_bytes w64 d.expected ++ to_be_bytes w64 d.amount)))
call (Challenge k) = 2 ∷ (chain k.chain ++ (k.challenger ∷ sized k.signature))
call (Respond k) = 3 ∷ (fixed k.fixed ++ (state k.from ++ signed k.next))
call (Refute f next) = 4 ∷ (fixed f ++ signed next)
call (Checkpoint c) = 5 ∷ chain c
call (Conclude c) = 6 ∷ chain c
call (Transfer k) =
    7 ∷ (k.channel ++ (outcome k.outcome ++ (to_be_bytes w32 k.asset ++ (k.index ∷ []))))
call (Claim k) =
    8 ∷ (k.guarantor ++ (outcome k.guarantor_outcome ++ (k.target ++ (outcome k.target_outcome
    ++ (to_be_bytes w32 k.asset ++ (k.position ∷ []))))))

-- a channel's name, and a signed state of it
abbrev pub Message : Type 0
Message = List ℕ × Signed

unfoldable pub message : Message → List ℕ
message m = m.0 ++ signed m.1
