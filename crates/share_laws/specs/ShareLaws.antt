-- Nobody lowers the share of a person by a deposit, a transfer or a claim.
use Rattle.std.specs.Prelude.{◌≡◌, ℕ, ◌≤◌, Bool, true, false, not, ◌||◌, List, ◌∷◌, length}
use Rattle.channel_values.specs.Rules.{Rules}
use Rattle.call_history.specs.History.{Legal, is_accepted}
use Rattle.call_history.specs.declared.call.Call.TheVariants.{Deposit, Transfer, Claim}
use Rattle.call_history.specs.declared.call.Op.{Op}
use Rattle.call_history.specs.declared.call.Op.TheVariants as ops
use Rattle.call_history.specs.declared.entry.Entry.{Entry}
use Rattle.channel_safety.specs.Journals.{In, Line, is_watched}
use Rattle.share_laws.specs.Places.{Order, plan, counting, share}
use Rattle.channel_safety.specs.Occurring.{NoCollision}
use Rattle.share_laws.specs.Sound.{IsSound}

abbrev pub moves_funds : Op → Bool
moves_funds (ops.Call (Deposit d)) = true
moves_funds (ops.Call (Transfer t)) = true
moves_funds (ops.Call (Claim k)) = true
moves_funds _ = false

-- the lines, but for looks, had seen no more than these entries
abbrev pub AreSeen : List Entry → List Line → Type 0
AreSeen past front = (x : Line) → In x front → is_watched x.deed ≡ false → x.seen ≤ length past

-- No deposit, transfer or claim by anybody, and no refused entry, lowers the share of a person whose plan is sound.
abbrev pub FlowsKeepShares : Type 0
FlowsKeepShares =
    (r : Rules) (me : List ℕ) (orders : ℕ → Order) (past : List Entry) (e : Entry) (front : List Line)
    → Legal r (e ∷ past) → NoCollision r (e ∷ past) front → AreSeen past front
    → IsSound me (plan orders front) (counting r past front)
    → (moves_funds e.op || not (is_accepted e.reply)) ≡ true
    → (asset : ℕ) → share r me orders past front asset ≤ share r me orders (e ∷ past) front asset
