-- The one spelling of a record: its fields in their order, numbers with their most significant byte first.
use Rattle.std.specs.Prelude.{ℕ, ◌/◌, ◌%◌, ◌^◌, List, [], ◌∷◌, ◌++◌, length}
use Rattle.std.specs.List.{flat_map}
use Rattle.std.specs.Int.{w32, w64, to_be_bytes}
use Rattle.channel_values.specs.Spelling.{count, flag, state, chain}
use Rattle.call_history.specs.Spelling.{call}
use Rattle.call_history.specs.declared.call.Op.{Op}
use Rattle.call_history.specs.declared.call.Op.TheVariants as ops
use Rattle.call_history.specs.declared.entry.Entry.{Entry}
use Rattle.call_history.specs.declared.held_chain.HeldChain.{HeldChain}
use Rattle.call_history.specs.declared.held_chain.Known.{Known}
use Rattle.funding_plans.specs.declared.plan.Part.{Part}
use Rattle.funding_plans.specs.declared.plan.Part.TheVariants.{Root, OnLedger, End, Middle}
use Rattle.funding_plans.specs.declared.plan.Virtual.{Virtual}
use Rattle.call_bytes.specs.Spelling.{long, reply}
use Rattle.run_record.specs.Numbers.{sum_number}
use Rattle.run_record.specs.declared.run_record.Sum.{Sum}
use Rattle.run_record.specs.declared.run_record.Ending.{Ending}
use Rattle.run_record.specs.declared.run_record.Record.{Record}

-- ---- entries

-- tags 1 and 2
unfoldable pub op : Op → List ℕ
op (ops.Call c) = 1 ∷ call c
op (ops.Time t) = 2 ∷ long t

-- its number, who entered it, what was entered, and the reply
unfoldable pub entry : Entry → List ℕ
entry e = to_be_bytes w32 e.number ++ (to_be_bytes w32 e.by ++ (op e.op ++ reply e.reply))

-- ---- sums

unfoldable pub summed : Sum → List ℕ
summed s = sum_number s.kind ∷ (s.name ++ (to_be_bytes w32 s.asset ++ long s.amount))

-- ---- endings

-- two names
abbrev pub Pair : Type 0
Pair = List ℕ × List ℕ

unfoldable pub pair : Pair → List ℕ
pair p = p.0 ++ p.1

-- the ledgers, the guarantors, the joint channel and the channel; an asset, the total, and whether the person is B
unfoldable pub virtual_part : Virtual → List ℕ
virtual_part v =
    pair (v.ledger_a, v.ledger_b) ++ (pair (v.guarantor_a, v.guarantor_b) ++ (pair (v.joint, v.channel)
    ++ (to_be_bytes w32 v.asset ++ (long v.total ++ flag v.side_b))))

-- tags 1 to 4
unfoldable pub part : Part → List ℕ
part (Root channel) = 1 ∷ channel
part (OnLedger ledger channel) = 2 ∷ (ledger ++ channel)
part (End v) = 3 ∷ virtual_part v
part (Middle v) = 4 ∷ virtual_part v

unfoldable pub known_state : Known → List ℕ
known_state k = k.channel ++ state k.last

unfoldable pub held_chain : HeldChain → List ℕ
held_chain h = h.channel ++ chain h.chain

-- 16 bytes: the upper half and the lower
abbrev pub wide : ℕ → List ℕ
wide n = long (n / 2 ^ 64) ++ long (n % 2 ^ 64)

-- an asset, and an amount of 16 bytes
abbrev pub Amount : Type 0
Amount = ℕ × ℕ

unfoldable pub share : Amount → List ℕ
share s = to_be_bytes w32 s.0 ++ wide s.1

-- a list after a count of one byte, and after one of four
abbrev pub few : {X : Type 0} → (X → List ℕ) → List X → List ℕ
few spell xs = count (length xs) ∷ flat_map spell xs

abbrev pub many : {X : Type 0} → (X → List ℕ) → List X → List ℕ
many spell xs = to_be_bytes w32 (length xs) ++ flat_map spell xs

-- the person, whose plan it is, the parts, the states signed last, the held chains, and the shares
unfoldable pub ending : Ending → List ℕ
ending e =
    e.person ++ (few part e.plan.parts ++ (few known_state e.known ++ (few held_chain e.chains ++ many share e.shares)))

-- the history, the sums and the endings
unfoldable pub run_record : Record → List ℕ
run_record r = many entry r.history ++ (many summed r.sums ++ few ending r.ends)
