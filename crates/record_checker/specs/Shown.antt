-- The text of a record: what it says, whether that is sound or not. Names are their digits, since a record has no
-- others.
use Rattle.std.specs.Prelude.{ℕ, List, [], ◌++◌, Bool, true, false, length, flat_map, codes}
use Rattle.std.specs.Fmt.{decimal}
use Rattle.hex.specs.Hex.{encode_lower}
use Rattle.call_history.specs.declared.held_chain.HeldChain.{HeldChain}
use Rattle.call_history.specs.declared.held_chain.Known.{Known}
use Rattle.funding_plans.specs.declared.plan.Part.{Part}
use Rattle.funding_plans.specs.declared.plan.Part.TheVariants.{Root, OnLedger, End, Middle}
use Rattle.funding_plans.specs.declared.plan.Virtual.{Virtual}
use Rattle.report_lines.specs.Text.{◌&◌, ended, entry_line, top_text}
use Rattle.run_record.specs.declared.run_record.Ending.{Ending}
use Rattle.run_record.specs.declared.run_record.Record.{Record}
use Rattle.run_record.specs.declared.run_record.Sum.{Sum}
use Rattle.run_record.specs.declared.run_record.SumOf.{SumOf}
use Rattle.run_record.specs.declared.run_record.SumOf.TheVariants.{Deposited, Held, Paid}

-- how many entries, sums and endings there are
abbrev pub head_line : (entries sums endings : ℕ) → List ℕ
head_line entries sums endings =
    codes "record entries" & decimal entries & codes "sums" & decimal sums & codes "endings" & ended (decimal endings)

-- ---- sums

abbrev pub kind_word : SumOf → List ℕ
kind_word Deposited = codes "deposited"
kind_word Held = codes "held"
kind_word Paid = codes "paid"

-- of what, whose, the asset and the amount
abbrev pub sum_line : Sum → List ℕ
sum_line s = codes "sum" & kind_word s.kind & encode_lower s.name & decimal s.asset & ended (decimal s.amount)

-- ---- plans

-- whether the person is the first at an end, or the second
abbrev pub side_word : Bool → List ℕ
side_word false = codes "a"
side_word true = codes "b"

-- two names
abbrev pub pair_text : (first second : List ℕ) → List ℕ
pair_text first second = encode_lower first & encode_lower second

-- the ledgers and the guarantors of both sides
abbrev pub sides_text : Virtual → List ℕ
sides_text v =
    codes "ledgers" & pair_text v.ledger_a v.ledger_b & codes "guarantors" & pair_text v.guarantor_a v.guarantor_b

abbrev pub terms_text : Virtual → List ℕ
terms_text v = codes "asset" & decimal v.asset & codes "total" & decimal v.total & codes "side" & side_word v.side_b

-- the channel and its joint channel, what is on both sides, and the terms
abbrev pub virtual_text : Virtual → List ℕ
virtual_text v =
    encode_lower v.channel & codes "joint" & encode_lower v.joint & sides_text v & terms_text v

abbrev pub part_text : Part → List ℕ
part_text (Root channel) = codes "root" & encode_lower channel
part_text (OnLedger ledger channel) = codes "funded" & encode_lower channel & codes "by" & encode_lower ledger
part_text (End v) = codes "end" & virtual_text v
part_text (Middle v) = codes "middle" & virtual_text v

abbrev pub part_line : Part → List ℕ
part_line part = codes "part" & ended (part_text part)

-- ---- what a person holds

abbrev pub final_word : Bool → List ℕ
final_word false = codes "open"
final_word true = codes "final"

-- the turn of the state that the person signed last in a channel, and whether it is final
abbrev pub known_line : Known → List ℕ
known_line k =
    codes "signed" & encode_lower k.channel & decimal k.last.turn & ended (final_word k.last.is_final)

-- the turn of the last state of the chain that the person holds of a channel
abbrev pub chain_line : HeldChain → List ℕ
chain_line h = codes "chain" & encode_lower h.channel & ended (top_text h.chain.states)

abbrev pub share_line : ℕ × ℕ → List ℕ
share_line share = codes "share" & decimal share.0 & ended (decimal share.1)

-- ---- endings

abbrev pub person_line : List ℕ → List ℕ
person_line person = codes "ending" & ended (encode_lower person)

-- the person, the parts of its plan, what it signed last, the chains that it holds, and what it can get
abbrev pub ending_text : Ending → List ℕ
ending_text e =
    person_line e.person
    ++ flat_map part_line e.plan.parts
    ++ flat_map known_line e.known
    ++ flat_map chain_line e.chains
    ++ flat_map share_line e.shares

-- ---- records

-- the counts, then the entries, the sums and the endings, each in the order of the record
abbrev pub record_text : Record → List ℕ
record_text r =
    head_line (length r.history) (length r.sums) (length r.ends)
    ++ flat_map (entry_line []) r.history
    ++ flat_map sum_line r.sums
    ++ flat_map ending_text r.ends
