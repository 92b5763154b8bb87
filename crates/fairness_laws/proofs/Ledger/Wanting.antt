-- What a part wants to sign in a channel, by its rows.
use Rattle.std.proofs.Common.{◌≡◌, true, false, ◌&&◌, arith}
use Rattle.std.specs.Str.{bytes_eq}
use Rattle.channel_safety.proofs.Tests.{clash, and-both, or-right}
use Rattle.ledger_channel.specs.OnLedgers.{Funded, on_ledger_rows}
use Rattle.ledger_channel.specs.OnLedgers as funded
use Rattle.funding_plans.specs.Seats.{state_is, holds, has_signed_past, settled_on, up_in}
use Rattle.virtual_channel.specs.Ends as ends
use Rattle.virtual_channel.specs.Middles.{is_without, is_settled_back}
use Rattle.virtual_channel.specs.Middles as middles
use Rattle.fairness_laws.proofs.Finding.{or-left}
use Rattle.fairness_laws.proofs.Truths.{neither, untrue}
use Rattle.fairness_laws.specs.LedgerLending.{of_funded, of_end}
use Rattle.fairness_laws.specs.LedgerWanting.{FundedRow, sets_up, goes_up, finishes, goes_down, FundedWants, WantsOn, up, down, FundedWantsOn, EndWantsOn, MiddleWants, first, second, MiddleWantsOn, FundedUnfinished, FundedRuns}
use Rattle.fairness_laws.specs.LedgerWanting as wanting
use Rattle.fairness_laws.proofs.Joint.Rows.{EndWants, end-wants, middle-wants}
use Rattle.fairness_laws.proofs.Joint.Rows as rows
use Rattle.fairness_laws.proofs.Rows.{ChildWants, opens, ups, posts, finals, downs, child-wants, early, left-before, stays-at}

-- ---- a payment channel that a ledger funds

pub funded_wants : FundedWants
funded_wants p name s e = go (child-wants p name s e)
  where
    go : ChildWants p name s → FundedRow p name s
    go (opens running here w) = sets_up here running w
    go (ups running one settled here w) = goes_up here running settled w
    go (posts running settled here w) = wanting.posts here running settled w
    go (finals closing unended here w) = finishes here closing w
    go (downs closing final yet here w) = goes_down here closing final yet w

pub funded_wants_on : FundedWantsOn
funded_wants_on p s differ e = go (child-wants p p.ledger.name s e)
  where
    go : ChildWants p p.ledger.name s → WantsOn (of_funded p) s
    go (opens running here w) = absurd (clash (bytes_eq p.channel.name p.ledger.name) here differ)
    go (ups running one settled here w) = up running (or-left (has_signed_past p.channel) (settled_on (funded.target_up p) p.ledger) settled) w
    go (posts running settled here w) = absurd (clash (bytes_eq p.channel.name p.ledger.name) here differ)
    go (finals closing unended here w) = absurd (clash (bytes_eq p.channel.name p.ledger.name) here differ)
    go (downs closing final yet here w) = down closing closing w

pub funded_unfinished : FundedUnfinished
funded_unfinished p = (
  λ running early-yet late. early (on_ledger_rows p) 2 (neither p.closing (holds 3 p.channel) running (untrue (holds 3 p.channel) (has_signed_past p.channel) late early-yet)),
  λ closing there. early (on_ledger_rows p) 5 there,
)

pub funded_runs : FundedRuns
funded_runs p e = (going, or-right p.closing (holds 3 p.channel) (left-before (on_ledger_rows p) 3 2 e (omega arith)) going)
  where
    going : p.closing ≡ false
    going = stays-at (on_ledger_rows p) 3 e

-- ---- virtual channels

pub end_wants_on : EndWantsOn
end_wants_on p s dc dj dg back e = go (end-wants p p.ledger.name s e)
  where
    joint : bytes_eq p.joint.name p.ledger.name ≡ true → WantsOn (of_end p) s
    joint here = absurd (clash (bytes_eq p.joint.name p.ledger.name) here dj)

    channel : bytes_eq p.channel.name p.ledger.name ≡ true → WantsOn (of_end p) s
    channel here = absurd (clash (bytes_eq p.channel.name p.ledger.name) here dc)

    go : EndWants p p.ledger.name s → WantsOn (of_end p) s
    go (rows.guarantees running unset here w) = absurd (clash (bytes_eq p.guarantor.name p.ledger.name) here dg)
    go (rows.splits from until small running soon risen here w) = joint here
    go (rows.opens from until small soon here w) = channel here
    go (rows.ups running set settled here w) = up running (or-left (has_signed_past p.joint) (settled_on (ends.target_up p) p.ledger) settled) w
    go (rows.joins running set settled five together here w) = joint here
    go (rows.finals closing unended here w) = channel here
    go (rows.parts closing final unsettled here w) = joint here
    go (rows.downs closing final settled yet here w) = down closing (and-both p.closing (state_is (is_without p.terms) p.joint.own) closing (back closing settled)) w

pub middle_wants_on : MiddleWantsOn
middle_wants_on p name s dj da db e = go (middle-wants p name s e)
  where
    early-up : middles.is_settled_up p ≡ false → has_signed_past p.joint ≡ false
    early-up settled = or-left (has_signed_past p.joint) (settled_on (up_in p.child_a p.ledger_a) p.ledger_a && settled_on (up_in p.child_b p.ledger_b) p.ledger_b) settled

    joint : bytes_eq p.joint.name name ≡ true → MiddleWants p name s
    joint here = absurd (clash (bytes_eq p.joint.name name) here dj)

    go : rows.MiddleWants p name s → MiddleWants p name s
    go (rows.guarantees_a running unset here w) = absurd (clash (bytes_eq p.guarantor_a.name name) here da)
    go (rows.guarantees_b running unset here w) = absurd (clash (bytes_eq p.guarantor_b.name name) here db)
    go (rows.splits from until small running soon risen here w) = joint here
    go (rows.ups_a running set settled here w) = first here (up running (early-up settled) w)
    go (rows.ups_b running set settled here w) = second here (up running (early-up settled) w)
    go (rows.joins running set settled five together here w) = joint here
    go (rows.parts closing unsettled here w) = joint here
    go (rows.downs_a closing settled not-down here w) = first here (down closing (and-both p.closing (is_settled_back p) closing settled) w)
    go (rows.downs_b closing settled not-down here w) = second here (down closing (and-both p.closing (is_settled_back p) closing settled) w)
