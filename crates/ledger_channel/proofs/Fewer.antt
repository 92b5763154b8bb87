-- What a channel that holds its own funds calls is few: an outcome has at most four assets.
use Rattle.std.proofs.Common.{◌≡◌, suc, ◌≤◌, Bool, true, false, List, [], ◌∷◌, length, Option, Some, None, Result, Ok, Err, IfOk, ap, arith}
use Rattle.std.specs.Prelude.{◌&&◌, if◌then◌else◌}
use Rattle.std.specs.List.{filter_map, cons_option, AllByRecursion}
use Rattle.channel_values.specs.declared.chain.Chain.{Chain}
use Rattle.channel_values.specs.declared.value.AssetOutcome.{AssetOutcome}
use Rattle.channel_values.specs.Outcomes.{IsOutcome}
use Rattle.call_history.specs.declared.standing.Standing.{Standing}
use Rattle.call_history.specs.declared.standing.Standing.TheVariants.{Open, Challenged, Final}
use Rattle.call_history.specs.declared.call.Call.{Call}
use Rattle.call_history.specs.Mode.{is_final}
use Rattle.funding_plans.specs.Rows.{Row, called_in}
use Rattle.ledger_channel.specs.Roots.{Direct, is_open, deposit_in, deposits, left_of, transfer_in, transfers_of, transfers, conclude, concluding, root_rows}

pub outcome_is_few : (os : List AssetOutcome) → IsOutcome os → length os ≤ 4
outcome_is_few os valid = valid.0

one_more : {A B : Type 0} (o : Option B) (ys : List B) (xs : List A) → length ys ≤ length xs → length (cons_option o ys) ≤ suc (length xs)
one_more None ys xs h = omega (arith, h)
one_more (Some y) ys xs h = omega (arith, h)

length-filter_map : {A B : Type 0} (f : A → Option B) (xs : List A) → length (filter_map f xs) ≤ length xs
length-filter_map f [] = omega arith
length-filter_map f (x ∷ xs) = one_more (f x) (filter_map f xs) xs (length-filter_map f xs)

kept : {A B : Type 0} (f : A → Option B) (xs : List A) → length xs ≤ 4 → length (filter_map f xs) ≤ 4
kept f xs h = omega (arith, length-filter_map f xs, h)

none : 0 ≤ 4
none = omega arith

pick : (b : Bool) (xs ys : List Call) → length xs ≤ 4 → length ys ≤ 4 → length (if b then xs else ys) ≤ 4
pick true xs ys h k = h
pick false xs ys h k = k

few_deposits : (d : Direct) → length d.channel.opening ≤ 4 → length (deposits d) ≤ 4
few_deposits d h = pick (is_open d.standing) (filter_map (deposit_in d) d.channel.opening) [] (kept (deposit_in d) d.channel.opening h) none

few_transfers : (d : Direct) (settled rest : Option (List AssetOutcome)) → length (left_of rest) ≤ 4 → length (transfers_of d settled rest) ≤ 4
few_transfers d None rest h = none
few_transfers d (Some settled) None h = none
few_transfers d (Some settled) (Some rest) h = kept (transfer_in d settled rest) rest h

few_conclude : (chain : Option Chain) → length (conclude chain) ≤ 4
few_conclude None = none
few_conclude (Some chain) = omega arith

few_concluding : (d : Direct) (s : Standing) → length (left_of d.rest) ≤ 4 → length (concluding d s) ≤ 4
few_concluding d Open h = few_conclude d.chain
few_concluding d Challenged h = none
few_concluding d Final h = few_transfers d d.settled d.rest h

few_taken : (d : Direct) → length (left_of d.rest) ≤ 4 → length (if d.over && is_final d.standing then transfers d else []) ≤ 4
few_taken d h = pick (d.over && is_final d.standing) (transfers d) [] (few_transfers d d.settled d.rest h) none

few_called : (rows : List Row) → AllByRecursion (λ r. length r.calls ≤ 4) rows → length (called_in rows) ≤ 4
few_called [] h = none
few_called (r ∷ rows) h = pick r.leaves (called_in rows) r.calls (few_called rows h.1) h.0

pub few_of_root : (d : Direct) → length d.channel.opening ≤ 4 → length (left_of d.rest) ≤ 4 → length (called_in (root_rows d)) ≤ 4
few_of_root d opening left =
    few_called (root_rows d) (none, (few_deposits d opening, (none, (none, (none, (few_concluding d d.standing left, (few_taken d left, record {})))))))

pub few_in : {A E : Type 0} (items : A → List Call) (calls : List Call) (r : Result A E) → length calls ≤ 4 → IfOk r (λ v. items v ≡ calls)
    → IfOk r (λ v. length (items v) ≤ 4)
few_in items calls (Ok v) h e = omega (arith, h, ap length e)
few_in items calls (Err x) h e = e
