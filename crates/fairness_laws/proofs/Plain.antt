-- No call of a stage or of an exit is a challenge.
use Rattle.std.proofs.Common.{ℕ, Bool, true, false, cond, not, ◌||◌, ◌&&◌, List, [], ◌∷◌, ◌++◌}
use Rattle.std.specs.Prelude.{Option, Some, None, if◌then◌else◌}
use Rattle.std.specs.List.{AllByRecursion, flat_map, filter_map, cons_option}
use Rattle.channel_values.specs.declared.chain.Chain.{Chain}
use Rattle.channel_values.specs.declared.value.AssetOutcome.{AssetOutcome}
use Rattle.channel_values.specs.declared.value.Dest.{Dest}
use Rattle.channel_values.specs.declared.value.Dest.TheVariants.{Person, Channel}
use Rattle.channel_values.specs.declared.value.Item.{Item}
use Rattle.channel_values.specs.Amounts.{has}
use Rattle.channel_values.specs.Places.{place_of}
use Rattle.call_history.specs.Mode.{is_final}
use Rattle.call_history.specs.Calls.{make_transfer, make_claim}
use Rattle.call_history.specs.Flows.{is_among}
use Rattle.call_history.specs.declared.call.Call.{Call}
use Rattle.call_history.specs.declared.call.Call.TheVariants.{Challenge}
use Rattle.call_history.specs.declared.standing.Standing.{Standing}
use Rattle.call_history.specs.declared.standing.Standing.TheVariants.{Open, Challenged, Final}
use Rattle.funding_plans.specs.Known.{FactsOf}
use Rattle.funding_plans.specs.Parts.{own_guarantor, channels}
use Rattle.funding_plans.specs.Shapes.{items_in, list_in, is_listed, position_of}
use Rattle.funding_plans.specs.declared.plan.Part.{Part}
use Rattle.funding_plans.specs.declared.plan.Part.TheVariants.{Root, OnLedger, End, Middle}
use Rattle.channel_exits.specs.Calls.{Ended, transfer_if, transfer_to, claim_if, claim_for, transfer_among, items_ended, transfers_of, root_calls, passed_to, other_calls, exits, assets_of, of_each, exit_calls}
use Rattle.channel_exits.specs.Exits.{ended_in, first_not_final}
use Rattle.ledger_channel.specs.Roots as roots
use Rattle.ledger_channel.specs.Roots.{Direct, root_rows}
use Rattle.ledger_channel.specs.Stages.{direct_in, called_of_root, called_of}
use Rattle.channel_node.specs.Leaving.{exits_given, calls_of}
use Rattle.channel_node.specs.Minds.{Mind, facts_of}
use Rattle.stage_tables.specs.Exiting.{exits_but, exits_in, is_owed_in}
use Rattle.stage_tables.specs.Stages.{calls_in, stages}
use Rattle.funding_plans.specs.Rows.{Row, called_in}

abbrev pub IsPlain : Call → Type 0
IsPlain (Challenge k) = ⊥
IsPlain _ = Unit {0}

abbrev pub ArePlain : List Call → Type 0
ArePlain = AllByRecursion IsPlain

-- ---- lists

joined : (xs ys : List Call) → ArePlain xs → ArePlain ys → ArePlain (xs ++ ys)
joined [] ys p q = q
joined (x ∷ xs) ys p q = (p.0, joined xs ys p.1 q)

flat : {A : Type 0} (f : A → List Call) → ((x : A) → ArePlain (f x)) → (xs : List A) → ArePlain (flat_map f xs)
flat f each [] = tt
flat f each (x ∷ xs) = joined (f x) (flat_map f xs) (each x) (flat f each xs)

abbrev IsPlainIf : Option Call → Type 0
IsPlainIf None = Unit {0}
IsPlainIf (Some call) = IsPlain call

picked : {A : Type 0} (f : A → Option Call) → ((x : A) → IsPlainIf (f x)) → (xs : List A) → ArePlain (filter_map f xs)
picked f each [] = tt
picked f each (x ∷ xs) = go (f x) (each x) (picked f each xs)
  where
    go : (o : Option Call) → IsPlainIf o → ArePlain (filter_map f xs) → ArePlain (cons_option o (filter_map f xs))
    go None p rest = rest
    go (Some call) p rest = (p, rest)

if-so : (b : Bool) (xs : List Call) → ArePlain xs → ArePlain (cond b xs [])
if-so true xs p = p
if-so false xs p = tt

if-some : (b : Bool) (call : Call) → IsPlain call → IsPlainIf (cond b (Some call) None)
if-some true call p = p
if-some false call p = tt

-- ---- exits

module _ (ended : Ended) where
  transfer-if : (channel : List ℕ) (o : Option (List AssetOutcome)) (to : Dest) (asset : ℕ) → ArePlain (transfer_if channel o to asset)
  transfer-if channel None to asset = tt
  transfer-if channel (Some o) to asset = if-so (has (items_in asset o) to) (make_transfer channel o asset (place_of (items_in asset o) to) ∷ []) (tt, tt)

  claim-if : (guarantor : List ℕ) (p : Option (List AssetOutcome)) (target : List ℕ) (o : Option (List AssetOutcome)) (to : Dest) (asset : ℕ) → ArePlain (claim_if guarantor p target o to asset)
  claim-if guarantor None target o to asset = tt
  claim-if guarantor (Some p) target None to asset = tt
  claim-if guarantor (Some p) target (Some o) to asset =
      if-so (is_listed (list_in asset p) to && has (items_in asset o) to) (make_claim guarantor p target o asset (position_of (list_in asset p) to) ∷ []) (tt, tt)

  transfer : (channel : List ℕ) (to : Dest) (asset : ℕ) → ArePlain (transfer_to ended channel to asset)
  transfer channel to asset = transfer-if channel (ended channel) to asset

  claim : (guarantor target : List ℕ) (to : Dest) (asset : ℕ) → ArePlain (claim_for ended guarantor target to asset)
  claim guarantor target to asset = claim-if guarantor (ended guarantor) target (ended target) to asset

  among : (root : List ℕ) (names : List (List ℕ)) (asset : ℕ) (to : Dest) → ArePlain (transfer_among ended root names asset to)
  among root names asset (Person person) = tt
  among root names asset (Channel channel) = if-so (is_among channel names) (transfer_to ended root (Channel channel) asset) (transfer root (Channel channel) asset)

  all-transfers : (me : List ℕ) (names : List (List ℕ)) (c : List ℕ) (asset : ℕ) → ArePlain (transfers_of ended me names c asset)
  all-transfers me names c asset =
      joined (flat_map (λ (item : Item). transfer_among ended c names asset item.to) (items_ended (ended c) asset)) (transfer_to ended c (Person me) asset)
      (flat (λ (item : Item). transfer_among ended c names asset item.to) (λ item. among c names asset item.to) (items_ended (ended c) asset)) (transfer c (Person me) asset)

  of-root : (me : List ℕ) (names : List (List ℕ)) (part : Part) (asset : ℕ) → ArePlain (root_calls ended me names part asset)
  of-root me names (Root c) asset = all-transfers me names c asset
  of-root me names (OnLedger l c) asset = tt
  of-root me names (End v) asset = tt
  of-root me names (Middle v) asset = tt

  of-other : (me : List ℕ) (parts : List Part) (part : Part) (asset : ℕ) → ArePlain (other_calls ended me parts part asset)
  of-other me parts (Root c) asset = tt
  of-other me parts (OnLedger l c) asset = transfer c (Person me) asset
  of-other me parts (End v) asset =
      joined (claim_for ended (own_guarantor v) v.joint (Channel v.channel) asset)
      (claim_for ended (own_guarantor v) v.joint (Person me) asset ++ transfers_of ended me (passed_to parts v.channel) v.channel asset)
      (claim (own_guarantor v) v.joint (Channel v.channel) asset)
      (joined (claim_for ended (own_guarantor v) v.joint (Person me) asset) (transfers_of ended me (passed_to parts v.channel) v.channel asset)
      (claim (own_guarantor v) v.joint (Person me) asset) (all-transfers me (passed_to parts v.channel) v.channel asset))
  of-other me parts (Middle v) asset =
      joined (claim_for ended v.guarantor_a v.joint (Channel v.channel) asset)
      (claim_for ended v.guarantor_b v.joint (Channel v.channel) asset ++ (claim_for ended v.guarantor_a v.joint (Person me) asset ++ claim_for ended v.guarantor_b v.joint (Person me) asset))
      (claim v.guarantor_a v.joint (Channel v.channel) asset)
      (joined (claim_for ended v.guarantor_b v.joint (Channel v.channel) asset) (claim_for ended v.guarantor_a v.joint (Person me) asset ++ claim_for ended v.guarantor_b v.joint (Person me) asset)
      (claim v.guarantor_b v.joint (Channel v.channel) asset)
      (joined (claim_for ended v.guarantor_a v.joint (Person me) asset) (claim_for ended v.guarantor_b v.joint (Person me) asset)
      (claim v.guarantor_a v.joint (Person me) asset) (claim v.guarantor_b v.joint (Person me) asset)))

  each : (calls : Part → ℕ → List Call) → ((part : Part) (asset : ℕ) → ArePlain (calls part asset)) → (part : Part) → ArePlain (of_each ended calls part)
  each calls plain part = flat (calls part) (plain part) (assets_of ended (exits part))

  an-exit : (me : List ℕ) (parts : List Part) → ArePlain (exit_calls ended me parts)
  an-exit me parts =
      joined (flat_map (of_each ended (root_calls ended me (channels parts))) parts) (flat_map (of_each ended (other_calls ended me parts)) parts)
      (flat (of_each ended (root_calls ended me (channels parts))) (each (root_calls ended me (channels parts)) (of-root me (channels parts))) parts)
      (flat (of_each ended (other_calls ended me parts)) (each (other_calls ended me parts) (of-other me parts)) parts)

exits-plain : (f : FactsOf) → ArePlain (exits_in f)
exits-plain f = go (first_not_final f.view f.chains f.plan.parts)
  where
    go : (o : Option (List ℕ)) → ArePlain (exits_but f o)
    go None = an-exit (ended_in f.view) f.plan.me f.plan.parts
    go (Some name) = tt

-- ---- stages

a-deposit : (d : Direct) (o : AssetOutcome) → IsPlainIf (roots.deposit_in d o)
a-deposit d o = if-some _ _ tt

a-transfer : (d : Direct) (settled rest : List AssetOutcome) (o : AssetOutcome) → IsPlainIf (roots.transfer_in d settled rest o)
a-transfer d settled rest o = if-some _ _ tt

transfers-plain : (d : Direct) (settled rest : Option (List AssetOutcome)) → ArePlain (roots.transfers_of d settled rest)
transfers-plain d None rest = tt
transfers-plain d (Some settled) None = tt
transfers-plain d (Some settled) (Some rest) = picked (roots.transfer_in d settled rest) (a-transfer d settled rest) rest

conclude-plain : (o : Option Chain) → ArePlain (roots.conclude o)
conclude-plain None = tt
conclude-plain (Some chain) = (tt, tt)

concluding-plain : (d : Direct) (standing : Standing) → ArePlain (roots.concluding d standing)
concluding-plain d Open = conclude-plain d.chain
concluding-plain d Challenged = tt
concluding-plain d Final = transfers-plain d d.settled d.rest

-- what is due in a channel of which the participant let go
rest-plain : (d : Direct) → ArePlain (if d.over && is_final d.standing then roots.transfers d else [])
rest-plain d = if-so (d.over && is_final d.standing) (roots.transfers d) (transfers-plain d d.settled d.rest)

deposits-plain : (d : Direct) → ArePlain (roots.deposits d)
deposits-plain d = if-so (roots.is_open d.standing) (filter_map (roots.deposit_in d) d.channel.opening) (picked (roots.deposit_in d) (a-deposit d) d.channel.opening)

rows-plain : (rows : List Row) → AllByRecursion (λ (row : Row). ArePlain row.calls) rows → ArePlain (called_in rows)
rows-plain [] all = tt
rows-plain (row ∷ rows) all = go row.leaves (rows-plain rows all.1)
  where
    go : (b : Bool) → ArePlain (called_in rows) → ArePlain (cond b (called_in rows) row.calls)
    go true rest = rest
    go false rest = all.0

root-plain : (o : Option Direct) → ArePlain (called_of_root o)
root-plain None = tt
root-plain (Some d) = rows-plain (root_rows d) (tt, (deposits-plain d, (tt, (tt, (tt, (concluding-plain d d.standing, (rest-plain d, tt)))))))

part-plain : (f : FactsOf) (part : Part) → ArePlain (called_of f part)
part-plain f (Root name) = root-plain (direct_in f name)
part-plain f (OnLedger ledger name) = tt
part-plain f (End v) = tt
part-plain f (Middle v) = tt

-- ---- what a node calls besides its challenges

pub calls-plain : (has_exited : Bool) (m : Mind) → ArePlain (calls_of stages has_exited m)
calls-plain has_exited m = go m.left
  where
    given : (b : Bool) → ArePlain (cond b (exits_in (facts_of m)) [])
    given b = if-so b (exits_in (facts_of m)) (exits-plain (facts_of m))

    go : (b : Bool) → ArePlain (cond b (exits_given stages has_exited (facts_of m)) (calls_in (facts_of m)))
    go true = given (not has_exited || is_owed_in (facts_of m))
    go false = flat (called_of (facts_of m)) (part-plain (facts_of m)) (facts_of m).plan.parts
