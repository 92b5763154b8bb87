-- Records: what is read is spelled so and fits, and what is spelled is read; and what is read may be written.
use Rattle.std.proofs.Common.{◌≡◌, ℕ, ◌<◌, List, [], ◌∷◌, ◌++◌, length, Result, Ok, Err, refl, sym, ap, subst, ◌∙◌, append_assoc, lit<}
use Rattle.std.specs.List.{All, AllByRecursion}
use Rattle.std.specs.Prelude.{IfOk}
use Rattle.std.proofs.lemmas.List.Elements.{All-from_recursion}
use Rattle.channel_values.specs.declared.fault.ByteFault.{ByteFault}
use Rattle.channel_values.specs.Outcomes.{AreBytes}
use Rattle.channel_values.proofs.Chains.{limits_kept}
use Rattle.channel_values.proofs.Fields.{bind_ok, ok_is, Takes, Takes-then}
use Rattle.channel_values.proofs.Again.{bind_again}
use Rattle.channel_values.proofs.Format.{IsFormat}
use Rattle.call_history.proofs.Formats.{call_keeps}
use Rattle.call_history.specs.declared.call.Op.{Op}
use Rattle.call_history.specs.declared.call.Op.TheVariants as ops
use Rattle.call_history.specs.declared.entry.Entry.{Entry}
use Rattle.call_history.specs.declared.held_chain.HeldChain.{HeldChain}
use Rattle.run_record.specs.Spelling.{entry, summed, ending, few, many, run_record}
use Rattle.run_record.specs.Limits.{IsOp, IsEntry, IsHeldChain, IsEnding, IsRecord, KeepsOp, KeepsEntry, KeepsHeldChain, KeepsEnding, KeepsRecord}
use Rattle.run_record.specs.Reading.{entry_at, sum_at, ending_at, few_at, list_at, record_at}
use Rattle.run_record.specs.declared.run_record.Ending.{Ending}
use Rattle.run_record.specs.declared.run_record.Record.{Record}
use Rattle.run_record.proofs.Lists.{few_takes, few_again, list_takes, list_again}
use Rattle.run_record.proofs.Lines.{entry_format, sum_format}
use Rattle.run_record.proofs.Plans.{ending_format}

whole_takes : (whole : ℕ) (bytes : List ℕ) (x : Record × List ℕ) → AreBytes bytes → record_at whole bytes ≡ Ok x → Takes bytes (run_record x.0) x.1 × IsRecord x.0
unfolding record_at run_record
whole_takes whole bytes x fits e =
    let a0 = bind_ok (list_at entry_at whole bytes) _ x e in
    let a1 = bind_ok (list_at sum_at whole a0.0.1) _ x a0.2 in
    let a2 = bind_ok (few_at 16 ending_at whole a1.0.1) _ x a1.2 in
    let t0 = list_takes entry_format whole bytes a0.0 fits a0.1 in
    let t1 = list_takes sum_format whole a0.0.1 a1.0 t0.0.rest_fits a1.1 in
    let t2 = few_takes ending_format 16 whole (lit< tt) a1.0.1 a2.0 t1.0.rest_fits a2.1 in
    let e1 = Takes-then a0.0.1 (many summed a1.0.0) a1.0.1 (few ending a2.0.0) a2.0.1 t1.0 t2.0 in
    let e0 = Takes-then bytes (many entry a0.0.0) a0.0.1 (many summed a1.0.0 ++ (few ending a2.0.0)) a2.0.1 t0.0 e1 in
    let made : Record = record { history = a0.0.0; sums = a1.0.0; ends = a2.0.0 } in
    subst (λ (y : Record × List ℕ). Takes bytes (run_record y.0) y.1 × IsRecord y.0) (ok_is (made, a2.0.1) x a2.2) (e0, record { history = t0.1; sums = t1.1; ends = t2.1 })

whole_again : (whole : ℕ) (v : Record) (rest : List ℕ) → IsRecord v → record_at whole (run_record v ++ rest) ≡ Ok (v, rest)
unfolding record_at run_record
whole_again whole v rest valid =
    let r1 : List ℕ = few ending v.ends ++ rest in
    let r0 : List ℕ = many summed v.sums ++ r1 in
    let regrouped : run_record v ++ rest ≡ many entry v.history ++ r0 = append_assoc (many entry v.history) (many summed v.sums ++ (few ending v.ends)) rest ∙ ap (λ (w : List ℕ). (many entry v.history) ++ w) (append_assoc (many summed v.sums) (few ending v.ends) rest) in
    subst (λ (w : List ℕ). record_at whole w ≡ Ok (v, rest)) (sym regrouped)
    (bind_again _ _ (v.history, r0) _ (list_again entry_format whole v.history r0 valid.history) (bind_again _ _ (v.sums, r1) _ (list_again sum_format whole v.sums r1 valid.sums) (bind_again _ _ (v.ends, rest) _ (few_again ending_format 16 whole (lit< tt) v.ends rest valid.ends) refl)))

pub record_format : IsFormat record_at run_record IsRecord
record_format = record { takes = whole_takes; again = whole_again }

-- ---- what is read may be written

op_keeps : (o : Op) → IsOp o → KeepsOp o
op_keeps (ops.Call c) valid = call_keeps c valid
op_keeps (ops.Time t) valid = tt

entries_keep : (es : List Entry) → AllByRecursion IsEntry es → AllByRecursion KeepsEntry es
entries_keep [] valid = tt
entries_keep (e ∷ es) valid = (op_keeps e.op valid.0.2, entries_keep es valid.1)

chains_keep : (hs : List HeldChain) → AllByRecursion IsHeldChain hs → AllByRecursion KeepsHeldChain hs
chains_keep [] valid = tt
chains_keep (h ∷ hs) valid = (limits_kept h.chain valid.0.1, chains_keep hs valid.1)

ending_keeps : (e : Ending) → IsEnding e → KeepsEnding e
ending_keeps e valid = record {
  owner = valid.owner;
  parts = valid.parts.0;
  known = valid.known.0;
  chains = valid.chains.0;
  each = All-from_recursion KeepsHeldChain e.chains (chains_keep e.chains valid.chains.1);
  shares = valid.shares.0;
}

endings_keep : (es : List Ending) → AllByRecursion IsEnding es → AllByRecursion KeepsEnding es
endings_keep [] valid = tt
endings_keep (e ∷ es) valid = (ending_keeps e valid.0, endings_keep es valid.1)

record_keeps : (r : Record) → IsRecord r → KeepsRecord r
record_keeps r valid = record {
  history = valid.history.0;
  entries = All-from_recursion KeepsEntry r.history (entries_keep r.history valid.history.1);
  sums = valid.sums.0;
  ends = valid.ends.0;
  endings = All-from_recursion KeepsEnding r.ends (endings_keep r.ends valid.ends.1);
}

pub is_kept : (bytes : List ℕ) (r : Result Record ByteFault) → IfOk r (λ v. IsRecord v × (bytes ≡ run_record v)) → IfOk r KeepsRecord
is_kept bytes (Ok v) found = record_keeps v found.0
is_kept bytes (Err e) found = tt
