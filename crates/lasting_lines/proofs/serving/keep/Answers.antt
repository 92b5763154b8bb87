use Rattle.std.proofs.Common.{◌∙◌, ◌++◌, ◌∷◌, [], List, ℕ, ap, subst, sym}
use Rattle.std.proofs.lemmas.Result.{on_ok_weaker}
use Rattle.lasting_lines.specs.Batches.{batched, Holds}
use Rattle.lasting_lines.specs.Lines.{IsLine}
use Rattle.lasting_lines.proofs.Lines.{either}
use Rattle.lasting_lines.proofs.Moments.{as-appended, as-appending, as-written, as-writing, as-ready}
use Rattle.lasting_lines.proofs.serving.keep.Goals as goal

pub returns-in_err-append-clause-moments : goal.returns-in_err-append-clause-moments
returns-in_err-append-clause-moments g c = λ q holds p before start r.
    let h = subst (λ (l : List ℕ). Holds g.M.Machine.ways q c.args.played.now l c.args.batch.answer.items) (sym c.deref.ensures.value) holds in
    as-appending (batched g.M.Machine.ways) p before start (g.O.Outside.ops c.args.outside.now) q r c.deref.result.now h.takes
    (subst IsLine (c.in_ok-row.ensures.row q h) (c.in_ok-row.ensures.one_row (subst IsLine (sym c.deref.ensures.value) c.requires)))
    c.deref-2.result.now (c.deref-2.ensures.value ∙ c.in_ok-extend_from_slice.ensures.items ∙ ap (λ (l : List ℕ). l ++ 10 ∷ []) (c.in_ok-row.ensures.row q h))
    (g.O.Outside.ops c.append.new.self) c.in_err-append.ensures.err

pub returns-in_err-sync-clause-moments : goal.returns-in_err-sync-clause-moments
returns-in_err-sync-clause-moments g c = λ q holds p before start r.
    let h = subst (λ (l : List ℕ). Holds g.M.Machine.ways q c.args.played.now l c.args.batch.answer.items) (sym c.deref.ensures.value) holds in
    as-appended (batched g.M.Machine.ways) p before start (g.O.Outside.ops c.args.outside.now) q r c.deref.result.now h.takes
    (subst IsLine (c.in_ok-row.ensures.row q h) (c.in_ok-row.ensures.one_row (subst IsLine (sym c.deref.ensures.value) c.requires)))
    c.deref-2.result.now (c.deref-2.ensures.value ∙ c.in_ok-extend_from_slice.ensures.items ∙ ap (λ (l : List ℕ). l ++ 10 ∷ []) (c.in_ok-row.ensures.row q h))
    (g.O.Outside.ops c.sync.new.self) (c.in_err-sync.ensures.err ∙ c.in_ok-append.ensures.ok)

-- written or in part
pub returns-clause-moments : goal.returns-clause-moments
returns-clause-moments g c = λ q holds p before start r.
    let h = subst (λ (l : List ℕ). Holds g.M.Machine.ways q c.args.played.now l c.args.batch.answer.items) (sym c.deref.ensures.value) holds in
    let writing =
    as-writing (batched g.M.Machine.ways) p before start (g.O.Outside.ops c.args.outside.now) q r c.deref.result.now h.takes
    (subst IsLine (c.in_ok-row.ensures.row q h) (c.in_ok-row.ensures.one_row (subst IsLine (sym c.deref.ensures.value) c.requires)))
    c.deref-2.result.now (c.deref-2.ensures.value ∙ c.in_ok-extend_from_slice.ensures.items ∙ ap (λ (l : List ℕ). l ++ 10 ∷ []) (c.in_ok-row.ensures.row q h))
    (g.O.Outside.ops c.append.new.self) c.in_ok-append.ensures.ok (g.O.Outside.ops c.sync.new.self) c.in_ok-sync.ensures.ok
    c.deref-3.result.now (c.deref-3.ensures.value ∙ c.in_ok-row.ensures.text q h) (g.O.Outside.ops c.write.new.self) in
    let written =
    as-written (batched g.M.Machine.ways) p before start (g.O.Outside.ops c.args.outside.now) q r c.deref.result.now h.takes
    (subst IsLine (c.in_ok-row.ensures.row q h) (c.in_ok-row.ensures.one_row (subst IsLine (sym c.deref.ensures.value) c.requires)))
    c.deref-2.result.now (c.deref-2.ensures.value ∙ c.in_ok-extend_from_slice.ensures.items ∙ ap (λ (l : List ℕ). l ++ 10 ∷ []) (c.in_ok-row.ensures.row q h))
    (g.O.Outside.ops c.append.new.self) c.in_ok-append.ensures.ok (g.O.Outside.ops c.sync.new.self) c.in_ok-sync.ensures.ok
    c.deref-3.result.now (c.deref-3.ensures.value ∙ c.in_ok-row.ensures.text q h) (g.O.Outside.ops c.write.new.self) in
    either c.write.result c.write.ensures.ok c.write.ensures.err written writing

pub returns-clause-ready : goal.returns-clause-ready
returns-clause-ready g c = λ q holds.
    let h = subst (λ (l : List ℕ). Holds g.M.Machine.ways q c.args.played.now l c.args.batch.answer.items) (sym c.deref.ensures.value) holds in
    on_ok_weaker c.write.result (λ e p before start r.
    as-ready (batched g.M.Machine.ways) p before start (g.O.Outside.ops c.args.outside.now) q r c.deref.result.now h.takes
    (subst IsLine (c.in_ok-row.ensures.row q h) (c.in_ok-row.ensures.one_row (subst IsLine (sym c.deref.ensures.value) c.requires)))
    c.deref-2.result.now (c.deref-2.ensures.value ∙ c.in_ok-extend_from_slice.ensures.items ∙ ap (λ (l : List ℕ). l ++ 10 ∷ []) (c.in_ok-row.ensures.row q h))
    (g.O.Outside.ops c.append.new.self) c.in_ok-append.ensures.ok (g.O.Outside.ops c.sync.new.self) c.in_ok-sync.ensures.ok
    c.deref-3.result.now (c.deref-3.ensures.value ∙ c.in_ok-row.ensures.text q h) (g.O.Outside.ops c.write.new.self) e c.seal.new.self (c.in_ok-row.ensures.place q h)) c.write.ensures.ok
