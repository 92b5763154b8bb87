use Rattle.std.proofs.Common.{◌≡◌, ℕ, false, List, [], Some, sym, refl, ap, ◌∙◌, subst, ◌+◌, get_or, BTreeMap}
use Rattle.std.specs.BTreeMap.{get}
use Rattle.std.specs.Cmp.Lexicographic.{slice_cmp}
use Rattle.std.specs.Ordering.{nat_cmp}
use Rattle.std.specs.List.{slice_get}
use Rattle.sha2.specs.Sha256.{sha256}
use Rattle.premises.specs.Own.{is_string}
use Rattle.premises.proofs.ListTests.{never}
use Rattle.premises.proofs.Placing.{Places, default-free, collides, keeps-same, keeps-new, whole}
use Rattle.premises.proofs.collision.none_collide.Goals as goal
use Rattle.premises.proofs.collision.none_collide.Goals.{in-Some+else-not-is_at, in-None+in_ok-insert-in-None}

pub returns-then-not-is_at : goal.returns-then-not-is_at
returns-then-not-is_at c =
    let strings = c.args.strings.now in
    let k = c.loop-place.place in
    let s = c.index-strings-place.result in
    let at : s ≡ get_or strings k [] = c.index-strings-place.is ∙ default-free strings k s [] c.loop-place-test.true in
    let d : c.digest_of-digest.result ≡ sha256 (get_or strings k []) = c.digest_of-digest.ensures ∙ ap sha256 (c.as_slice.ensures ∙ at) in
    let g : get (slice_cmp nat_cmp) c.loop-place.places c.digest_of-digest.result ≡ Some c.in-Some.first = sym c.in-Some.ensures in
    let f : is_string (slice_get strings c.in-Some.first) (get_or strings k []) ≡ false =
    ap (is_string (slice_get strings c.in-Some.first)) (sym (c.as_slice-in-Some.ensures ∙ at)) ∙ sym c.if-not-is_at.ensures in
    (λ t a b i j q. never t, λ none. absurd (collides c.loop-place.places strings k c.in-Some.first c.digest_of-digest.result c.loop-place.invariant c.loop-place-test.true d g f none))

pub loop-place-preserved : goal.loop-place-preserved
loop-place-preserved c =
    let strings = c.args.strings.now in
    let k = c.loop-place.place in
    let s = c.index-strings-place.result in
    let at : s ≡ get_or strings k [] = c.index-strings-place.is ∙ default-free strings k s [] c.loop-place-test.true in
    let d : c.digest_of-digest.result ≡ sha256 (get_or strings k []) = c.digest_of-digest.ensures ∙ ap sha256 (c.as_slice.ensures ∙ at) in
    let P : BTreeMap (List ℕ) ℕ → Type 0 = λ m. Places m strings (k + 1) in
    elim c.match-place_of.branch [
      | in-Some+else-not-is_at w ↦
          subst P (sym w.places-is)
          (keeps-same c.loop-place.places strings k w.in-Some.first c.digest_of-digest.result c.loop-place.invariant c.loop-place-test.true d (sym w.in-Some.ensures)
          (ap (is_string (slice_get strings w.in-Some.first)) (sym (w.as_slice-in-Some.ensures ∙ at)) ∙ sym w.if-not-is_at.ensures))
      | in-None+in_ok-insert-in-None w ↦
          subst P (sym w.places-is)
          (keeps-new c.loop-place.places w.insert.new.self strings k c.digest_of-digest.result c.loop-place.invariant c.loop-place-test.true d (sym w.in-None.ensures)
          w.in_ok-insert-in-None.ensures.updates)
    ]

pub returns : goal.returns
returns c = (λ t. whole c.loop-place.places c.args.strings.now c.loop-place.place c.loop-place.invariant c.loop-place-test.false, λ none. refl)
