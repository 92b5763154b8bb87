-- The node of a number stands at the place that is found.
use Rattle.std.proofs.Common.{◌≡◌, ℕ, List, length, get_or, Option, Some, None, refl, sym, ◌∙◌, ap}
use Rattle.std.proofs.lemmas.Option.{slice_get_read}
use Rattle.std.specs.Prelude.{◌==◌, slice_set, []}
use Rattle.std.specs.Option.{option_map}
use Rattle.std.specs.List.{find, position}
use Rattle.channel_values.proofs.Found.{placed, nowhere, there, put}
use Rattle.call_history.specs.declared.event.Event.{Event}
use Rattle.network.specs.Ways.{Ways, quiet}
use Rattle.network.specs.declared.outs.Outs.{Outs}
use Rattle.network.specs.Members.{MemberOf}
use Rattle.network.specs.Worlds.{WorldOf, has_number, member, replaced, changed, given_by, journal_if, journal}

module _ {P : Type 0} (ways : Ways P) where
  pub nobody_changes : (number : ℕ) (change : MemberOf P → MemberOf P) (w : WorldOf P) → None ≡ position (λ m. ways.number m.node == number) w.members → w ≡ changed ways number change w
  nobody_changes number change w e = ap (λ (o : Option (MemberOf P)). replaced ways w number (option_map change o)) (sym (nowhere (has_number ways number) w.members e))

  is_there : (number place : ℕ) (members : List (MemberOf P)) (m : MemberOf P) → Some place ≡ position (λ m. ways.number m.node == number) members → m ≡ get_or members place m
      → find (has_number ways number) members ≡ Some m
  is_there number place members m e at =
      there (has_number ways number) members place e ∙ slice_get_read members (length members) place m refl (placed (has_number ways number) members place e).1 at

  pub changes_there : (number place : ℕ) (change : MemberOf P → MemberOf P) (w new : WorldOf P) (m x : MemberOf P) → Some place ≡ position (λ m. ways.number m.node == number) w.members
      → m ≡ get_or w.members place m → x ≡ change m → new ≡ record w { members = slice_set w.members place x } → new ≡ changed ways number change w
  changes_there number place change w new m x e at is h =
      h
      ∙ ap (λ (members : List (MemberOf P)). record w { members = members }) (ap (slice_set w.members place) is ∙ put (has_number ways number) w.members place (change m) e)
      ∙ ap (λ (o : Option (MemberOf P)). replaced ways w number (option_map change o)) (sym (is_there number place w.members m e at))

  pub nobody_gives : (number : ℕ) (give : MemberOf P → Outs) (w : WorldOf P) (outs : Outs) → None ≡ position (λ m. ways.number m.node == number) w.members
      → outs ≡ quiet → outs ≡ given_by ways give (member ways w number)
  nobody_gives number give w outs e h = h ∙ ap (given_by ways give) (sym (nowhere (has_number ways number) w.members e))

  pub gives_there : (number place : ℕ) (give : MemberOf P → Outs) (w : WorldOf P) (outs : Outs) (m : MemberOf P) → Some place ≡ position (λ m. ways.number m.node == number) w.members
      → m ≡ get_or w.members place m → outs ≡ give m → outs ≡ given_by ways give (member ways w number)
  gives_there number place give w outs m e at h =
      h ∙ ap (given_by ways give) (sym (is_there number place w.members m e at))

  pub nobody_tells : (number : ℕ) (w : WorldOf P) (told : List Event) → None ≡ position (λ m. ways.number m.node == number) w.members → told ≡ [] → told ≡ journal ways w number
  nobody_tells number w told e h = h ∙ ap (journal_if ways) (sym (nowhere (has_number ways number) w.members e))

  pub tells_there : (number place : ℕ) (w : WorldOf P) (told : List Event) (m : MemberOf P) → Some place ≡ position (λ m. ways.number m.node == number) w.members
      → m ≡ get_or w.members place m → told ≡ ways.journal m.node → told ≡ journal ways w number
  tells_there number place w told m e at h =
      h ∙ ap (journal_if ways) (sym (is_there number place w.members m e at))
