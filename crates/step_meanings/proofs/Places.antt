-- The person of a name stands at the place that is found.
use mathlib.Core.Path.{fun_ext}
use Rattle.std.proofs.Common.{◌≡◌, ℕ, List, Option, Some, None, sym, ◌∙◌, ap}
use Rattle.std.specs.Prelude.{slice_get, slice_set}
use Rattle.std.specs.Str.{bytes_eq}
use Rattle.std.specs.List.{position}
use Rattle.channel_values.proofs.Found.{nowhere, there, put}
use Rattle.step_meanings.specs.People.{◌>>=◌, SignedBy, has_name, used_once, signature_of, replaced, sign}
use Rattle.step_meanings.specs.declared.people.Person.{Person}

-- what the person that is found signs, where `back` is the people with another one in its place
abbrev pub signed_with : (Person → List Person) → List ℕ → Option Person → Option SignedBy
signed_with back message found = do
  person ← found
  hand ← person.hand
  signature ← signature_of hand message
  Some (record { signature = signature; people = back (used_once person hand) })

pub nobody_signs : (people : List Person) (name message : List ℕ) → None ≡ position (λ p. bytes_eq p.name name) people → None ≡ sign people name message
nobody_signs people name message e = ap (signed_with (replaced people name) message) (sym (nowhere (has_name name) people e))

pub signs_there : (people : List Person) (name message : List ℕ) (place : ℕ) (o : Option SignedBy) → Some place ≡ position (λ p. bytes_eq p.name name) people
    → o ≡ signed_with (slice_set people place) message (slice_get people place) → o ≡ sign people name message
signs_there people name message place o e h =
    h
    ∙ ap (λ (back : Person → List Person). signed_with back message (slice_get people place)) (fun_ext (λ (p : Person). put (has_name name) people place p e))
    ∙ ap (signed_with (replaced people name) message) (sym (there (has_name name) people place e))
