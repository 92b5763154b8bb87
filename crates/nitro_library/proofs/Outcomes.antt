-- The status of an outcome.
use Rattle.std.proofs.Common.{◌≡◌, ℕ, Ok, Err, refl, ◌∙◌, ap}
use Rattle.std.specs.Prelude.{Option, Result}
use Rattle.std.specs.Result.{result_err}
use Rattle.nitro_library.specs.Statuses.{code_of, cut_after, status_of, status_by, EndsBy, HasStatus, IsStopped}
use Rattle.nitro_library.specs.declared.status.Failure.{Failure}

pub has_status : (fault : Option Failure) (IsForeign IsFull : Type 0) (outcome : Result (Unit {0}) Failure) (status : ℕ)
    → EndsBy fault IsForeign IsFull outcome → status ≡ status_of outcome → HasStatus fault IsForeign IsFull status
has_status fault IsForeign IsFull outcome status ends is = (outcome, ends, is)

pub given_status : (fault : Option Failure) (outcome : Result (Unit {0}) Failure) (status : ℕ) → result_err outcome ≡ fault → status ≡ status_of outcome
    → status ≡ status_by fault
given_status fault outcome status ends is = is ∙ same outcome ∙ ap status_by ends
  where
    same : (o : Result (Unit {0}) Failure) → status_of o ≡ status_by (result_err o)
    same (Ok done) = refl
    same (Err failure) = refl

pub stopped : (is_why : Failure → Type 0) (failure : Failure) (status count : ℕ) → is_why failure → status ≡ code_of failure → count ≡ cut_after failure
    → IsStopped is_why status count
stopped is_why failure status count why number cut = record { failure = failure; why = why; number = number; cut = cut }
