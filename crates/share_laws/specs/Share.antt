-- The share: what a person was paid, and the least that its parts are worth over all choices.
use Rattle.std.specs.Prelude.{ℕ, ◌+◌, min, List, [], ◌∷◌}
use Rattle.funding_plans.specs.declared.plan.Part.{Part}
use Rattle.share_laws.specs.Books.{Counting, varying, books_under}
use Rattle.share_laws.specs.Worth.{worth, no_reach}

-- the least over all choices: each of these channels' proposals is taken or not
abbrev pub least_over : List (List ℕ) → (List (List ℕ) → ℕ) → List (List ℕ) → ℕ
least_over [] value taken = value taken
least_over (c ∷ cs) value taken = min (least_over cs value taken) (least_over cs value (c ∷ taken))

abbrev pub worth_under : List ℕ → List Part → (held : List ℕ → ℕ) → List Counting → ℕ → List (List ℕ) → ℕ
worth_under me parts held counting asset taken = worth (books_under held counting asset taken) me parts no_reach

abbrev pub share_of : List ℕ → (paid : ℕ) → List Part → (held : List ℕ → ℕ) → List Counting → (asset : ℕ) → ℕ
share_of me paid parts held counting asset =
    paid + least_over (varying counting) (worth_under me parts held counting asset) []
