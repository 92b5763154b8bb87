-- The keys of one more name.
use Rattle.std.proofs.Common.{◌≡◌, ℕ, ◌+◌, ◌<◌, List, ◌++◌, length, take, get_or, arith}
use Rattle.std.proofs.lemmas.Grind.{common_steps}
use Rattle.script_steps.specs.Context.{person_by}
use Rattle.script_steps.specs.Conditions.{key_in, keys_in}
use Rattle.script_steps.specs.declared.context.Context.{Context}

pub keys_more : (c : Context) (names : List (List ℕ)) (i : ℕ) (d : List ℕ) → i < length names → keys_in c (take (i + 1) names) ≡ keys_in c (take i names) ++ key_in (person_by c (get_or names i d))
keys_more c names i d h = grind (arith, common_steps)
