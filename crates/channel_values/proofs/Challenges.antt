-- What a challenge that is signed says.
use Rattle.std.proofs.Common.{◌≡◌, ℕ, List, true}
use Rattle.std.specs.Prelude.{Option, Some, None}
use Rattle.std.specs.List.{slice_get}
use Rattle.channel_values.specs.Parts.{FixedParts, StateParts}
use Rattle.channel_values.specs.Messages.{message_of_challenge}
use Rattle.channel_values.specs.Rules.{Rules, digest_of, signs, signs_challenge_on}

-- the challenger's key verifies the message of the state's digest
pub challenge_verified : (r : Rules) (f : FixedParts) (o : Option StateParts) (who : ℕ) (signature : List ℕ) → signs_challenge_on r f o who signature ≡ true
    → signs r (slice_get f.keys who) (message_of_challenge (digest_of r f o) who) signature ≡ true
challenge_verified r f None who signature h = absurd cc
challenge_verified r f (Some s) who signature h = h
