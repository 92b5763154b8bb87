-- Results that are known to be `Ok`.
use Rattle.std.proofs.Common.{◌≡◌, true, Result, Ok, Err, sym}
use Rattle.std.specs.Prelude.{OnOk, is_ok}
use Rattle.std.proofs.lemmas.Bool.{true≢false}

pub from_ok : {T E : Type 0} {P : Type 0} (r : Result T E) → OnOk r P → is_ok r ≡ true → P
from_ok (Ok x) p e = p
from_ok (Err y) p e = absurd (true≢false (sym e))
