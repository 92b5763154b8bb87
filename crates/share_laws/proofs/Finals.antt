-- Whether a mode is final.
use Rattle.std.proofs.Common.{◌≡◌, true, false, refl, ap}
use Rattle.call_history.specs.Mode.{is_final}
use Rattle.call_history.specs.declared.standing.Standing.{Standing}
use Rattle.call_history.specs.declared.standing.Standing.TheVariants.{Open, Challenged, Final}

pub not-final : (m : Standing) → is_final m ≡ false → m ≡ Final → ⊥
not-final m h e = let f : is_final m ≡ true = ap is_final e in cc

pub final-is : (m : Standing) → is_final m ≡ true → m ≡ Final
final-is Open h = cc
final-is Challenged h = cc
final-is Final h = refl
