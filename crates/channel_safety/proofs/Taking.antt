-- An honest participant is in each channel that its journal opens.
use Rattle.std.proofs.Common.{◌++◌, ◌∷◌, subst}
use Rattle.channel_safety.specs.Honest.{HonestIn}
use Rattle.channel_safety.specs.SafetyLaws.{HonestTakePart}
use Rattle.channel_safety.proofs.Lists.{split_of, suffix_of}
use Rattle.channel_safety.proofs.Safe.{honest-at}

pub take-part : HonestTakePart
take-part r key h journal honest x f i j =
    let sp = split_of x journal i in
    let on : HonestIn r key f h (sp.newer ++ x ∷ sp.front) = subst (HonestIn r key f h) sp.is (honest f x i j) in
    let line = honest-at r key f h sp.newer x sp.front on in
    let su = suffix_of h x.seen line.within in
    (line.place su.later su.past su.is su.len).takes_part j
