-- Numbers that rise within bounds.
use Rattle.std.proofs.Common.{ℕ, ◌<◌, ◌≤◌, List, [], ◌∷◌, ◌++◌, arith}
use Rattle.network_rounds.specs.Working.{RiseWithin}

rise-from : (low low' high : ℕ) (ns : List ℕ) → low' ≤ low → RiseWithin low high ns → RiseWithin low' high ns
rise-from low low' high [] le r = let e : low ≤ high = r in omega (arith, le, e)
rise-from low low' high (n ∷ ns) le r = let e : low < n = r.0 in (omega (arith, le, e), r.1)

rise-up-to : (low high high' : ℕ) (ns : List ℕ) → high ≤ high' → RiseWithin low high ns → RiseWithin low high' ns
rise-up-to low high high' [] le r = let e : low ≤ high = r in omega (arith, le, e)
rise-up-to low high high' (n ∷ ns) le r = (r.0, rise-up-to n high high' ns le r.1)

-- no numbers, and one
pub rise-none : (low high : ℕ) → low ≤ high → RiseWithin low high []
rise-none low high le = le

pub rise-one : (low n high : ℕ) → low < n → n ≤ high → RiseWithin low high (n ∷ [])
rise-one low n high lt le = (lt, le)

pub rise-wider : (low low' high high' : ℕ) (ns : List ℕ) → low' ≤ low → high ≤ high' → RiseWithin low high ns → RiseWithin low' high' ns
rise-wider low low' high high' ns below above r = rise-from low low' high' ns below (rise-up-to low high high' ns above r)

pub rise-append : (low mid mid' high : ℕ) (ns ms : List ℕ) → mid ≤ mid' → RiseWithin low mid ns → RiseWithin mid' high ms → RiseWithin low high (ns ++ ms)
rise-append low mid mid' high [] ms le r s = let e : low ≤ mid = r in rise-from mid' low high ms (omega (arith, le, e)) s
rise-append low mid mid' high (n ∷ ns) ms le r s = (r.0, rise-append n mid mid' high ns ms le r.1 s)
