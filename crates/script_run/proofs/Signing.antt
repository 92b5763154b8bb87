-- What the one whose turn it is signs, at each stage.
use Rattle.std.proofs.Common.{◌≡◌, ℕ, ◌+◌, Bool, true, false}
use Rattle.std.specs.Prelude.{◌^◌, nat_lt, None}
use Rattle.channel_values.specs.Rules.{Rules}
use Rattle.call_history.proofs.Names.{bytes_eq_self}
use Rattle.script_run.proofs.Notes.{whole}
use Rattle.script_run.proofs.PairNumbers.{same-number}
use Rattle.script_run.proofs.Opening.{Begins, signs_0, signs_1, signs_2, signs_3}
use Rattle.script_run.proofs.Running.{signs_final_a, signs_final_b, signs_last_a, signs_last_b}
use Rattle.script_run.specs.Pair.{state}
use Rattle.script_run.specs.Signed.{PairsOpen, PairsEnd, PairsSign}
use Rattle.script_run.specs.TwoPeople.{Pair, fixed, name}

ends : (r : Rules) (p : Pair) (turn x y : ℕ) (final : Bool) → nat_lt (turn + 1) (2 ^ 48) ≡ true → r.step (fixed p) (state p turn final x y) (state p (turn + 1) true x y) ≡ None → PairsEnd r p turn x y final
ends r p turn x y true early step = record {
  by_first = λ last ga gb before u v even. signs_last_a r p last ga gb before turn u v x y early even step;
  by_second = λ last ga gb before u v odd. signs_last_b r p last ga gb before turn u v x y early odd step;
}
ends r p turn x y false early step = record {
  by_first = λ last ga gb before u v even. signs_final_a r p last ga gb before turn u v x y early even step;
  by_second = λ last ga gb before u v odd. signs_final_b r p last ga gb before turn u v x y early odd step;
}

opens : (r : Rules) (p : Pair) → Begins r p → PairsOpen r p
opens r p w = record {
  first = λ last. signs_0 r p last w;
  second = λ last ga. signs_1 r p last ga w;
  third = λ last ga gb. signs_2 r p last ga gb w;
  fourth = λ last ga gb. signs_3 r p last ga gb w;
  runs = λ me key last ga gb. simp (bytes_eq_self (name r p), whole p.a p.b, same-number p.asset);
}

pub pairs_sign : PairsSign
pairs_sign r p = (opens r p, ends r p)
