-- A node that has followed nothing, and a list of one.
use Rattle.std.proofs.Common.{◌≡◌, zero, suc, ◌≤◌, List, [], ◌∷◌, length, sym, ap, subst, arith}
use Rattle.std.specs.Prelude.{All}
use Rattle.channel_safety.specs.Journals.{In}
use Rattle.network.specs.Ways.{Ways}
use Rattle.network.specs.declared.lookout.Lookout.{Lookout}
use Rattle.network.specs.Members.{MemberOf}
use Rattle.network_rounds.specs.Members.{HasFollowed}

pub follows_nothing : {P : Type 0} (ways : Ways P) (m : MemberOf P) → ways.seen m.node ≤ 0 → m.watchers ≡ [] → HasFollowed ways [] m
follows_nothing ways m none alone = record {
  node = none;
  watchers = λ l i. absurd (subst (λ (ls : List Lookout). In l ls) alone i);
  few = (let n = ap length alone in omega (arith, n));
}

of_one : {A : Type 0} (Q : A → Type 0) (x : A) → Q x → All Q (x ∷ [])
of_one Q x holds zero d lt = holds
of_one Q x holds (suc k) d lt = absurd (omega (arith, lt))

pub all_of_one : {A : Type 0} (Q : A → Type 0) (x : A) (xs : List A) → xs ≡ x ∷ [] → Q x → All Q xs
all_of_one {A = A} Q x xs is holds = subst (λ (ys : List A). All Q ys) (sym is) (of_one Q x holds)
