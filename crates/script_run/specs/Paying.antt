-- How a load ends: both of its people finish, and are paid what they have after its payments.
use Rattle.std.specs.Prelude.{◌≡◌, ◌+◌, ◌-◌, ℕ, zero, suc, List, [], ◌∷◌, codes, if◌then◌else◌}
use Rattle.std.specs.Str.{bytes_eq}
use Rattle.call_history.specs.History.{newest_first, paid_to, held_of}
use Rattle.script_run.specs.Load.{key_seed, digest_of, payer, amount}
use Rattle.script_run.specs.TwoPeople.{Pair}
use Rattle.script_run.specs.Whole.{IsWhole}
use Rattle.report_text.specs.People.{all_refused}
use Rattle.report_text.specs.declared.report.Load.{Load}
use Rattle.report_text.specs.declared.report.Report.{Report}
use Rattle.report_text.specs.declared.report.Share.{Share}
use Rattle.script_steps.specs.Digests.{key_of}

-- the two people and their channel, in which each has 1,000,000 of asset 0 at first
abbrev pub pair_of : ℕ → Pair
pair_of seed =
    record {
      key_a = key_of (key_seed 65 seed) 10;
      key_b = key_of (key_seed 66 seed) 10;
      nonce = 1;
      duration = 10;
      asset = 0;
      a = 1000000;
      b = 1000000;
    }

-- what the person of this name pays in the payments at the places from 1 to this one
abbrev pub pays : (who : List ℕ) (seed place : ℕ) → ℕ
pays who seed zero = 0
pays who seed (suc place) = pays who seed place + (if bytes_eq (payer (suc place)) who then amount seed (suc place) else 0)

-- what it has then: what it had, and what the other pays, less what it pays
abbrev pub has : (who other : List ℕ) (seed count : ℕ) → ℕ
has who other seed count = 1000000 + pays other seed count - pays who seed count

abbrev pub first_has : (seed count : ℕ) → ℕ
first_has seed count = has (codes "A") (codes "B") seed count

abbrev pub second_has : (seed count : ℕ) → ℕ
second_has seed count = has (codes "B") (codes "A") seed count

abbrev pub share : (letter seed amount : ℕ) → Share
share letter seed amount = record { person = digest_of letter seed; asset = 0; amount = amount }

-- A load paid what it says. Its history is two deposits, a conclusion and two transfers. Each of the two was paid
-- what it has after the payments, and no channel holds anything. No command was refused, and the shares that are
-- reported are what was paid.
pub record Pays (load : Load) (r : Report) : Type 0 where
  pub whole : IsWhole (pair_of load.seed) r.history
  pub first : paid_to (newest_first r.history) (digest_of 65 load.seed) 0 ≡ first_has load.seed load.count
  pub second : paid_to (newest_first r.history) (digest_of 66 load.seed) 0 ≡ second_has load.seed load.count
  pub none_held : (channel : List ℕ) (asset : ℕ) → held_of (newest_first r.history) channel asset ≡ 0
  pub none_refused : all_refused r.journals ≡ []
  pub shares : r.shares ≡ share 65 load.seed (first_has load.seed load.count) ∷ share 66 load.seed (second_has load.seed load.count) ∷ []
