-- There are such rules: those of a node that only counts what it has followed.
use Rattle.std.proofs.Common.{◌≤◌, ◌+◌, ℕ, List, [], length, reverse, ap, arith, length-append}
use Rattle.std.proofs.lemmas.List.{length-reverse}
use Rattle.std.specs.Prelude.{Ok, None}
use Rattle.call_history.specs.declared.entry.Entry.{Entry}
use Rattle.network.specs.Watching.{history_after}
use Rattle.network.specs.Ways.{Ways, quiet}
use Rattle.network.specs.Histories.{ComeNext}
use Rattle.network.specs.Standing.{AreKept}
use Rattle.network.proofs.Fronts.{after_is}

abbrev counting : Ways ℕ
counting =
    record {
      fresh = λ number signer. 0;
      number = λ p. 0;
      key = λ p. [];
      seen = λ p. p;
      journal = λ p. [];
      lines = λ p. [];
      chains = λ p. [];
      saw = λ entries p. p + length entries;
      commanded = λ step command p. p;
      answers = λ command p. Ok quiet;
      handled = λ bytes p. p;
      refuses = λ bytes p. None;
      ticked = λ p. p;
      gives = λ p. quiet;
      watched = λ seen place calls p. p;
    }

within : (h entries : List Entry) (p : ℕ) → ComeNext h entries p → p + length entries ≤ length h
within h entries p c =
    omega (arith, ap length c.2, length-append c.0 (history_after c.1 entries), ap length (after_is c.1 entries), length-append (reverse entries) c.1, length-reverse entries, c.3)

pub counting_is_kept : AreKept counting (λ h p. p ≤ length h)
counting_is_kept =
    record {
      fresh = λ h number signer new. omega (arith);
      saw = λ h entries p legal c st. within h entries p c;
      commanded = λ h step command p legal st. st;
      handled = λ h bytes p legal st. st;
      ticked = λ h p legal st. st;
      watched = λ h entries l place p legal looked st. st;
      grows = λ h e p legal st. omega (arith, st);
      within = λ h p st. st;
      honest = λ h p legal valid st f x i. absurd i;
    }
