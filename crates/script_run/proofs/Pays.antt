-- The report of a load says that it paid what it says.
use Rattle.std.proofs.Common.{◌≡◌, ℕ, Bool, true, false, cond, List, Option, Some, None, Result, Ok, Err, refl, sym, ap, subst}
use Rattle.std.specs.Prelude.{IfOk, IfSome}
use Rattle.script_run.proofs.Reports.{loads_pay}
use Rattle.script_run.specs.Paying.{Pays}
use Rattle.script_run.specs.Load.{are_two}
use Rattle.node_guarantees.specs.Ways.{ways}
use Rattle.report_text.specs.declared.report.Load.{Load as Note}
use Rattle.report_text.specs.declared.report.Report.{Report}
use Rattle.network_rounds.specs.Players.{Player}
use Rattle.script_run.proofs.Completes.{is_told}
use Rattle.script_run.proofs.Counts.{few_payments}
use Rattle.script_run.specs.Laws.{PaysItsLoad}
use Rattle.script_run.specs.Run.{Given, IsToldOf, EndsAs, playable, made_from}
use Rattle.script_run.specs.declared.run.Ended.{Ended}
use Rattle.script_run.specs.declared.run.Status.{Status}
use Rattle.command_words.specs.Words.{asked}
use Rattle.command_words.specs.declared.asking.Asked.{Asked}
use Rattle.command_words.specs.declared.asking.Asked.TheVariants.{Run, Race, Load}

-- what was asked for, of what can be played
record AskedSo (o : Option Asked) (seed count : ℕ) : Type 0 where
  is : o ≡ Some (Load seed count)
  two : are_two seed ≡ true

abbrev seed-in : Option Asked → ℕ
seed-in (Some (Load seed count)) = seed
seed-in (Some Run) = 0
seed-in (Some Race) = 0
seed-in None = 0

asked-so : (o : Option Asked) (seed count : ℕ) → playable o ≡ Some (Load seed count) → AskedSo o seed count
asked-so None seed count e = absurd cc
asked-so (Some Run) seed count e = absurd cc
asked-so (Some Race) seed count e = absurd cc
asked-so (Some (Load s c)) seed count e = go (are_two s) refl e
  where
    go : (t : Bool) → are_two s ≡ t → cond t (Some (Load s c)) None ≡ Some (Load seed count) → AskedSo (Some (Load s c)) seed count
    go true two is = record { is = is; two = subst (λ (k : ℕ). are_two k ≡ true) (ap seed-in is) two }
    go false two is = absurd cc

if-noted : (r : Report) (o : Option Note) → r.load ≡ o → IfSome o (λ (load : Note). Pays load r) → PaysItsLoad r
if-noted r o is pays = subst (λ (x : Option Note). IfSome x (λ (load : Note). Pays load r)) (sym is) pays

told-pays : (cast : List Player) (g : Given) (r : Report) → IsToldOf ways cast g r → PaysItsLoad r
told-pays cast g r (Run, asks, reads) = if-noted r None (reads.4.2.tells.noted) tt
told-pays cast g r (Race, asks, reads) = if-noted r None (reads.4.2.tells.noted) tt
told-pays cast g r (Load seed count, asks, played) =
    let so : AskedSo (asked g.words) seed count = asked-so (asked g.words) seed count asks in
    if-noted r (Some (made_from seed count)) played.1.tells.noted (loads_pay (made_from seed count) r so.two (few_payments g.words seed count so.is) played.1)

pub pays_if_told : (report : Option Report) (cast : List Player) (g : Given) → IfSome report (IsToldOf ways cast g) → IfSome report PaysItsLoad
pays_if_told None cast g told = tt
pays_if_told (Some r) cast g told = told-pays cast g r told

-- whatever a run came to
pub pays : (cast : List Player) (g : Given) (status : Status) (report : Option Report) → EndsAs ways cast g status report → IfSome report PaysItsLoad
pays cast g status report ends = pays_if_told report cast g (is_told ways cast g status report ends)

-- or would have come to, had memory not run out
pub pays_at_end : {E : Type 0} (cast : List Player) (g : Given) (end : Result Ended E) → IfOk end (λ ended. EndsAs ways cast g ended.status ended.report)
    → IfOk end (λ ended. IfSome ended.report PaysItsLoad)
pays_at_end cast g (Ok ended) ends = pays cast g ended.status ended.report ends
pays_at_end cast g (Err fault) ends = tt
