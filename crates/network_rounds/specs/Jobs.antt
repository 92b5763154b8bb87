-- Jobs: workers with their seats.
use Rattle.std.specs.Prelude.{◌≡◌, List, ◌++◌, map, Result, Ok}
use Rattle.call_history.specs.declared.entry.Entry.{Entry}
use Rattle.shared_object.specs.Caller.{Caller}
use Rattle.network_rounds.specs.Seats.{parts, AreFresh, Gathers}
use Rattle.network_rounds.specs.declared.fault.RoundFault.{RoundFault}
use Rattle.network_rounds.specs.declared.worker.Job.{Job}
use Rattle.network_rounds.specs.declared.worker.Worker.{Worker}

module _ {P D : Type 0} {V : D → Type 0} where
  abbrev pub seats_of : List (Job P D V) → List (Caller Entry)
  seats_of jobs = map (λ job. job.seat) jobs

  abbrev pub workers_of : List (Job P D V) → List (Worker P D V)
  workers_of jobs = map (λ job. job.worker) jobs

  -- Jobs for these workers were added to a list: the caller's seat is dealt to them.
  pub record Deals (c : Caller Entry) (workers : List (Worker P D V)) (before after : List (Job P D V)) : Type 0 where
    pub dealt : List (Job P D V)
    pub added : after ≡ before ++ dealt
    pub workers_are : workers_of dealt ≡ workers
    pub fresh : AreFresh c (seats_of dealt)
    pub shared : parts (seats_of dealt) ≡ c.part

  -- All of these went well: their workers are collected, and the caller has taken in their seats.
  pub record Collects (results : List (Result (Job P D V) RoundFault)) (workers : List (Worker P D V)) (c d : Caller Entry) : Type 0 where
    pub done : List (Job P D V)
    pub are : results ≡ map (λ job. Ok job) done
    pub workers_are : workers ≡ workers_of done
    pub gathers : Gathers (seats_of done) c d
