-- A phase, assembled from jobs that were dealt, what each did, and what was collected.
use Rattle.std.proofs.Common.{◌≡◌, ℕ, zero, suc, ◌+◌, ◌%◌, ◌<◌, List, [], ◌∷◌, ◌++◌, length, map, take, drop, get_or, refl, sym, ap, ◌∙◌, subst, arith, append_assoc}
use Rattle.std.proofs.lemmas.List.{take-append-drop}
use Rattle.std.specs.Prelude.{Result, Ok, Err, IfOk, All}
use Rattle.call_history.specs.declared.entry.Entry.{Entry}
use Rattle.shared_object.specs.Caller.{Caller, BookId, IsCaller, halved, fresh_half}
use Rattle.network_rounds.specs.Seats.{Seats, parts, AreFresh, Gathers}
use Rattle.network_rounds.specs.Workers.{WorkerOf, Turn, AreTurns, Phase, IsReady}
use Rattle.network_rounds.specs.Working.{Given, Works, Working}
use Rattle.network_rounds.specs.Jobs.{Deals, Collects, seats_of, workers_of}
use Rattle.network_rounds.specs.declared.fault.RoundFault.{RoundFault}
use Rattle.network_rounds.specs.declared.worker.Job.{Job}
use Rattle.network_rounds.specs.declared.worker.Worker.{Worker}

module _ {P D : Type 0} {V : D → Type 0} (view : Worker P D V → WorkerOf P) (Does : WorkerOf P → WorkerOf P → List Given → Caller Entry → Caller Entry → Type 0) where
  -- what a job did
  abbrev Ran : BookId → Job P D V → Job P D V → Type 0
  Ran b j x = (x.seat.book ≡ b) × Working (Does (view j.worker) (view x.worker)) j.seat x.seat

  abbrev AllRan : BookId → List (Job P D V) → List (Job P D V) → Type 0
  AllRan b [] [] = Unit {0}
  AllRan b (j ∷ js) (x ∷ xs) = Ran b j x × AllRan b js xs
  AllRan b _ _ = ⊥

  -- from what is known at each index
  all_ran : (b : BookId) (js : List (Job P D V)) (rs : List (Result (Job P D V) RoundFault)) (xs : List (Job P D V)) → rs ≡ map (λ x. Ok x) xs → length rs ≡ length js
      → ((i : ℕ) (d : Job P D V) (e : Result (Job P D V) RoundFault) → i < length js → IfOk (get_or rs i e) (λ x. Ran b (get_or js i d) x)) → AllRan b js xs
  all_ran b [] rs [] is len each = tt
  all_ran b [] rs (x ∷ xs) is len each = absurd (omega (arith, len, ap length is))
  all_ran b (j ∷ js) rs [] is len each = absurd (omega (arith, len, ap length is))
  all_ran b (j ∷ js) rs (x ∷ xs) is len each =
      let each' = subst (λ (l : List (Result (Job P D V) RoundFault)). (i : ℕ) (d : Job P D V) (e : Result (Job P D V) RoundFault) → i < length (j ∷ js) → IfOk (get_or l i e) (λ x. Ran b (get_or (j ∷ js) i d) x)) is each in (
        each' 0 j (Ok x) (omega arith),
        all_ran b js (map (λ x. Ok x) xs) xs refl (omega (arith, len, ap length is)) (λ i d e lt. each' (suc i) d e (omega (arith, lt))),
      )

  -- the turns of a phase
  record Turned (c : Caller Entry) (js xs : List (Job P D V)) : Type 0 where
    turns : List (Turn P)
    workers : map (λ t. t.worker) turns ≡ map view (workers_of js)
    after : map (λ t. t.after) turns ≡ map view (workers_of xs)
    seats : map (λ t. t.seat_after) turns ≡ seats_of xs
    each : AreTurns Does c turns
    same : parts (seats_of xs) ≡ parts (seats_of js)

  turned : (b : BookId) (c other : Caller Entry) (js xs : List (Job P D V)) → other.seen ≡ c.seen → AllRan b js xs → AreFresh other (seats_of js) → Turned c js xs
  turned b c other [] [] s ran fresh = record { turns = []; workers = refl; after = refl; seats = refl; each = tt; same = refl }
  turned b c other [] (x ∷ xs) s ran fresh = absurd ran
  turned b c other (j ∷ js) [] s ran fresh = absurd ran
  turned b c other (j ∷ js) (x ∷ xs) s ran fresh =
      let r = turned b c other js xs s ran.1 fresh.1 in
      let did = ran.0.1 in
      let works : Works did.0 j.seat x.seat = did.2 in
      let part = works.part in record {
        turns = record { worker = view j.worker; after = view x.worker; gave = did.0; seat = j.seat; seat_after = x.seat } ∷ r.turns;
        workers = ap (λ (l : List (WorkerOf P)). view j.worker ∷ l) r.workers;
        after = ap (λ (l : List (WorkerOf P)). view x.worker ∷ l) r.after;
        seats = ap (λ (l : Seats). x.seat ∷ l) r.seats;
        each = (record { fresh = (fresh.0.1 ∙ s, fresh.0.2); does = did.1; works = works }, r.each);
        same = omega (arith, r.same, part);
      }

  pub phase_of : (b : BookId) (c kept other d : Caller Entry) (workers after : List (Worker P D V)) (before jobs : List (Job P D V)) (results : List (Result (Job P D V) RoundFault))
      → other ≡ fresh_half c → kept ≡ halved c → c.part % 2 ≡ 0 → IsCaller kept → before ≡ [] → Deals other workers before jobs → length results ≡ length jobs
      → ((i : ℕ) (x : Job P D V) (e : Result (Job P D V) RoundFault) → i < length jobs → IfOk (get_or results i e) (λ y. Ran b (get_or jobs i x) y))
      → Collects results after kept d → Phase Does (map view workers) (map view after) c d
  phase_of b c kept other d workers after before jobs results half rest even sound none deals len each col =
      let is : jobs ≡ deals.dealt = deals.added ∙ ap (λ (l : List (Job P D V)). l ++ deals.dealt) none in
      let t = turned b c other deals.dealt col.done (ap (λ (x : Caller Entry). x.seen) half)
      (subst (λ (l : List (Job P D V)). AllRan b l col.done) is (all_ran b jobs results col.done col.are len each)) deals.fresh in
      let gathers : Gathers (map (λ (u : Turn P). u.seat_after) t.turns) kept d = subst (λ (l : Seats). Gathers l kept d) (sym t.seats) col.gathers in record {
        turns = t.turns;
        workers_are = t.workers ∙ ap (map view) deals.workers_are;
        after_are = t.after ∙ ap (map view) (sym col.workers_are);
        each = t.each;
        part = omega (arith, col.gathers.part, t.same, deals.shared, even, ap (λ (x : Caller Entry). x.part) half, ap (λ (x : Caller Entry). x.part) rest);
        sound = λ _. col.gathers.sound sound;
        kept = kept;
        kept_is = (ap (λ (x : Caller Entry). x.book) rest, ap (λ (x : Caller Entry). x.seen) rest, ap (λ (x : Caller Entry). x.made) rest);
        gathers = gathers;
      }

  -- no worker has no turn
  pub no_phase : (c : Caller Entry) (workers : List (Worker P D V)) → workers ≡ [] → Gathers [] c c → Phase Does (map view workers) (map view workers) c c
  no_phase c workers none g = record {
    turns = [];
    workers_are = ap (map view) (sym none);
    after_are = ap (map view) (sym none);
    each = tt;
    part = refl;
    sound = λ s. s;
    kept = c;
    kept_is = (refl, refl, refl);
    gathers = g;
  }

  -- ---- before a phase

  at-index : {A : Type 0} (Q : A → Type 0) (xs : List A) → All Q xs → (k : ℕ) (d : A) → k < length xs → Q (get_or xs k d)
  at-index Q xs all k d lt = all k d lt

  ready_at : (Can : List Entry → WorkerOf P → Type 0) (b : BookId) (c other : Caller Entry) (js : List (Job P D V)) → other.book ≡ b → other.seen ≡ c.seen → AreFresh other (seats_of js)
      → ((k : ℕ) (w : Worker P D V) → k < length (workers_of js) → Can c.seen (view (get_or (workers_of js) k w))) → (k : ℕ) (d : Job P D V) → k < length js
      → IsReady Can b (get_or js k d).seat (view (get_or js k d).worker)
  ready_at Can b c other [] of_b s fresh can k d lt = absurd (omega (arith, lt))
  ready_at Can b c other (j ∷ js) of_b s fresh can zero d lt =
      (fresh.0.0 ∙ of_b, subst (λ (l : List Entry). Can l (view j.worker)) (sym (fresh.0.1 ∙ s)) (can 0 j.worker (omega arith)))
  ready_at Can b c other (j ∷ js) of_b s fresh can (suc k) d lt =
      ready_at Can b c other js of_b s fresh.1 (λ i w l. can (suc i) w (omega (arith, l))) k d (omega (arith, lt))

  pub all_ready : (Can : List Entry → WorkerOf P → Type 0) (b : BookId) (c other : Caller Entry) (workers : List (Worker P D V)) (before jobs : List (Job P D V)) → c.book ≡ b
      → other ≡ fresh_half c → before ≡ [] → Deals other workers before jobs → All (λ w. Can c.seen (view w)) workers → All (λ j. IsReady Can b j.seat (view j.worker)) jobs
  all_ready Can b c other workers before jobs of_b half none deals can k d lt =
      let is : jobs ≡ deals.dealt = deals.added ∙ ap (λ (l : List (Job P D V)). l ++ deals.dealt) none in
      subst (λ (l : List (Job P D V)). IsReady Can b (get_or l k d).seat (view (get_or l k d).worker)) (sym is)
      (ready_at Can b c other deals.dealt (ap (λ (x : Caller Entry). x.book) half ∙ of_b) (ap (λ (x : Caller Entry). x.seen) half) deals.fresh
      (subst (λ (l : List (Worker P D V)). (i : ℕ) (w : Worker P D V) → i < length l → Can c.seen (view (get_or l i w))) (sym deals.workers_are) (λ i w l. can i w l))
      k d (omega (arith, lt, ap length is)))

pub if_first : {A E : Type 0} (Q R : A → Type 0) (r : Result A E) → IfOk r (λ x. Q x × R x) → IfOk r Q
if_first Q R (Ok x) h = h.0
if_first Q R (Err e) h = tt

pub empty_is : {A : Type 0} (xs : List A) → length xs ≡ 0 → xs ≡ []
empty_is [] e = refl
empty_is (x ∷ xs) e = absurd (omega (arith, e))

pub split_is : {A : Type 0} (xs first rest : List A) (n : ℕ) → first ≡ take n xs → rest ≡ drop n xs → xs ≡ first ++ rest
split_is {A} xs first rest n f r = sym (ap (λ (l : List A). l ++ rest) f ∙ (ap (λ (l : List A). take n xs ++ l) r ∙ take-append-drop n xs))

pub some_of : {J X : Type 0} (xs : List J) (i : ℕ) → i < length xs → (J → X) → X
some_of [] i lt f = absurd (omega (arith, lt))
some_of (x ∷ xs) i lt f = f x

pub rest_all : {A : Type 0} (Q : A → Type 0) (xs rest : List A) (r : A) → xs ≡ r ∷ rest → ((i : ℕ) (d : A) → i < length xs → Q (get_or xs i d)) → (i : ℕ) (d : A) → i < length rest → Q (get_or rest i d)
rest_all {A} Q xs rest r e all i d lt = (subst (λ (l : List A). (k : ℕ) (x : A) → k < length l → Q (get_or l k x)) e all) (suc i) d (omega (arith, lt))

map-append : {A B : Type 0} (f : A → B) (xs ys : List A) → map f (xs ++ ys) ≡ map f xs ++ map f ys
map-append f [] ys = refl
map-append {A} {B} f (x ∷ xs) ys = ap (λ (l : List B). f x ∷ l) (map-append f xs ys)

pub took_ok : {J E : Type 0} (all results rest : List (Result J E)) (taken : List J) (r : Result J E) (job : J) → all ≡ map (λ x. Ok x) taken ++ results → results ≡ r ∷ rest → r ≡ Ok job
    → all ≡ map (λ x. Ok x) (taken ++ job ∷ []) ++ rest
took_ok {J} {E} all results rest taken r job e f is =
    e ∙ (ap (λ (l : List (Result J E)). map (λ x. Ok x) taken ++ l) (f ∙ ap (λ (x : Result J E). x ∷ rest) is)
    ∙ (sym (append_assoc (map (λ x. Ok x) taken) (Ok job ∷ []) rest) ∙ ap (λ (l : List (Result J E)). l ++ rest) (sym (map-append (λ (x : J). Ok x) taken (job ∷ [])))))

module _ {P D : Type 0} {V : D → Type 0} where
  pub more_workers : (taken : List (Job P D V)) (job : Job P D V) (ws after : List (Worker P D V)) (w : Worker P D V) → ws ≡ workers_of taken → w ≡ job.worker → after ≡ ws ++ w ∷ []
      → after ≡ workers_of (taken ++ job ∷ [])
  more_workers taken job ws after w e is a =
      a ∙ (ap (λ (l : List (Worker P D V)). l ++ w ∷ []) e ∙ (ap (λ (x : Worker P D V). workers_of taken ++ x ∷ []) is ∙ sym (map-append (λ (j : Job P D V). j.worker) taken (job ∷ []))))

  pub more_seats : (taken : List (Job P D V)) (job : Job P D V) (c d : Caller Entry) → Gathers (seats_of taken ++ job.seat ∷ []) c d → Gathers (seats_of (taken ++ job ∷ [])) c d
  more_seats taken job c d g = subst (λ (l : Seats). Gathers l c d) (sym (map-append (λ (j : Job P D V). j.seat) taken (job ∷ []))) g
