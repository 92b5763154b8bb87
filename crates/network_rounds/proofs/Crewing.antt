-- Crews that are split into workers and joined again.
use Rattle.std.proofs.Common.{◌≡◌, Bool, true, false, cond, List, [], ◌∷◌, ◌++◌, map, refl, sym, ap, ◌∙◌, subst, append_assoc, append-nil}
use Rattle.network.specs.Members.{MemberOf}
use Rattle.network_rounds.specs.Members.{Letter}
use Rattle.network_rounds.specs.Players.{Player, awake}
use Rattle.call_history.specs.declared.entry.Entry.{Entry}
use Rattle.shared_object.specs.Caller.{Caller}
use Rattle.network.specs.Ways.{Ways}
use Rattle.network_rounds.specs.Rounds.{Runs, nodes_of, cast_of, sent_by}
use Rattle.network_rounds.specs.Workers.{WorkerOf, a_node, an_actor, Acts, Watches, Phase}
use Rattle.network_rounds.specs.declared.actor.Act.{Act}
use Rattle.network_rounds.specs.Views.{Boxed, player_of, worker_of, crew_of, Taking, Adding, Giving}
use Rattle.network_rounds.specs.declared.cast.Cast.{Cast}
use Rattle.network_rounds.specs.declared.crew.Crew.{Crew}
use Rattle.network_rounds.specs.declared.worker.Worker.{Worker}
use Rattle.network_rounds.specs.declared.worker.Worker.TheVariants.{Node, Actor}

pub map-append : {A B : Type 0} (f : A → B) (xs ys : List A) → map f (xs ++ ys) ≡ map f xs ++ map f ys
map-append f [] ys = refl
map-append {A} {B} f (x ∷ xs) ys = ap (λ (l : List B). f x ∷ l) (map-append f xs ys)

awake-append : (xs : List Player) (x : Player) → awake (xs ++ x ∷ []) ≡ awake xs ++ cond x.done [] (x ∷ [])
awake-append [] x = refl
awake-append (y ∷ xs) x = go y.done (awake-append xs x)
  where
    go : (b : Bool) → awake (xs ++ x ∷ []) ≡ awake xs ++ cond x.done [] (x ∷ []) → cond b (awake (xs ++ x ∷ [])) (y ∷ awake (xs ++ x ∷ [])) ≡ cond b (awake xs) (y ∷ awake xs) ++ cond x.done [] (x ∷ [])
    go true e = e
    go false e = ap (λ (l : List Player). y ∷ l) e

nodes-append : {P : Type 0} (ws vs : List (WorkerOf P)) → nodes_of (ws ++ vs) ≡ nodes_of ws ++ nodes_of vs
nodes-append [] vs = refl
nodes-append {P} (a_node m sent ∷ ws) vs = ap (λ (l : List (MemberOf P)). m ∷ l) (nodes-append ws vs)
nodes-append (an_actor x sent ∷ ws) vs = nodes-append ws vs

cast-append : {P : Type 0} (ws vs : List (WorkerOf P)) → cast_of (ws ++ vs) ≡ cast_of ws ++ cast_of vs
cast-append [] vs = refl
cast-append (a_node m sent ∷ ws) vs = cast-append ws vs
cast-append (an_actor x sent ∷ ws) vs = ap (λ (l : List Player). x ∷ l) (cast-append ws vs)

sent-append : {P : Type 0} (ws vs : List (WorkerOf P)) → sent_by (ws ++ vs) ≡ sent_by ws ++ sent_by vs
sent-append [] vs = refl
sent-append (a_node m sent ∷ ws) vs = ap (λ (l : List Letter). sent ++ l) (sent-append ws vs) ∙ sym (append_assoc sent (sent_by ws) (sent_by vs))
sent-append (an_actor x sent ∷ ws) vs = ap (λ (l : List Letter). sent ++ l) (sent-append ws vs) ∙ sym (append_assoc sent (sent_by ws) (sent_by vs))

module _ {P D : Type 0} {V : D → Type 0} where
  -- ---- taken

  pub took_none : Taking {P = P} {D = D} {V = V} [] [] []
  took_none tells told = refl

  pub took_node : (nodes : List (MemberOf P)) (workers after : List (Worker P D V)) (m : MemberOf P) (w : Worker P D V) → Taking nodes [] workers
      → ((tells : Boxed D V → Bool) (told : Boxed D V → List Act) → worker_of tells told w ≡ a_node m []) → after ≡ workers ++ w ∷ [] → Taking (nodes ++ m ∷ []) [] after
  took_node nodes workers after m w took is e tells told =
      ap (map (worker_of tells told)) e ∙ (map-append (worker_of tells told) workers (w ∷ [])
      ∙ (ap (λ (x : WorkerOf P). map (worker_of tells told) workers ++ x ∷ []) (is tells told)
      ∙ (ap (λ (l : List (WorkerOf P)). l ++ a_node m [] ∷ []) (took tells told ∙ append-nil (map (λ n. a_node n []) nodes))
      ∙ (sym (map-append (λ (n : MemberOf P). a_node n []) nodes (m ∷ [])) ∙ sym (append-nil (map (λ n. a_node n []) (nodes ++ m ∷ [])))))))

  -- ---- actors

  pub added_none : (first workers : List (Worker P D V)) → workers ≡ first → Adding first [] workers
  added_none first workers e tells told = ap (map (worker_of tells told)) e ∙ sym (append-nil (map (worker_of tells told) first))

  -- an actor that is done is dropped
  pub added_done : (first workers : List (Worker P D V)) (cast : List (Cast D V)) (c : Cast D V) → Adding first cast workers → c.done ≡ true → Adding first (cast ++ c ∷ []) workers
  added_done first workers cast c took done tells told =
      took tells told ∙ ap (λ (l : List Player). map (worker_of tells told) first ++ map (λ (x : Player). an_actor x []) l)
      (sym (ap awake (map-append (player_of tells told) cast (c ∷ [])) ∙ (awake-append (map (player_of tells told) cast) (player_of tells told c)
      ∙ (ap (λ (b : Bool). awake (map (player_of tells told) cast) ++ cond b [] (player_of tells told c ∷ [])) done ∙ append-nil (awake (map (player_of tells told) cast))))))

  pub added_actor : (first workers after : List (Worker P D V)) (cast : List (Cast D V)) (c : Cast D V) (w : Worker P D V) → Adding first cast workers → c.done ≡ false
      → ((tells : Boxed D V → Bool) (told : Boxed D V → List Act) → worker_of tells told w ≡ an_actor (player_of tells told c) []) → after ≡ workers ++ w ∷ [] → Adding first (cast ++ c ∷ []) after
  added_actor first workers after cast c w took up is e tells told =
      let front = map (worker_of tells told) first in
      let players = awake (map (player_of tells told) cast) in
      let one = player_of tells told c in
      ap (map (worker_of tells told)) e ∙ (map-append (worker_of tells told) workers (w ∷ [])
      ∙ (ap (λ (x : WorkerOf P). map (worker_of tells told) workers ++ x ∷ []) (is tells told)
      ∙ (ap (λ (l : List (WorkerOf P)). l ++ an_actor one [] ∷ []) (took tells told)
      ∙ (append_assoc front (map (λ (x : Player). an_actor x []) players) (an_actor one [] ∷ [])
      ∙ ap (λ (l : List (WorkerOf P)). front ++ l)
      (sym (map-append (λ (x : Player). an_actor x []) players (one ∷ []))
      ∙ ap (map (λ (x : Player). an_actor x [])) (sym (ap awake (map-append (player_of tells told) cast (c ∷ [])) ∙ (awake-append (map (player_of tells told) cast) one
      ∙ ap (λ (b : Bool). players ++ cond b [] (one ∷ [])) up))))))))

  pub took_all : (nodes all : List (MemberOf P)) (cast done : List (Cast D V)) (first workers : List (Worker P D V)) → all ≡ nodes → cast ≡ done → Taking nodes [] first → Adding first done workers
      → Taking all cast workers
  took_all nodes all cast done first workers n k took added tells told =
      added tells told ∙ (ap (λ (l : List (WorkerOf P)). l ++ map (λ (x : Player). an_actor x []) (awake (map (player_of tells told) done))) (took tells told ∙ append-nil (map (λ (m : MemberOf P). a_node m []) nodes))
      ∙ (ap (λ (l : List (MemberOf P)). map (λ (m : MemberOf P). a_node m []) l ++ map (λ (x : Player). an_actor x []) (awake (map (player_of tells told) done))) (sym n)
      ∙ ap (λ (l : List (Cast D V)). map (λ (m : MemberOf P). a_node m []) all ++ map (λ (x : Player). an_actor x []) (awake (map (player_of tells told) l))) (sym k)))

  -- ---- given back

  pub gave_none : Giving {P = P} {D = D} {V = V} [] [] [] []
  gave_none tells told = (refl, refl, refl)

  pub gave_more : (taken : List (Worker P D V)) (w : Worker P D V) (nodes nodes' : List (MemberOf P)) (cast cast' : List (Cast D V)) (post post' : List Letter) → Giving taken nodes cast post
      → ((tells : Boxed D V → Bool) (told : Boxed D V → List Act) → (nodes' ≡ nodes ++ nodes_of (worker_of tells told w ∷ []))
      × (map (player_of tells told) cast' ≡ map (player_of tells told) cast ++ cast_of (worker_of tells told w ∷ [])) × (post' ≡ post ++ sent_by (worker_of tells told w ∷ [])))
      → Giving (taken ++ w ∷ []) nodes' cast' post'
  gave_more taken w nodes nodes' cast cast' post post' gave one tells told =
      let g = gave tells told in
      let o = one tells told in
      let is = map-append (worker_of tells told) taken (w ∷ []) in (
        o.0 ∙ (ap (λ (l : List (MemberOf P)). l ++ nodes_of (worker_of tells told w ∷ [])) g.0 ∙ (sym (nodes-append (map (worker_of tells told) taken) (worker_of tells told w ∷ [])) ∙ ap nodes_of (sym is))),
        o.1 ∙ (ap (λ (l : List Player). l ++ cast_of (worker_of tells told w ∷ [])) g.1 ∙ (sym (cast-append (map (worker_of tells told) taken) (worker_of tells told w ∷ [])) ∙ ap cast_of (sym is))),
        o.2 ∙ (ap (λ (l : List Letter). l ++ sent_by (worker_of tells told w ∷ [])) g.2 ∙ (sym (sent-append (map (worker_of tells told) taken) (worker_of tells told w ∷ [])) ∙ ap sent_by (sym is))),
      )

  pub gave_node : (taken : List (Worker P D V)) (w : Worker P D V) (m : MemberOf P) (sent : _) (nodes nodes' : List (MemberOf P)) (cast : List (Cast D V)) (post post' : List Letter) → Giving taken nodes cast post
      → w ≡ Node m sent → nodes' ≡ nodes ++ m ∷ [] → post' ≡ post ++ sent.items → Giving (taken ++ w ∷ []) nodes' cast post'
  gave_node taken w m sent nodes nodes' cast post post' gave is n p =
      gave_more taken w nodes nodes' cast cast post post' gave
      (λ tells told. (
        n ∙ ap (λ (v : Worker P D V). nodes ++ nodes_of (worker_of tells told v ∷ [])) (sym is),
        sym (append-nil (map (player_of tells told) cast)) ∙ ap (λ (v : Worker P D V). map (player_of tells told) cast ++ cast_of (worker_of tells told v ∷ [])) (sym is),
        p ∙ (ap (λ (l : List Letter). post ++ l) (sym (append-nil sent.items)) ∙ ap (λ (v : Worker P D V). post ++ sent_by (worker_of tells told v ∷ [])) (sym is)),
      ))

  pub gave_actor : (taken : List (Worker P D V)) (w : Worker P D V) (c : Cast D V) (sent : _) (nodes : List (MemberOf P)) (cast cast' : List (Cast D V)) (post post' : List Letter) → Giving taken nodes cast post
      → w ≡ Actor c sent → cast' ≡ cast ++ c ∷ [] → post' ≡ post ++ sent.items → Giving (taken ++ w ∷ []) nodes cast' post'
  gave_actor taken w c sent nodes cast cast' post post' gave is n p =
      gave_more taken w nodes nodes cast cast' post post' gave
      (λ tells told. (
        sym (append-nil nodes) ∙ ap (λ (v : Worker P D V). nodes ++ nodes_of (worker_of tells told v ∷ [])) (sym is),
        ap (map (player_of tells told)) n ∙ (map-append (player_of tells told) cast (c ∷ []) ∙ ap (λ (v : Worker P D V). map (player_of tells told) cast ++ cast_of (worker_of tells told v ∷ [])) (sym is)),
        p ∙ (ap (λ (l : List Letter). post ++ l) (sym (append-nil sent.items)) ∙ ap (λ (v : Worker P D V). post ++ sent_by (worker_of tells told v ∷ [])) (sym is)),
      ))

  -- ---- a round

  pub runs_of : (ways : Ways P) (tells : Boxed D V → Bool) (told : Boxed D V → List Act) (crew after : Crew P D V) (post : List Letter) (ws acted looked : List (Worker P D V)) (c b d : Caller Entry)
      → Taking crew.nodes.items crew.cast.items ws → post ≡ crew.post.items → Phase (Acts ways post) (map (worker_of tells told) ws) (map (worker_of tells told) acted) c b
      → Phase (Watches ways) (map (worker_of tells told) acted) (map (worker_of tells told) looked) b d → Giving looked after.nodes.items after.cast.items after.post.items
      → Runs ways (crew_of tells told crew) (crew_of tells told after) c d
  runs_of ways tells told crew after post ws acted looked c b d took same first second gave =
      let g = gave tells told in record {
        between = b;
        acted = map (worker_of tells told) acted;
        looked = map (worker_of tells told) looked;
        first = subst (λ (l : List (WorkerOf P)). Phase (Acts ways crew.post.items) l (map (worker_of tells told) acted) c b) (took tells told)
            (subst (λ (l : List Letter). Phase (Acts ways l) (map (worker_of tells told) ws) (map (worker_of tells told) acted) c b) same first);
        second = second;
        after_is =
            ap (λ (l : List (MemberOf P)). record { nodes = l; cast = map (player_of tells told) after.cast.items; post = after.post.items }) g.0
            ∙ (ap (λ (l : List Player). record { nodes = nodes_of (map (worker_of tells told) looked); cast = l; post = after.post.items }) g.1
            ∙ ap (λ (l : List Letter). record { nodes = nodes_of (map (worker_of tells told) looked); cast = cast_of (map (worker_of tells told) looked); post = l }) g.2);
      }
