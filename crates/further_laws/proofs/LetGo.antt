-- A channel of which the participant let go is closed, and what is due there is called for.
use Rattle.std.proofs.Common.{◌≡◌, ℕ, zero, suc, ◌==◌, Bool, true, false, cond, ◌&&◌, ◌||◌, not, List, [], ◌∷◌, ◌++◌, refl, sym, ◌∙◌, ap, subst, arith}
use Rattle.std.proofs.lemmas.List.Elements.{Contains-append_left, Contains-append_right}
use Rattle.std.specs.Prelude.{Option, Some, None, nat_lt, flat_map, filter_map, Contains}
use Rattle.std.specs.List.{list_any, cons_option}
use Rattle.std.specs.Option.{option_or}
use Rattle.std.specs.Str.{bytes_eq}
use Rattle.channel_values.specs.Parts.{StateParts}
use Rattle.channel_values.specs.Words.{fault_if, ◌⊳◌}
use Rattle.channel_values.specs.declared.value.AssetOutcome.{AssetOutcome}
use Rattle.call_history.specs.Flows.{is_among}
use Rattle.call_history.specs.declared.call.Call.{Call}
use Rattle.call_history.specs.declared.event.NodeRefusal.TheVariants.{NotWanted}
use Rattle.call_history.specs.Mode.{is_final}
use Rattle.funding_plans.specs.Gathered.{goal_in}
use Rattle.funding_plans.specs.Known.{FactsOf}
use Rattle.funding_plans.specs.Parts.{joined_of, ledgers_of}
use Rattle.funding_plans.specs.Rows.{stage_in, wanted_in, called_in}
use Rattle.funding_plans.specs.declared.plan.Part.{Part}
use Rattle.funding_plans.specs.declared.plan.Part.TheVariants.{Root}
use Rattle.ledger_channel.specs.Roots.{Direct, root_rows, root_takes, is_due_in, is_due_of, is_any_due, transfer_in, transfers_of, transfers}
use Rattle.ledger_channel.specs.Stages.{stage_of_root, wanted_of_root, called_of_root, taken_of_root, called_of}
use Rattle.channel_node.specs.Refusing.{first_fault, not_open_in, not_open_part, unfinished_part, standing_part}
use Rattle.stage_tables.specs.Asked.{is_closing, is_unfinished_at, is_unfinished, unfinished_on, part_with}
use Rattle.further_laws.specs.LetGo.{IsLetGo, IsOut, own_transfer, LetGoIsOut, LetGoIsAsWithout, LetGoIsCalledFor}
use Rattle.stage_tables.specs.Stages.{stages}

-- ---- its rows

module _ (d : Direct) where
  -- whether it closes and the participant let go of it, and all else as it is
  abbrev told : (closing over : Bool) → Direct
  told closing over = record d { closing = closing; over = over }

  last-row : (closing over : Bool) → closing ≡ true → over ≡ true → stage_in (root_rows (told closing over)) ≡ 6
  last-row true true c o = refl
  last-row true false c o = absurd cc
  last-row false over c o = absurd cc

  none-wanted : (channel : List ℕ) (closing over : Bool) → closing ≡ true → over ≡ true → wanted_in channel (root_rows (told closing over)) ≡ None
  none-wanted channel true true c o = refl
  none-wanted channel true false c o = absurd cc
  none-wanted channel false over c o = absurd cc

  rest-called : (closing over : Bool) → closing ≡ true → over ≡ true → is_final d.standing ≡ true
      → called_in (root_rows (told closing over)) ≡ transfers (told closing over)
  rest-called true true c o final = ap (λ (b : Bool). cond b (transfers (told true true)) []) final
  rest-called true false c o final = absurd cc
  rest-called false over c o final = absurd cc

  none-taken : (s : StateParts) (closing over : Bool) → over ≡ true → root_takes (told closing over) s ≡ false
  none-taken s closing true o = refl
  none-taken s closing false o = absurd cc

none-here : (b t : Bool) → t ≡ false → (b && t) ≡ false
none-here true t e = e
none-here false t e = refl

-- ---- what is asked of it

module _ (f : FactsOf) (name : List ℕ) (d : Direct) (is : IsLetGo f name d) where
  closed-so : stages.stage f (Root name) ≡ 6
  closed-so = ap stage_of_root is.known ∙ last-row d d.closing d.over is.closes is.over

  unfinished-not : (closing : Bool) (n : ℕ) → n ≡ 6 → is_unfinished_at (Root name) closing n ≡ false
  unfinished-not true n e = ap (λ (k : ℕ). not (k == 6)) e
  unfinished-not false n e = ap (λ (k : ℕ). nat_lt k 3) e

  finished : stages.is_unfinished f (Root name) ≡ false
  finished = unfinished-not (is_closing (goal_in f name)) (stages.stage f (Root name)) closed-so

  out : IsOut f name
  out = record {
    is_closed = closed-so;
    open_or_not = ap (λ (k : ℕ). cond (k == 6) None (first_fault (not_open_in f) (joined_of (Root name)))) closed-so;
    finished = finished;
    done = ap (λ (b : Bool). fault_if b (NotWanted (stages.stage f (Root name)))) finished;
    stands = λ ledger. refl;
    wants = λ channel. ap (wanted_of_root channel) is.known ∙ none-wanted d channel d.closing d.over is.closes is.over;
    takes = λ channel s.
        ap (taken_of_root channel s) is.known
        ∙ none-here (bytes_eq d.channel.name channel) (root_takes d s) (none-taken d s d.closing d.over is.over);
  }

  calls-rest : is_final d.standing ≡ true → called_of f (Root name) ≡ transfers d
  calls-rest final = ap called_of_root is.known ∙ rest-called d d.closing d.over is.closes is.over final

pub let_go_is_out : LetGoIsOut
let_go_is_out f name d is = out f name d is

-- ---- the parts of a plan but one

-- a part that has no fault
fault-without : {E : Type 0} (fault : Part → Option E) (p : Part) (before after : List Part) → fault p ≡ None → first_fault fault (before ++ p ∷ after) ≡ first_fault fault (before ++ after)
fault-without {E} fault p [] after e = ap (λ (o : Option E). o ⊳ first_fault fault after) e
fault-without {E} fault p (x ∷ xs) after e = ap (λ (o : Option E). fault x ⊳ o) (fault-without fault p xs after e)

-- a root stands on no ledger
on-without : (f : FactsOf) (channel name : List ℕ) (before after : List Part) → unfinished_on f channel (before ++ Root name ∷ after) ≡ unfinished_on f channel (before ++ after)
on-without f channel name [] after = refl
on-without f channel name (x ∷ xs) after =
    ap (λ (o : Option Part). cond (is_among channel (ledgers_of x) && is_unfinished f x) (Some x) o) (on-without f channel name xs after)

-- and has no channel but its own
with-without : (channel name : List ℕ) (before after : List Part) → bytes_eq channel name ≡ false → part_with channel (before ++ Root name ∷ after) ≡ part_with channel (before ++ after)
with-without channel name [] after e = ap (λ (b : Bool). cond (b || false) (Some (Root name)) (part_with channel after)) e
with-without channel name (x ∷ xs) after e = ap (λ (o : Option Part). cond (is_among channel (joined_of x)) (Some x) o) (with-without channel name xs after e)

pub let_go_is_as_without : LetGoIsAsWithout
let_go_is_as_without f name d before after parts is = record {
  opens = ap (first_fault (not_open_part stages f)) parts ∙ fault-without (not_open_part stages f) (Root name) before after all.open_or_not;
  done = ap (first_fault (unfinished_part stages f)) parts ∙ fault-without (unfinished_part stages f) (Root name) before after all.done;
  stands = λ ledger.
      ap (first_fault (standing_part stages f ledger)) parts ∙ fault-without (standing_part stages f ledger) (Root name) before after (all.stands ledger);
  about = λ channel e.
      ap (λ (ps : List Part). option_or (unfinished_on f channel ps) (part_with channel ps)) parts
      ∙ (ap (λ (o : Option Part). option_or o (part_with channel (before ++ Root name ∷ after))) (on-without f channel name before after)
      ∙ ap (option_or (unfinished_on f channel (before ++ after))) (with-without channel name before after e));
}
  where
    all : IsOut f name
    all = out f name d is

-- ---- what is due

flat-between : {A B : Type 0} (g : A → List B) (x : A) (before after : List A) → flat_map g (before ++ x ∷ after) ≡ flat_map g before ++ (g x ++ flat_map g after)
flat-between g x [] after = refl
flat-between {B = B} g x (y ∷ ys) after = ap (λ (zs : List B). g y ++ zs) (flat-between g x ys after) ∙ regroup (g y) (flat_map g ys) (g x ++ flat_map g after)
  where
    regroup : (xs ys zs : List B) → xs ++ (ys ++ zs) ≡ (xs ++ ys) ++ zs
    regroup [] ys zs = refl
    regroup (x ∷ xs) ys zs = ap (λ (ws : List B). x ∷ ws) (regroup xs ys zs)

filter-has : {A B : Type 0} (g : A → Option B) (xs : List A) (x : A) (y : B) → Contains xs x → g x ≡ Some y → Contains (filter_map g xs) y
filter-has g [] x y (k, l, is) e = absurd (omega arith)
filter-has {B = B} g (z ∷ zs) x y (zero, l, is) e =
    subst (λ (o : Option B). Contains (cons_option o (filter_map g zs)) y) (sym (ap g is ∙ e)) (0, omega arith, refl)
filter-has {B = B} g (z ∷ zs) x y (suc k, l, is) e = go (g z) (filter-has g zs x y (k, omega arith, is) e)
  where
    go : (o : Option B) → Contains (filter_map g zs) y → Contains (cons_option o (filter_map g zs)) y
    go None c = c
    go (Some w) (n, m, at) = (suc n, omega arith, at)

any-has : {A : Type 0} (test : A → Bool) (xs : List A) → list_any test xs ≡ true → (x : A) × Contains xs x × (test x ≡ true)
any-has test [] e = absurd cc
any-has {A = A} test (y ∷ ys) e = go (test y) refl (any-has test ys) e
  where
    go : (b : Bool) → test y ≡ b → (list_any test ys ≡ true → (x : A) × Contains ys x × (test x ≡ true)) → (b || list_any test ys) ≡ true → (x : A) × Contains (y ∷ ys) x × (test x ≡ true)
    go true t rest h = (y, (0, omega arith, refl), t)
    go false t rest h = let found = rest h in (found.0, (suc found.1.0, (let l = found.1.1 in omega arith), found.1.2), found.2)

none-has : {A : Type 0} (xs : List A) (x : A) → Contains xs x → xs ≡ [] → ⊥
none-has [] x (k, l, is) e = absurd (omega arith)
none-has (y ∷ ys) x c e = absurd cc

-- the transfer of an asset of which something is due
is-transferred : (d : Direct) (settled rest : List AssetOutcome) (o : AssetOutcome) → d.settled ≡ Some settled → d.rest ≡ Some rest → Contains rest o → is_due_in d rest o ≡ true
    → Contains (transfers d) (own_transfer d settled rest o)
is-transferred d settled rest o s r there due =
    subst (λ (calls : List Call). Contains calls (own_transfer d settled rest o))
    (sym (ap (λ (x : Option (List AssetOutcome)). transfers_of d x d.rest) s ∙ ap (transfers_of d (Some settled)) r))
    (filter-has (transfer_in d settled rest) rest o (own_transfer d settled rest o) there (ap (λ (b : Bool). cond b (Some (own_transfer d settled rest o)) None) due))

-- and there is one where anything is due
any-transferred : (d : Direct) (settled : List AssetOutcome) → d.settled ≡ Some settled → is_any_due d ≡ true → (call : Call) × Contains (transfers d) call
any-transferred d settled s due = go d.rest refl due
  where
    go : (x : Option (List AssetOutcome)) → d.rest ≡ x → is_due_of d x ≡ true → (call : Call) × Contains (transfers d) call
    go None r e = absurd cc
    go (Some rest) r e =
        let found = any-has (is_due_in d rest) rest e in
        (own_transfer d settled rest found.0, is-transferred d settled rest found.0 s r found.1 found.2)

pub let_go_is_called_for : LetGoIsCalledFor
let_go_is_called_for f name d before after parts is final = record {
  own = calls-rest f name d is final;
  among = all;
  each = λ settled rest o s r there due. called (own_transfer d settled rest o) (is-transferred d settled rest o s r there due);
  some = λ settled s due none.
      let one = any-transferred d settled s due in
      none-has (stages.calls f) one.0 (called one.0 one.1) none;
}
  where
    all : stages.calls f ≡ flat_map (called_of f) before ++ (transfers d ++ flat_map (called_of f) after)
    all =
        ap (flat_map (called_of f)) parts
        ∙ (flat-between (called_of f) (Root name) before after
        ∙ ap (λ (calls : List Call). flat_map (called_of f) before ++ (calls ++ flat_map (called_of f) after)) (calls-rest f name d is final))

    called : (call : Call) → Contains (transfers d) call → Contains (stages.calls f) call
    called call there =
        subst (λ (calls : List Call). Contains calls call) (sym all)
        (Contains-append_right (flat_map (called_of f) before) (transfers d ++ flat_map (called_of f) after) call
        (Contains-append_left (transfers d) (flat_map (called_of f) after) call there))
