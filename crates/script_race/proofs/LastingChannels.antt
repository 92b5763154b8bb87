-- The channels that a journal's accepted commands open last, where those of the steps do.
use Rattle.std.proofs.Common.{◌≡◌, ℕ, ◌≤◌, Bool, true, false, cond, List, [], ◌∷◌, map, reverse, inl, inr, refl, arith, subst}
use Rattle.std.specs.Prelude.{Option, Some, None}
use Rattle.std.specs.List.{AllByRecursion}
use Rattle.std.proofs.lemmas.Bool.{cases_lt}
use Rattle.call_history.specs.declared.event.Deed.{Deed}
use Rattle.call_history.specs.declared.event.Deed.TheVariants as deeds
use Rattle.call_history.specs.declared.event.Event.{Event}
use Rattle.channel_values.specs.Parts.{FixedParts, IsFixed}
use Rattle.channel_safety.specs.Journals.{In, Line, opened, is_followed}
use Rattle.network.specs.declared.command.Command.{Command}
use Rattle.channel_node.proofs.Bridging.{In-lines}
use Rattle.channel_node.specs.Named.{named_by}
use Rattle.channel_node.specs.Openings.{adds, opened_by}
use Rattle.channel_node.specs.Places.{Told, tell, command_for, told_by, line_of, lines_of}
use Rattle.play_report.proofs.Pairs.{in_all}
use Rattle.play_report.proofs.Promised.{by_command}
use Rattle.script_race.specs.CommandLaws.{Lasts}
use Rattle.channel_node.specs.Races.{OpensLasting}
use Rattle.node_guarantees.specs.Telling.{HaveFixed}

abbrev LastsAll : (ℕ → Option Command) → Type 0
LastsAll commands = (step : ℕ) (command : Command) → commands step ≡ Some command → (f : FixedParts) → In f (opened_by command) → Lasts f

-- an event of a journal with its command
told_in : (commands : ℕ → Option Command) (events : List Event) (x : Told) → In x (map (λ (e : Event). tell e (command_for commands e.deed)) events)
    → (e : Event) × (x ≡ tell e (command_for commands e.deed))
told_in commands [] x i = absurd i
told_in commands (e ∷ events) x (inl same) = (e, same)
told_in commands (e ∷ events) x (inr i) = told_in commands events x i

two_or_more : (n : ℕ) → 1 ≤ n → (n ≡ 1 → ⊥) → 2 ≤ n
two_or_more n some not =
    elim (cases_lt 1 n) [
      | inl more ↦ omega (arith, more)
      | inr few ↦ absurd (not (omega (arith, some, few)))
    ]

module _ (commands : ℕ → Option Command) (last : LastsAll commands) where
  by_deed : (deed : Deed) (f : FixedParts) → In f (named_by (command_for commands deed)) → Lasts f
  by_deed (deeds.Commanded step refusal) f i = by (commands step) refl i
    where
      by : (o : Option Command) → commands step ≡ o → In f (named_by o) → Lasts f
      by None e j = absurd j
      by (Some command) e j = last step command e f j
  by_deed (deeds.Handled bytes refusal) f i = absurd i
  by_deed (deeds.Signed channel state signature) f i = absurd i
  by_deed (deeds.SignedChallenge channel state position signature) f i = absurd i
  by_deed (deeds.Called call) f i = absurd i
  by_deed (deeds.Watched place calls) f i = absurd i

  opened_lasts : (key : List ℕ) (x : Told) (e : Event) (f : FixedParts) → x ≡ tell e (command_for commands e.deed) → In f (opened (line_of key x)) → Lasts f
  opened_lasts key x e f is i =
      by_deed e.deed f
      (subst (λ (y : Told). In f (named_by y.command)) is (by_command key x.command f (followed (is_followed x.deed) i)))
    where
      followed : (b : Bool) → In f (cond b (adds key x.command) []) → In f (adds key x.command)
      followed true j = j
      followed false j = absurd j

  opened_fixed : (x : Line) (f : FixedParts) → AllByRecursion IsFixed x.adds → In f (opened x) → IsFixed f
  opened_fixed x f fixed i = by (is_followed x.deed) i
    where
      by : (b : Bool) → In f (cond b x.adds []) → IsFixed f
      by true j = in_all IsFixed f x.adds fixed j
      by false j = absurd j

  pub opens_lasting : (key : List ℕ) (events : List Event) (lines : List Line) → lines ≡ lines_of key (told_by commands events) → HaveFixed lines → OpensLasting lines
  opens_lasting key events lines are fixed x f there opens =
      let fits = opened_fixed x f (in_all (λ (y : Line). AllByRecursion IsFixed y.adds) x lines fixed there) opens in
      let told = In-lines key x (told_by commands events) (subst (λ (l : List Line). In x l) are there) in
      let event = told_in commands (reverse events) told.0 told.1 in
      two_or_more f.duration fits.started
      (opened_lasts key told.0 event.0 f event.1 (subst (λ (y : Line). In f (opened y)) told.2 opens))
