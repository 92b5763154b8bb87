use Rattle.std.proofs.Common.{rules, ◌≡◌, ◌∙◌, List, ap, ap₂, codes, map, refl, subst, sym, true, true≢false, ⊎_elim}
use Rattle.std.specs.Prelude.{option_and_then}
use Rattle.clap.specs.Kinds.{HasKind}
use Rattle.clap.specs.Matches.{first_value, found_of}
use Rattle.clap.specs.Simple.{app_of, is_simple, matches_of}
use Rattle.clap.specs.Faults.{fault_of, is_simple_and_free}
use Rattle.clap.specs.Values.{kind_of}
use Rattle.clap.specs.Walk.{Text}
use Rattle.clap.specs.declared.error.kind.ErrorKind.TheVariants.{OutOfMemory}
use Rattle.command_words.specs.Command.{load_app}
use Rattle.command_words.specs.Words.{load_of, number_of}
use Rattle.command_words.proofs.Loads.{load_of-matches, refused-is_none}
use Rattle.command_words.proofs.words.read_load.Goals as goal

pub returns-in-Ok : goal.returns-in-Ok
returns-in-Ok c =
    let words : List Text = map (λ word. word.now) c.args.words.now in
    let app : app_of c.in_ok-command.command ≡ load_app = search rules in
    let found = found_of c.in-Ok.matches in
    let seed : c.number_in.result ≡ option_and_then number_of (first_value found (codes "seed")) = search rules in
    let count : c.number_in-in-Ok.result ≡ option_and_then number_of (first_value found (codes "count")) = search rules in
    c.load.ensures ∙ ap₂ load_of seed count
    ∙ load_of-matches words found
    (ap (λ a. fault_of a words) (sym app) ∙ c.in-Ok.ensures.kinds (ap is_simple_and_free app))
    ((c.in-Ok.ensures.matches (ap is_simple app)).0 ∙ ap (λ a. matches_of a words) app)

pub returns-in-Err-2 : goal.returns-in-Err-2
returns-in-Err-2 c =
    let words : List Text = map (λ word. word.now) c.args.words.now in
    let app : app_of c.in_ok-command.command ≡ load_app = search rules in
    let kind : HasKind (fault_of load_app words) c.in-Err.error = subst (λ a. HasKind (fault_of a words) c.in-Err.error) app (c.in-Err.ensures.kinds (ap is_simple_and_free app)) in
    ⊎_elim
    (λ h. let is : c.kind.result ≡ OutOfMemory = c.kind.ensures ∙ h in let same : c.eq.result ≡ true = rw (c.eq.ensures, is) refl in absurd (true≢false (sym same ∙ c.if-eq.false)))
    (λ among. refused-is_none words (kind_of c.in-Err.error) among) kind
