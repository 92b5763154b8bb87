-- The lines on people with nodes: the commands that their nodes refused, and whether the premises of safety hold.
use Rattle.std.specs.Prelude.{◌==◌, ℕ, List, [], ◌∷◌, Bool, true, false, if◌then◌else◌, fold, flat_map, codes, Some}
use Rattle.std.specs.Fmt.{decimal}
use Rattle.std.specs.Ordering.{nat_cmp}
use Rattle.std.specs.BTreeSet.{insert_key}
use Rattle.channel_values.specs.Digests.{name_of_person}
use Rattle.call_history.specs.declared.event.Deed.{Deed}
use Rattle.call_history.specs.declared.event.Deed.TheVariants.{Commanded}
use Rattle.premises.specs.declared.journal.Journal.{Journal}
use Rattle.report_lines.specs.Text.{Labels, ◌&◌, ended, person_text, node_refusal_text}
use Rattle.report_text.specs.declared.commands.Refused.{Refused}
use Rattle.report_text.specs.declared.report.Judged.{Judged}

-- ---- refused commands

-- the command of an event of this person, where it was refused
abbrev pub refused_in : List ℕ → Deed → List Refused
refused_in who (Commanded step (Some refusal)) = record { step = step; who = who; refusal = refusal } ∷ []
refused_in who _ = []

abbrev pub refused_of : Journal → List Refused
refused_of journal = flat_map (λ x. refused_in (name_of_person journal.key) x.deed) journal.events

-- the refused commands of all, person after person
abbrev pub all_refused : List Journal → List Refused
all_refused journals = flat_map refused_of journals

-- the steps with a refused command, rising
abbrev pub refused_steps : List Refused → List ℕ
refused_steps refused = fold (λ seen r. insert_key nat_cmp seen r.step) [] refused

abbrev pub command_line : Labels → Refused → List ℕ
command_line labels r = codes "command" & decimal r.step & person_text labels r.who & codes "no" & ended (node_refusal_text labels r.refusal)

abbrev pub line_in : Labels → ℕ → Refused → List ℕ
line_in labels step r = if r.step == step then command_line labels r else []

-- the refused commands of a step, person after person
abbrev pub lines_of_step : Labels → List Refused → ℕ → List ℕ
lines_of_step labels refused step = flat_map (line_in labels step) refused

-- step after step
abbrev pub command_lines : Labels → List Refused → List ℕ
command_lines labels refused = flat_map (lines_of_step labels refused) (refused_steps refused)

-- ---- premises

abbrev pub yes_or_no : Bool → List ℕ
yes_or_no true = codes "yes"
yes_or_no false = codes "no"

abbrev pub judged_line : Labels → Judged → List ℕ
judged_line labels p =
    codes "premises" & person_text labels p.person
    & codes "unforged" & yes_or_no p.unforged
    & codes "distinct" & yes_or_no p.distinct
    & codes "intime" & ended (yes_or_no p.in_time)
