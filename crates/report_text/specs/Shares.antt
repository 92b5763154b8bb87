-- The lines of a person with a node: its premises, and what it was paid and can get of each asset. Also what it could
-- get when it was commanded to exit.
use Rattle.std.specs.Prelude.{ℕ, List, [], ◌++◌, if◌then◌else◌, flat_map, codes}
use Rattle.std.specs.Fmt.{decimal}
use Rattle.std.specs.Str.{bytes_eq}
use Rattle.call_history.specs.Flows.{paid_in}
use Rattle.call_history.specs.declared.funds.Flow.{Flow}
use Rattle.report_text.specs.People.{judged_line}
use Rattle.report_lines.specs.Text.{Labels, ◌&◌, ended, person_text}
use Rattle.report_text.specs.declared.report.Judged.{Judged}
use Rattle.report_text.specs.declared.report.Share.{Share}

-- what the person was paid of an asset, and its share at the end
abbrev pub share_line : Labels → List Flow → Share → List ℕ
share_line labels flows s =
    codes "person" & person_text labels s.person & decimal s.asset
    & codes "paid" & decimal (paid_in flows s.person s.asset)
    & codes "share" & ended (decimal s.amount)

-- its share just after its first accepted exit
abbrev pub exit_line : Labels → Share → List ℕ
exit_line labels s =
    codes "exit" & person_text labels s.person & decimal s.asset & codes "share" & ended (decimal s.amount)

-- of this person alone
abbrev pub share_line_of : Labels → List Flow → List ℕ → Share → List ℕ
share_line_of labels flows who s = if bytes_eq s.person who then share_line labels flows s else []

abbrev pub exit_line_of : Labels → List ℕ → Share → List ℕ
exit_line_of labels who s = if bytes_eq s.person who then exit_line labels s else []

-- the premises of a person, then its shares and then its exits, each in their order
abbrev pub person_lines : Labels → List Flow → (shares exits : List Share) → Judged → List ℕ
person_lines labels flows shares exits p =
    judged_line labels p
    ++ flat_map (share_line_of labels flows p.person) shares
    ++ flat_map (exit_line_of labels p.person) exits
