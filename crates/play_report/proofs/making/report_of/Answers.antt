use Rattle.std.proofs.Common.{rules, List, ◌∙◌, ap, sym, subst, length, map, flat_map}
use Rattle.call_history.specs.History.{flows_of, newest_first}
use Rattle.call_history.specs.declared.entry.Entry.{Entry}
use Rattle.asset_holder.specs.Receipts.{assets_of}
use Rattle.run_record.specs.Sums.{sums_of}
use Rattle.play_report.proofs.Made.{made_so}
use Rattle.play_report.specs.Members.{AllFollowed}
use Rattle.play_report.specs.Shares.{known_shares, known_exits, known_ending}
use Rattle.play_report.proofs.making.report_of.Goals as goal

pub returns-clause-made : goal.returns-clause-made
returns-clause-made g c s parts =
    rw c.labels_of-labels.ensures (made_so g.P.Party.ways g.P.Party.lost g.P.ReportedNode.shares g.P.ReportedNode.exits g.P.ReportedNode.facts c.args.load
    (record {
      history = c.make.result;
      journals = c.make-2.result;
      rounds = c.args.rounds;
      labels = c.args.names.labels;
      premises = c.make-3.result;
      shares = c.make-4.result;
      exits = c.make-5.result;
      ends = c.make-6.result;
      sums = c.make-7.result;
      load = c.args.load;
    })
    c.args.names c.args.members.now s
    (record { names_are = parts.names_are; rounds_are = parts.rounds_are; history_is = ap newest_first c.make.ensures ∙ parts.history_is; members_are = parts.members_are })
    (search rules) (search rules) (search rules)
    (c.make-4.ensures ∙ (c.in_ok-tales.ensures.shares ∙ ap (λ (h : List Entry). flat_map (λ m. known_shares g.P.Party.ways g.P.ReportedNode.shares (assets_of (flows_of h)) m.node) c.args.members.now) (c.deref.ensures.value ∙ sym c.make.ensures)))
    (c.make-5.ensures ∙ (c.in_ok-tales.ensures.exits ∙ ap (λ (h : List Entry). flat_map (λ m. known_exits g.P.Party.ways g.P.ReportedNode.exits (assets_of (flows_of h)) m.node) c.args.members.now) (c.deref.ensures.value ∙ sym c.make.ensures)))
    (c.make-6.ensures ∙ (c.in_ok-tales.ensures.ends ∙ ap (λ (h : List Entry). map (λ m. known_ending g.P.Party.ways g.P.ReportedNode.facts g.P.ReportedNode.shares (assets_of (flows_of h)) m.node) c.args.members.now) (c.deref.ensures.value ∙ sym c.make.ensures)))
    (c.make-7.ensures ∙ (c.in_ok-sums.ensures ∙ ap (λ (h : List Entry). sums_of (flows_of h)) (c.deref-5.ensures.value ∙ sym c.make.ensures)))
    (search rules) (search rules) (search rules)
    c.in_ok-tales.ensures.fixed (subst (λ (h : List Entry). AllFollowed g.P.Party.ways g.P.Party.lost (length h) c.args.members.now) (c.deref.ensures.value ∙ sym c.make.ensures) c.in_ok-tales.ensures.followed))
