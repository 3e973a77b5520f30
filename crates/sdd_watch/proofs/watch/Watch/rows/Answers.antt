use Rattle.sdd_watch.proofs.All.{ap, length, ◌∙◌}
use Rattle.sdd_watch.proofs.Happening.{commits_more}
use Rattle.sdd_watch.proofs.watch.Watch.rows.Goals as goal

pub rows_from-requires : goal.rows_from-requires
rows_from-requires c =
    let r = c.requires in
    let is = c.as_slice-records.ensures ∙ c.history.ensures r.0 r.2 r.3 in (
      r.0,
      r.2,
      r.3,
      commits_more r.0 r.1 r.2 c.as_slice-records.result.now c.args.self.now.records c.args.self.now.commits c.note_from.new.self r.4 is r.5
          c.in_ok-note_from.ensures r.6,
    )

pub returns-clause-records : goal.returns-clause-records
returns-clause-records c = λ g log calm. ap length (c.as_slice-records.ensures ∙ c.history.ensures g log calm)

pub returns-clause-commits : goal.returns-clause-commits
returns-clause-commits c = λ g old new calm between at were.
    commits_more g old new c.as_slice-records.result.now c.args.self.now.records c.args.self.now.commits c.note_from.new.self between
    (c.as_slice-records.ensures ∙ c.history.ensures g new calm) at c.in_ok-note_from.ensures were
