use Rattle.sdd_changed.proofs.All.{Entry, IfOk-weaker, ap, chosen, map, ◌∙◌, ◌≡◌}
use Rattle.sdd_changed.proofs.Chosen.{part_rows}
use Rattle.sdd_changed.proofs.changed.Changed.part.Goals as goal

pub returns : goal.returns
returns c =
    let entries = c.in_ok-find_matching.field-0 in
    IfOk-weaker c.rows_of_entries.result (λ rows. rows ≡ map (λ (e : Entry). e.row) entries) _
    (λ rows e.
    e
    ∙ part_rows c.args.self.now c.args.rel.0 c.args.part c.args.conds.now entries
    (c.in_ok-find_matching.ensures ∙ ap (chosen c.args.self.now c.args.rel.0) (c.as_slice.ensures.value ∙ c.in_ok-own.ensures)))
    c.rows_of_entries.ensures
