use Rattle.sdd_exec.proofs.All.{[], rows_for, sym, ◌+◌, ◌∙◌}
use Rattle.sdd_exec.proofs.Shipping.{chosen_one_by_one}
use Rattle.sdd_exec.proofs.source.ShippedSource.find_matching.Goals as goal

pub returns : goal.returns
returns c =
    c.in_ok-into_entries.ensures c.args.rel.0
    ∙ rw (c.as_slice.ensures.value, c.in_ok-rows.ensures, c.from.ensures) at c.in_ok-entries.ensures
    ∙ sym (chosen_one_by_one c.args.self.now.catalogue.now c.args.rel.0 c.args.conds.now (rows_for c.args.self.now.snap.now.value (c.args.before + 1)) [])
