use Rattle.sdd_catalog.proofs.All.{copy_rules, get_or_default, sym, ◌∙◌}
use Rattle.sdd_catalog.proofs.Firsts.{found_here, found_later}
use Rattle.sdd_catalog.proofs.fragment_rules.broken_by_copies.Goals as goal

pub returns-in-Some : goal.returns-in-Some
returns-in-Some c =
    found_here (copy_rules c.args.dms) _ _ _ _ c.loop-index.invariant
    (get_or_default c.args.copies.now c.loop-index.index 0 _ c.loop-index-test.true) c.loop-index-test.true c.in-Some.ensures

pub loop-index-preserved : goal.loop-index-preserved
loop-index-preserved c =
    c.loop-index.invariant ∙ found_later (copy_rules c.args.dms) _ _ _
    (get_or_default c.args.copies.now c.loop-index.index 0 _ c.loop-index-test.true) c.loop-index-test.true (sym c.in_default.ensures)
