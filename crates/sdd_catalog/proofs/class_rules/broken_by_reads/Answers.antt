use Rattle.sdd_catalog.proofs.All.{read_rules, sym, ◌∙◌}
use Rattle.sdd_catalog.proofs.Firsts.{found_here, found_later}
use Rattle.sdd_catalog.proofs.class_rules.broken_by_reads.Goals as goal

pub returns-in-Some : goal.returns-in-Some
returns-in-Some c = found_here (read_rules c.args.parts.now) _ _ _ _ c.loop-index.invariant c.index-reads-index.is c.loop-index-test.true c.in-Some.ensures

pub loop-index-preserved : goal.loop-index-preserved
loop-index-preserved c =
    c.loop-index.invariant ∙ found_later (read_rules c.args.parts.now) _ _ _ c.index-reads-index.is c.loop-index-test.true (sym c.in_default.ensures)
