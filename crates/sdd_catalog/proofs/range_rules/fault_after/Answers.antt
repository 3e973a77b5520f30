use Rattle.std.proofs.Common.{arith}
use Rattle.std.proofs.lemmas.Grind.{common_steps}
use Rattle.sdd_catalog.proofs.All.{KeyRange, Some, ap, get_or, get_or_default, pos, ◌∙◌}
use Rattle.sdd_catalog.proofs.RangeFaults.{after_fault}
use Rattle.sdd_catalog.proofs.range_rules.fault_after.Goals as goal

pub returns-in-Some : goal.returns-in-Some
returns-in-Some c =
    let i = c.loop-range.range-index in
    let xs = c.args.rest.now in
    let none : KeyRange = record { number = 0; from = pos 0; to = pos 0 } in
    let x : KeyRange = get_or xs i none in
    ap Some c.range_fault_at.ensures
    ∙ after_fault _ _ xs i x c.in-Some.rule
    (get_or_default xs i none x c.loop-range-test.true) c.loop-range-test.true c.in-Some.ensures c.loop-range.invariant

pub loop-range-preserved : goal.loop-range-preserved
loop-range-preserved c = grind (arith, common_steps)

pub returns-else-last-lt9223372036854775807 : goal.returns-else-last-lt9223372036854775807
returns-else-last-lt9223372036854775807 c = grind (arith, common_steps)

pub returns-then-last-lt9223372036854775807 : goal.returns-then-last-lt9223372036854775807
returns-then-last-lt9223372036854775807 c = grind (arith, common_steps)
