-- The first class that has the transaction tells.
use Rattle.sdd_tm.proofs.All.{refl, sym, ◌+◌, ◌∙◌}
use Rattle.sdd_tm.proofs.Among.{standing_from, standing_here, standing_passed, standing_found, standing_past}
use Rattle.sdd_tm.proofs.parts.standing_among.Goals as goal

pub loop-run-init : goal.loop-run-init
loop-run-init c = refl

pub returns-in_default : goal.returns-in_default
returns-in_default c =
    let runs = c.args.runs.now in
    let i = c.loop-run.run-index in
    let n = c.args.number.0 in
    let is = c.standing.ensures in
    is ∙ sym (standing_found _ (standing_from runs (i + 1) n) (λ e. c.in_default.not-Absent (is ∙ e)))
    ∙ sym (standing_here runs i n c.run-item.result c.run-item.is c.loop-run-test.true) ∙ sym c.loop-run.invariant

pub loop-run-preserved : goal.loop-run-preserved
loop-run-preserved c =
    let runs = c.args.runs.now in
    let i = c.loop-run.run-index in
    let n = c.args.number.0 in
    c.loop-run.invariant ∙ standing_here runs i n c.run-item.result c.run-item.is c.loop-run-test.true
    ∙ standing_passed _ (standing_from runs (i + 1) n) (sym c.in-Absent.ensures)

pub returns : goal.returns
returns c = sym (c.loop-run.invariant ∙ standing_past c.args.runs.now c.loop-run.run-index c.args.number.0 c.loop-run-test.false)
