use Rattle.sdd_certify.proofs.All.{Bor, List, Option, ap, arith, before_order, lines_of, missing_on, option_copied, sym, ℕ, ◌∙◌}
use Rattle.sdd_certify.proofs.FirstFaults.{one_more}
use Rattle.sdd_certify.proofs.complete.first_missing.Goals as goal

pub lines-preserved : goal.lines-preserved
lines-preserved c =
    let few = c.lines.invariant.few in
    let shorter = c.in-Some.ensures.1 in
    let none = sym c.in_ok-name.ensures ∙ ap (λ (o : Option (Bor (List ℕ))). option_copied o) c.in_default-2.is in
    let step = one_more (missing_on c.args.order.now) (before_order (lines_of c.args.report.now)) c.lines.before c.in-Some.line.now
    (before_order (lines_of c.in-Some.behind.now)) _ (c.lines.invariant.left ∙ c.in-Some.ensures.0) none c.lines.invariant.found in
    record { few = omega (arith, few, shorter); left = step.0; found = step.1 }
