use Rattle.sdd_certify.proofs.All.{Bor, List, Option, ap, arith, before_order, late_behind, late_on, lines_of, max, option_copied, place_of, submission_on, sym, ℕ, ◌∙◌}
use Rattle.sdd_certify.proofs.FirstFaults.{last_step, one_more}
use Rattle.sdd_certify.proofs.strict.first_late.Goals as goal

pub lines-preserved : goal.lines-preserved
lines-preserved c =
    let few = c.lines.invariant.few in
    let shorter = c.in-Some.ensures.1 in
    let order = c.args.order.now in
    let all : List (List ℕ) = before_order (lines_of c.args.report.now) in
    let line : List ℕ = c.in-Some.line.now in
    let rest : List (List ℕ) = before_order (lines_of c.in-Some.behind.now) in
    let there = c.lines.invariant.left ∙ c.in-Some.ensures.0 in
    let none = ap (λ (n : ℕ). late_behind order n (place_of order (submission_on line))) (sym c.lines.invariant.last)
    ∙ ap (λ (n : ℕ). late_behind order c.lines.last n) (sym c.in_ok-submitted.ensures)
    ∙ sym c.late_behind.ensures ∙ ap (λ (o : Option (Bor (List ℕ))). option_copied o) c.in_default-late_behind.is in
    let step = one_more (late_on order) all c.lines.before line rest _ there none c.lines.invariant.found in
    record {
      few = omega (arith, few, shorter);
      last = c.max-last.ensures ∙ ap (λ (n : ℕ). max c.lines.last n) c.in_ok-place_told.ensures
          ∙ last_step order all c.lines.before line rest c.lines.last there c.lines.invariant.last;
      left = step.0;
      found = step.1;
    }
