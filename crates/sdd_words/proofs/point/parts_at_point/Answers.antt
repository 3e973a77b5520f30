use Rattle.sdd_words.proofs.All.{◌==◌, ◌∙◌}
use Rattle.sdd_words.proofs.Points.{before_at, after_at, all_before, none_after}
use Rattle.sdd_words.proofs.point.parts_at_point.Goals as goal

pub returns-in-Some-clause-before : goal.returns-in-Some-clause-before
returns-in-Some-clause-before c = c.split_at.ensures.front ∙ before_at (λ x. x == 46) c.args.bytes.now c.in-Some.at c.in-Some.ensures

pub returns-in-Some-clause-behind : goal.returns-in-Some-clause-behind
returns-in-Some-clause-behind c = c.split_at-in-Some.ensures.back ∙ after_at (λ x. x == 46) c.args.bytes.now c.in-Some.at c.in-Some.ensures

pub returns-in-None-clause-before : goal.returns-in-None-clause-before
returns-in-None-clause-before c = all_before (λ x. x == 46) c.args.bytes.now c.in-None.ensures

pub returns-in-None-clause-behind : goal.returns-in-None-clause-behind
returns-in-None-clause-behind c = none_after (λ x. x == 46) c.args.bytes.now c.in-None.ensures
