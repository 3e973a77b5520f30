use Rattle.sdd_bounds.proofs.All.{ap, arith, sym, ◌∙◌}
use Rattle.sdd_progress.specs.obligations.logs.Marks.{events_ahead}
use Rattle.sdd_bounds.proofs.FewRounds.{few_rounds}
use Rattle.sdd_bounds.proofs.rounds_law.law_few_rounds.Goals as goal

pub returns-clause-between : goal.returns-clause-between
returns-clause-between c = λ given later log lawful between. few_rounds given later log lawful between

pub returns-clause-in_settle : goal.returns-clause-in_settle
returns-clause-in_settle c = λ given events later log lawful before after.
    let few = few_rounds given later log lawful (after ∙ sym (ap events_ahead before)) in omega arith
