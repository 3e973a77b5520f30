use Rattle.sdd_invariants.proofs.Answered.{read_of}
use Rattle.sdd_invariants.proofs.Once.{answered_once}
use Rattle.sdd_invariants.proofs.Starting.{commit_answered}
use Rattle.sdd_invariants.proofs.records_laws.law_answers.Goals as goal

pub returns-clause-started : goal.returns-clause-started
returns-clause-started g = read_of

pub returns-clause-once : goal.returns-clause-once
returns-clause-once g = answered_once

pub returns-clause-before_commit : goal.returns-clause-before_commit
returns-clause-before_commit g = commit_answered
