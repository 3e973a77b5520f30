use Rattle.sdd_obligations.proofs.Upholding.{submit_declared, submit_home, submit_new}
use Rattle.sdd_obligations.proofs.obligations_laws.law_submits.Goals as goal

pub returns-clause-new : goal.returns-clause-new
returns-clause-new g = submit_new

pub returns-clause-declared : goal.returns-clause-declared
returns-clause-declared g = submit_declared

pub returns-clause-home : goal.returns-clause-home
returns-clause-home g = submit_home
