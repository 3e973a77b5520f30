use Rattle.sdd_progress.proofs.KeptEras.{acyclic, keeps_eras_of, laws_of, orderable}
use Rattle.sdd_progress.proofs.succession_law.law_lawful.Goals as goal

pub returns-clause-eras : goal.returns-clause-eras
returns-clause-eras g = keeps_eras_of

pub returns-clause-laws : goal.returns-clause-laws
returns-clause-laws g = laws_of

pub returns-clause-acyclic : goal.returns-clause-acyclic
returns-clause-acyclic g = acyclic

pub returns-clause-orderable : goal.returns-clause-orderable
returns-clause-orderable g = orderable
