use Rattle.sdd_obligations.proofs.Written.{changes_fit, write_put}
use Rattle.sdd_obligations.proofs.effects_laws.law_writes.Goals as goal

pub returns-clause-items : goal.returns-clause-items
returns-clause-items g = λ given log from d n ts class txn changes good h e. (write_put given log from d n ts class txn changes good h e).items

pub returns-clause-each : goal.returns-clause-each
returns-clause-each g = λ given log from d n ts class txn changes good h e. changes_fit given d changes good
    (write_put given log from d n ts class txn changes good h e)
