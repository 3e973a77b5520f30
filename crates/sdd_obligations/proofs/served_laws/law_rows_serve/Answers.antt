use Rattle.sdd_obligations.proofs.Served.{rows_serve}
use Rattle.sdd_obligations.proofs.served_laws.law_rows_serve.Goals as goal

pub returns : goal.returns
returns g = λ given class log attempt d n ts of rows good one h is own_ts own_class.
    rows_serve given good one class log attempt d n ts of rows h is own_ts own_class
