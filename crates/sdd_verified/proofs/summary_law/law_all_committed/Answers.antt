use Rattle.sdd_verified.proofs.All.{whole_sound}
use Rattle.sdd_verified.proofs.AllSummed.{all_summed}
use Rattle.sdd_verified.proofs.summary_law.law_all_committed.Goals as goal

pub returns : goal.returns
returns g = λ cat work text sound valid all summed. all_summed cat work text (whole_sound cat work sound valid) valid all summed
