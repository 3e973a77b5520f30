use Rattle.sdd_run.proofs.All.{whole_sound}
use Rattle.sdd_run.proofs.LowClocks.{low_clocks}
use Rattle.sdd_run.proofs.law.law_low_clocks.Goals as goal

pub returns : goal.returns
returns g = λ cat work tables log sound valid tabled lawful. low_clocks cat tables work (whole_sound cat work sound valid) valid tabled log lawful
