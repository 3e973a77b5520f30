use Rattle.sdd_sites.proofs.All.{arith}
use Rattle.sdd_sites.proofs.Sends.{one_more}
use Rattle.sdd_sites.proofs.putting.send_one.Goals as goal

pub returns-clause-ok : goal.returns-clause-ok
returns-clause-ok c = λ tms dms calls h k. (
  one_more c.count_sent.result _ (c.count_sent.ensures tms dms calls h k.0) c.if-count_sent.false (omega (arith, c.count_sent.auto)),
  c.in_ok-send.ensures tms dms calls h,
)
