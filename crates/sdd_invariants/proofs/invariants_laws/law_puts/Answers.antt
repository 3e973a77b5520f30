use Rattle.sdd_invariants.proofs.Homes.{homed}
use Rattle.sdd_invariants.proofs.Origins.{was_put}
use Rattle.sdd_invariants.proofs.ReadsPut.{put_by, read_once}
use Rattle.sdd_invariants.proofs.WritesPut.{written}
use Rattle.sdd_invariants.proofs.invariants_laws.law_puts.Goals as goal

pub returns-clause-was_put : goal.returns-clause-was_put
returns-clause-was_put g = was_put

pub returns-clause-put_by : goal.returns-clause-put_by
returns-clause-put_by g = put_by

pub returns-clause-homed : goal.returns-clause-homed
returns-clause-homed g = homed

pub returns-clause-reads_rise : goal.returns-clause-reads_rise
returns-clause-reads_rise g setting class to log w h = (read_once setting class to log w h).strict

pub returns-clause-writes_rise : goal.returns-clause-writes_rise
returns-clause-writes_rise g setting class to log w h = (written setting class to log w h).strict
