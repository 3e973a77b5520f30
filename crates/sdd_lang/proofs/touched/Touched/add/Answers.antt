use Rattle.sdd_lang.proofs.touched.Touched.add.Goals as goal

pub returns-in-Update-clause-reads : goal.returns-in-Update-clause-reads
returns-in-Update-clause-reads c = rw c.in-Update.is (rw c.as_slice-in-Update.ensures at c.add_change.ensures.reads)

pub returns-in-Update-clause-writes : goal.returns-in-Update-clause-writes
returns-in-Update-clause-writes c = rw c.in-Update.is (rw c.as_slice-in-Update.ensures at c.add_change.ensures.writes)
