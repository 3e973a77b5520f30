use Rattle.sdd_lang.specs.All.{database_of}
use Rattle.sdd_robust.proofs.Workloads.{pivot_of, robust, shown}
use Rattle.sdd_robust.proofs.judging.find_pivot.Goals as goal

pub returns-in-Some-clause-pivot : goal.returns-in-Some-clause-pivot
returns-in-Some-clause-pivot c =
    pivot_of c.args.catalogue.now c.args.work.now.txns (database_of c.args.catalogue.now c.args.work.now.rows) c.args.all.now
    c.in-Some.found.pivot.now c.in-Some.found.missed.now c.in-Some.found.missing.now c.requires.members
    (rw c.in-Some.is at c.in_ok-found.ensures.found)

pub returns-in-None-clause-shown : goal.returns-in-None-clause-shown
returns-in-None-clause-shown c =
    shown c.args.catalogue.now c.args.work.now c.args.all.now c.requires.members (rw c.in-None.is at c.in_ok-found.ensures.none)

pub returns-in-None-clause-robust : goal.returns-in-None-clause-robust
returns-in-None-clause-robust c =
    robust c.args.catalogue.now c.law_robust.ensures c.args.work.now c.requires.valid
    (shown c.args.catalogue.now c.args.work.now c.args.all.now c.requires.members (rw c.in-None.is at c.in_ok-found.ensures.none))
