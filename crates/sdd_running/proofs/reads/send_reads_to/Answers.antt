use Rattle.std.proofs.lemmas.Grind.{common_steps}
use Rattle.sdd_running.proofs.All.{arith, dm_no, refl}
use Rattle.sdd_running.proofs.Reading.{module_more, sent_more}
use Rattle.sdd_running.proofs.reads.send_reads_to.Goals as goal

pub loop-dm-preserved : goal.loop-dm-preserved
loop-dm-preserved c =
    let b = c.args.beginning.now in
    let dms = c.args.dms.now in
    let i = c.loop-dm.dm-index in
    record {
      draft = sent_more b dms i (dm_no 0) _ c.args.draft.now c.loop-dm.draft c.send_read.new.draft c.loop-dm-test.true refl c.loop-dm.invariant.draft
          c.in_ok-send_read.ensures.draft;
      modules = module_more b dms i (dm_no 0) _ c.loop-dm.modules c.send_read.new.modules c.loop-dm-test.true refl c.loop-dm.invariant.modules
          c.in_ok-send_read.ensures.modules;
    }

pub returns-clause-draft : goal.returns-clause-draft
returns-clause-draft c = grind (arith, common_steps)

pub returns-clause-modules : goal.returns-clause-modules
returns-clause-modules c = grind (arith, common_steps)
