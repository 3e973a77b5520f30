use Rattle.sdd_sites.proofs.All.{LivesT, Ticked, get-set_other, slice_set, ◌-◌, ◌∷◌}
use Rattle.sdd_sites.proofs.TxnModules.{is_live, keeps_both, queues, read_at, t_stays, written_at}
use Rattle.sdd_sites.proofs.sites.Sites.tick.Goals as goal

pub tick-requires-clause-lives : goal.tick-requires-clause-lives
tick-requires-clause-lives c =
    let r = c.requires in
    is_live r.0 c.index_mut-module.result.now r.1 r.2
    (read_at (LivesT r.0) c.args.self.now.tms.items (c.args.tm.0 - 1) c.index_mut-module.result.now r.1 r.2 c.index_mut-module.ensures.value r.3.1)

pub tick-requires-clause-queues : goal.tick-requires-clause-queues
tick-requires-clause-queues c =
    let r = c.requires in (
      r.1,
      r.4.0,
      r.2,
      queues r.0 c.index_mut-module.result.now r.1 r.2
          (read_at (LivesT r.0) c.args.self.now.tms.items (c.args.tm.0 - 1) c.index_mut-module.result.now r.1 r.2 c.index_mut-module.ensures.value r.3.1),
      r.4.1,
    )

pub returns-clause-law : goal.returns-clause-law
returns-clause-law c = λ part setting log h f. (
  h.0,
  written_at (LivesT part) (LivesT part) c.args.self.now.tms.items (c.args.tm.0 - 1) c.index_mut-module.result.now c.tick.new.self setting log
      (Ticked c.args.n ∷ log) c.index_mut-module.ensures.value h.1
      (keeps_both part c.index_mut-module.result.now c.tick.new.self setting log (Ticked c.args.n ∷ log) c.tick.ensures.lives_on
      (c.tick.ensures.law setting log) (c.tick.ensures.queues setting log)
      (read_at (LivesT part) c.args.self.now.tms.items (c.args.tm.0 - 1) c.index_mut-module.result.now setting log c.index_mut-module.ensures.value h.1)),
)

pub returns-clause-others : goal.returns-clause-others
returns-clause-others c =
    t_stays c.args.self.now.u c.args.self.now.tms.items (slice_set c.args.self.now.tms.items (c.args.tm.0 - 1) c.tick.new.self) c.args.self.now.dms.items
    c.args.tm c.requires.3.0 (λ k ne. get-set_other c.args.self.now.tms.items (c.args.tm.0 - 1) k c.tick.new.self ne)
