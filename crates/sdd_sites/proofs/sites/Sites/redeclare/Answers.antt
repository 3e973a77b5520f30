use Rattle.sdd_sites.proofs.All.{Era, LivesT, Redeclared, get-set_other, slice_set, ◌-◌, ◌∷◌}
use Rattle.sdd_sites.proofs.TxnModules.{is_live, keeps_both, read_at, t_stays, written_at}
use Rattle.sdd_sites.proofs.sites.Sites.redeclare.Goals as goal

pub redeclare-requires-clause-lives : goal.redeclare-requires-clause-lives
redeclare-requires-clause-lives c =
    let r = c.requires in
    is_live r.0 c.index_mut-module.result.now r.1 r.2
    (read_at (LivesT r.0) c.args.self.now.tms.items (c.args.tm.0 - 1) c.index_mut-module.result.now r.1 r.2 c.index_mut-module.ensures.value r.3.1)

pub returns-clause-law : goal.returns-clause-law
returns-clause-law c = λ part setting log h f.
    let era : Era = record { catalogue = c.args.catalogue.now; table = c.args.table.now } in (
      h.0,
      written_at (LivesT part) (LivesT part) c.args.self.now.tms.items (c.args.tm.0 - 1) c.index_mut-module.result.now c.redeclare.new.self setting log
          (Redeclared era c.args.t.0 ∷ log) c.index_mut-module.ensures.value h.1
          (keeps_both part c.index_mut-module.result.now c.redeclare.new.self setting log (Redeclared era c.args.t.0 ∷ log) c.redeclare.ensures.lives_on
          (λ x. c.redeclare.ensures.law setting log x f.era) (λ x. c.redeclare.ensures.queues setting log x f.era)
          (read_at (LivesT part) c.args.self.now.tms.items (c.args.tm.0 - 1) c.index_mut-module.result.now setting log c.index_mut-module.ensures.value h.1)),
    )

pub returns-clause-others : goal.returns-clause-others
returns-clause-others c =
    t_stays c.args.self.now.u c.args.self.now.tms.items (slice_set c.args.self.now.tms.items (c.args.tm.0 - 1) c.redeclare.new.self) c.args.self.now.dms.items
    c.args.tm c.requires.3.0 (λ k ne. get-set_other c.args.self.now.tms.items (c.args.tm.0 - 1) k c.redeclare.new.self ne)
