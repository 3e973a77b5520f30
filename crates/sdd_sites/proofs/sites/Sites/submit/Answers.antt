use Rattle.sdd_sites.proofs.All.{Lives, refl}
use Rattle.sdd_sites.proofs.ByTable.{lives_submit, submit_u, submit_t}
use Rattle.sdd_dm.specs.Represents as dm_represents
use Rattle.sdd_needs.specs.tm.Due as tm
use Rattle.sdd_needs.specs.tm.Fits as tm_fits
use Rattle.sdd_tm.specs.Represents as tm_represents
use Rattle.sdd_needs.specs.umod.Due as um
use Rattle.sdd_needs.specs.umod.Fits as um_fits
use Rattle.sdd_umod.specs.Represents as um_represents
use Rattle.sdd_sites.proofs.sites.Sites.submit.Goals as goal

pub returns-in-U-clause-law : goal.returns-in-U-clause-law
returns-in-U-clause-law c =
    submit_u (Lives (λ k. k.live) um_represents.Represents) (Lives (λ k. k.live) tm_represents.Represents) (Lives (λ k. k.live) dm_represents.Represents)
    um_fits.FitsSubmit tm_fits.FitsSubmit c.args.number c.args.txn.now
    c.submit.result um.next c.args.self.now.u c.submit.new.self c.args.self.now.tms.items c.args.self.now.dms.items
    c.args.at c.in-U.is (λ s b l. refl)
    (lives_submit (λ k. k.live) um_represents.Represents um.next c.args.self.now.u c.submit.new.self um_fits.FitsSubmit
    c.args.number c.args.txn.now c.submit.result c.submit.ensures.law c.submit.ensures.lives_on)

pub returns-in-T-clause-law : goal.returns-in-T-clause-law
returns-in-T-clause-law c =
    submit_t (Lives (λ k. k.live) um_represents.Represents) (Lives (λ k. k.live) tm_represents.Represents) (Lives (λ k. k.live) dm_represents.Represents)
    um_fits.FitsSubmit tm_fits.FitsSubmit c.args.number c.args.txn.now
    c.submit_in.result tm.next c.args.self.now.u c.args.self.now.tms.items c.submit_in.new.modules.items c.args.self.now.dms.items c.args.at c.in-T.n
    c.in-T.is (λ s b l. refl) c.submit_in.ensures.law
