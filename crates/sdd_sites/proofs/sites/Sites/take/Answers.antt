use Rattle.sdd_sites.proofs.All.{Lives, refl}
use Rattle.sdd_sites.proofs.ByTable.{lives_take, take_u, take_t, take_d}
use Rattle.sdd_needs.specs.dm.Due as dm
use Rattle.sdd_needs.specs.dm.Fits as dm_fits
use Rattle.sdd_dm.specs.Represents as dm_represents
use Rattle.sdd_needs.specs.tm.Due as tm
use Rattle.sdd_needs.specs.tm.Fits as tm_fits
use Rattle.sdd_tm.specs.Represents as tm_represents
use Rattle.sdd_needs.specs.umod.Due as um
use Rattle.sdd_needs.specs.umod.Fits as um_fits
use Rattle.sdd_umod.specs.Represents as um_represents
use Rattle.sdd_sites.proofs.sites.Sites.take.Goals as goal

pub returns-in-U-clause-law : goal.returns-in-U-clause-law
returns-in-U-clause-law c =
    take_u (Lives (λ k. k.live) um_represents.Represents) (Lives (λ k. k.live) tm_represents.Represents)
    (Lives (λ k. k.live) dm_represents.Represents) um_fits.fits tm_fits.fits dm_fits.fits c.args.from c.args.msg c.take.result
    um.next c.args.self.now.u c.take.new.self c.args.self.now.tms.items c.args.self.now.dms.items c.args.at c.in-U.is (λ s b l. refl)
    (lives_take (λ k. k.live) um_represents.Represents um.next c.args.self.now.u c.take.new.self um_fits.fits c.args.from c.args.msg
    c.take.result c.take.ensures.law c.take.ensures.lives_on)

pub returns-in-T-clause-law : goal.returns-in-T-clause-law
returns-in-T-clause-law c =
    take_t (Lives (λ k. k.live) um_represents.Represents) (Lives (λ k. k.live) tm_represents.Represents)
    (Lives (λ k. k.live) dm_represents.Represents) um_fits.fits tm_fits.fits dm_fits.fits c.args.from c.args.msg c.take_in.result
    tm.next c.args.self.now.u c.args.self.now.tms.items c.take_in.new.modules.items c.args.self.now.dms.items c.args.at c.in-T.n c.in-T.is
    (λ s b l. refl) c.take_in.ensures.law

pub returns-in-D-clause-law : goal.returns-in-D-clause-law
returns-in-D-clause-law c =
    take_d (Lives (λ k. k.live) um_represents.Represents) (Lives (λ k. k.live) tm_represents.Represents)
    (Lives (λ k. k.live) dm_represents.Represents) um_fits.fits tm_fits.fits dm_fits.fits c.args.from c.args.msg c.take_in-in-D.result
    dm.next c.args.self.now.u c.args.self.now.tms.items c.args.self.now.dms.items c.take_in-in-D.new.modules.items c.args.at c.in-D.n c.in-D.is
    (λ s b l. refl) c.take_in-in-D.ensures.law
