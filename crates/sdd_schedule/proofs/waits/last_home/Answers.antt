use Rattle.sdd_schedule.proofs.All.{Catalogue, ap, fits_in_era, home_of as site_of, nth_era, redeclares, refl, subst, sym, ◌∙◌}
use Rattle.sdd_schedule.proofs.HomesExist.{no_txn, txn_read}
use Rattle.sdd_world.specs.needs.lang.Fits.{FitsTxn}
use Rattle.sdd_schedule.proofs.waits.last_home.Goals as goal

pub home-requires : goal.home-requires
home-requires c =
    let r = c.requires in
    let is = txn_read r.0 c.args.number.0 c.saturating_sub-place.result r.0.txns
    c.transactions.result.now c.in-Some.txn.now refl (c.transactions.ensures r.0 r.1 r.2.calm) c.saturating_sub-place.ensures
    c.in-Some.ensures.lookup.3.0 c.in-Some.ensures.lookup.1 in
    let last = (nth_era r.0 (redeclares r.1)).catalogue in
    subst (λ (k : Catalogue). FitsTxn k c.in-Some.txn.now) (sym (c.catalogue.ensures r.0 r.1 r.2.calm))
    (fits_in_era r.0.catalogue last (r.2.calm.parts.good.eras (redeclares r.1)) c.in-Some.txn.now
    (r.2.calm.parts.sound.txns_fit c.args.number.0 c.in-Some.txn.now is))

pub returns-in-Some : goal.returns-in-Some
returns-in-Some c = λ given log s.
    let is = txn_read given c.args.number.0 c.saturating_sub-place.result given.txns
    c.transactions.result.now c.in-Some.txn.now refl (c.transactions.ensures given log s.calm) c.saturating_sub-place.ensures
    c.in-Some.ensures.lookup.3.0 c.in-Some.ensures.lookup.1 in
    c.home.ensures ∙ (λ i. site_of (c.catalogue.ensures given log s.calm i) (sym is i))

pub returns-in-None : goal.returns-in-None
returns-in-None c = λ given log s.
    sym (ap (site_of (nth_era given (redeclares log)).catalogue) (no_txn given c.args.number.0 c.saturating_sub-place.result
    given.txns c.transactions.result.now refl (c.transactions.ensures given log s.calm)
    c.saturating_sub-place.ensures c.in-None.ensures.lookup.3))
