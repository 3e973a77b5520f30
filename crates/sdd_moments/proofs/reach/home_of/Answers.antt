use Rattle.sdd_moments.proofs.All.{Catalogue, FitsTxn, ap, fits_in_era, no_txn, nth_era, redeclares, refl, site_of, subst, sym, txn_read, ◌∙◌}
use Rattle.sdd_moments.proofs.reach.home_of.Goals as goal

pub home-requires : goal.home-requires
home-requires c =
    let r = c.requires in
    let is = txn_read r.0 c.args.number.0 c.saturating_sub-place.result r.0.txns
    c.transactions.result.now c.in-Some.txn.now refl (c.transactions.ensures r.0 r.1 r.2) c.saturating_sub-place.ensures
    c.in-Some.ensures.lookup.3.0 c.in-Some.ensures.lookup.1 in
    let last = (nth_era r.0 (redeclares r.1)).catalogue in
    subst (λ (k : Catalogue). FitsTxn k c.in-Some.txn.now) (sym (c.catalogue.ensures r.0 r.1 r.2))
    (fits_in_era r.0.catalogue last (r.2.parts.good.eras (redeclares r.1)) c.in-Some.txn.now
    (r.2.parts.sound.txns_fit c.args.number.0 c.in-Some.txn.now is))

pub returns-in-Some : goal.returns-in-Some
returns-in-Some c = λ g log calm.
    let is = txn_read g c.args.number.0 c.saturating_sub-place.result g.txns
    c.transactions.result.now c.in-Some.txn.now refl (c.transactions.ensures g log calm) c.saturating_sub-place.ensures
    c.in-Some.ensures.lookup.3.0 c.in-Some.ensures.lookup.1 in
    c.home.ensures ∙ (λ i. site_of (c.catalogue.ensures g log calm i) (sym is i))

pub returns-in-None : goal.returns-in-None
returns-in-None c = λ g log calm.
    sym (ap (site_of (nth_era g (redeclares log)).catalogue) (no_txn g c.args.number.0 c.saturating_sub-place.result
    g.txns c.transactions.result.now refl (c.transactions.ensures g log calm)
    c.saturating_sub-place.ensures c.in-None.ensures.lookup.3))
