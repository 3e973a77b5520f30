use Rattle.sdd_world.proofs.All.{Carries, Catalogue, Era, [], ap, refl, subst, sym, ◌∙◌}
use Rattle.sdd_world.proofs.Beginning.{begins}
use Rattle.sdd_world.proofs.world.World.new.Goals as goal

pub returns : goal.returns
returns c = λ g good sound begun.
    let tms_are = ap (λ (k : Catalogue). k.tms) begun.catalogue_is in
    let dms_are = ap (λ (k : Catalogue). k.dms) begun.catalogue_is in
    begins
    (record {
      whole = c.args.whole;
      catalogue = c.args.catalogue;
      txns = c.args.txns;
      given = c.new-4.result;
      history = c.new-5.result;
      marks = 0;
      sites = c.in_ok-sites.sites;
      net = c.in_ok-net.net;
      spool = c.in_ok-spool.spool;
    })
    c.tms-2.result c.dms-2.result c.new-5.ensures refl c.new-4.ensures.items c.in_ok-spool.ensures g good sound (sym begun.catalogue_is)
    (ap (λ (f : Era). f.catalogue) (sym begun.era_is)) (tms_are ∙ sym c.tms-2.ensures) (dms_are ∙ sym c.dms-2.ensures) begun.txns_are begun.no_events
    (c.in_ok-sites.ensures g c.args.txns begun)
    (subst (λ n. Carries c.in_ok-net.net n g.catalogue.dms []) (c.tms.ensures ∙ sym tms_are)
    (subst (λ n. Carries c.in_ok-net.net c.tms.result n []) (c.dms.ensures ∙ sym dms_are) c.in_ok-net.ensures))
