use Rattle.sdd_moments.proofs.All.{U}
use Rattle.sdd_moments.proofs.FirstLinks.{all_links_begun, link_begun}
use Rattle.sdd_moments.proofs.on_links.first_links_from.Goals as goal

pub loop-to-preserved : goal.loop-to-preserved
loop-to-preserved c =
    link_begun c.args.from c.args.sites.now c.loop-to.to-index U c.loop-to.links.items c.add_link.new.links.items c.loop-to-test.true
    c.in_ok-add_link.ensures c.loop-to.invariant

pub returns : goal.returns
returns c = λ g all.
    all_links_begun g c.args.from c.args.sites.now c.loop-to.to-index c.loop-to.links.items c.loop-to-test.false all c.loop-to.invariant
