use Rattle.sdd_moments.proofs.All.{U, [], ap, map, watched_links, ◌∙◌}
use Rattle.sdd_moments.proofs.SoFar.{mapped_all, mapped_to}
use Rattle.sdd_moments.proofs.on_links.first_links.Goals as goal

pub loop-from-preserved : goal.loop-from-preserved
loop-from-preserved c = λ g all.
    mapped_to (watched_links g []) c.args.sites.now c.loop-from.from-index U c.loop-from.links.items c.push.new.self.items c.in_ok-first_links_from.field-0
    c.loop-from-test.true (c.in_ok-first_links_from.ensures g all) c.in_ok-push.ensures.items (c.loop-from.invariant g all)

pub returns : goal.returns
returns c = λ g all.
    mapped_all (watched_links g []) c.args.sites.now c.loop-from.from-index c.loop-from.links.items c.loop-from-test.false (c.loop-from.invariant g all)
    ∙ ap (map (watched_links g [])) all
