use Rattle.sdd_advise.proofs.All.{IsAway, OneNode, reached_at, refl, sym, ◌∙◌}
use Rattle.sdd_advise.proofs.Advised.{way_moved}
use Rattle.sdd_advise.proofs.Linking.{they_lie_apart, it_is_closed}
use Rattle.sdd_advise.proofs.pair.link_of.Goals as goal

pub returns-in-None : goal.returns-in-None
returns-in-None c =
    let left = c.in_ok-beside.ensures in
    let none = sym c.place.ensures ∙ c.in-None.is in
    they_lie_apart c.args.graph.now.edges c.args.reader c.args.write c.ends-read.result c.ends-read.ensures
    c.in_ok-beside.beside.places.items c.in_ok-apart-in-None.apart.items (left.whole none) none c.in_ok-apart-in-None.ensures

pub way_to-requires-clause-within : goal.way_to-requires-clause-within
way_to-requires-clause-within c =
    (c.in_ok-beside.ensures.searching.traced.placed c.ends-read.result.1 c.in-Some.place (sym c.place.ensures ∙ c.in-Some.is)).0

pub returns : goal.returns
returns c =
    let edges = c.args.graph.now.edges in
    let left = c.in_ok-beside.ensures in
    let read = c.ends-read.result.0 in
    let own = c.ends-read.result.1 in
    let reached = c.in_ok-beside.beside.reached.items in
    let found = c.in_ok-way-in-Some.way.items in
    let placed = left.searching.traced.placed own c.in-Some.place (sym c.place.ensures ∙ c.in-Some.is) in
    let way =
    way_moved edges (IsAway read) (reached_at reached 0).node (reached_at reached c.in-Some.place).node c.args.write own found found
    (c.in_ok-way-in-Some.ensures c.args.graph.now (OneNode read) left.place left.searching) left.first placed.1 refl in
    it_is_closed edges c.args.reader c.args.write c.ends-read.result c.ends-read.ensures found c.push.new.self.items way c.in_ok-push-in-Some.ensures.items
