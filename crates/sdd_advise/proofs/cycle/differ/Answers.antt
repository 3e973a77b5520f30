use Rattle.std.proofs.lemmas.Grind.{common_steps}
use Rattle.sdd_advise.proofs.All.{arith, false, false≢true, get_or, get_or_read, length, refl, sym, ◌<◌, ◌∙◌}
use Rattle.sdd_advise.proofs.Distinctness.{one_marked, met_again}
use Rattle.sdd_advise.proofs.cycle.differ.Goals as goal

pub returns-then-index : goal.returns-then-index
returns-then-index c =
    let nodes = c.args.nodes.now in
    let count = c.nodes.node-index in
    let v = get_or nodes count 0 in
    let within : v < c.args.limit = c.requires count 0 c.nodes-test.true in
    let room : v < length c.nodes.met.items = omega (arith, c.nodes.invariant.one_each) in
    let marked = sym (get_or_read c.nodes.met.items v c.index.result.now room c.index.ensures false) ∙ c.if-index.true in
    ((λ t. absurd (false≢true t)), λ d. absurd (met_again nodes count c.nodes-test.true (c.nodes.invariant.marked v within marked) d))

pub nodes-preserved : goal.nodes-preserved
nodes-preserved c =
    let nodes = c.args.nodes.now in
    let count = c.nodes.node-index in
    let v = get_or nodes count 0 in
    let within : v < c.args.limit = c.requires count 0 c.nodes-test.true in
    let room : v < length c.nodes.met.items = omega (arith, c.nodes.invariant.one_each) in
    one_marked nodes count c.args.limit c.nodes.met.items _ c.nodes.invariant c.nodes-test.true within
    (sym (get_or_read c.nodes.met.items v c.index.result.now room c.index.ensures false) ∙ c.if-index.false) refl

pub nodes-init : goal.nodes-init
nodes-init c = grind (arith, common_steps)

pub returns : goal.returns
returns c = grind (arith, common_steps)
