use Rattle.std.proofs.lemmas.Grind.{common_steps}
use Rattle.sdd_links.proofs.All.{All, All-get_or, All-head, All-tail, Front, [], ap, arith, fold, get_or as slice_index_or, length, released, subst, suc, sym, taking, ℕ, ◌+◌, ◌-◌, ◌<◌, ◌∙◌, ◌∷◌, ◌≡◌}
use Rattle.sdd_links.proofs.Steps.{taking_more, taken_more, taken_all, released_below, nothing_in}
use Rattle.sdd_links.proofs.taking.take_nodes.Goals as goal

pub returns-in-None : goal.returns-in-None
returns-in-None c =
    let after = c.args.after.now in
    taken_all after (length after - c.loop.counter) c.loop.counts.items c.loop.ready.keys c.loop.order.items
    (taking after (length after) c.args.counts.items c.args.ready.keys)
    (nothing_in c.loop.ready.keys c.in-None.ensures.variant.1) c.loop.invariant.taken

pub loop-preserved : goal.loop-preserved
loop-preserved c =
    let after = c.args.after.now in
    let bound = length after in
    let node = c.in-Some.node in
    let rest = c.pop_first.new.self.keys in
    let before : Front = (c.loop.counts.items, rest) in
    let front : Front = (c.release.new.counts.items, c.release.new.ready.keys) in
    let targets = slice_index_or after node [] in
    let m = bound - (c.loop.counter + 1) in
    let test = c.loop-test.true in
    let many : bound - c.loop.counter ≡ suc m = omega arith in
    let all = taking after bound c.args.counts.items c.args.ready.keys in
    let is : front ≡ fold released before targets =
    c.in_ok-release-in-Some.ensures.front ∙ ap (λ ts. fold released before ts) c.get.ensures in
    let ready : All (λ (i : ℕ). i < bound) (node ∷ rest) =
    subst (All (λ (i : ℕ). i < bound)) (c.in-Some.ensures.removal) c.loop.invariant.nodes in
    let node_in : node < bound = All-head (λ i. i < bound) node rest ready in
    let into : All (λ (i : ℕ). i < bound) targets = All-get_or (All (λ i. i < bound)) after node [] node_in c.requires.targets in
    let below = released_below bound targets before (All-tail (λ i. i < bound) node rest ready) into in
    let one = taking_more after (bound - c.loop.counter) m c.loop.counts.items c.loop.ready.keys rest node front many (c.in-Some.ensures.removal) is in
    record {
      taken = taken_more c.loop.order.items (taking after m c.release.new.counts.items c.release.new.ready.keys) c.push.new.self.items all node
          (taking after (bound - c.loop.counter) c.loop.counts.items c.loop.ready.keys) c.loop.invariant.taken one (c.in_ok-push-in-Some.ensures.items);
      nodes = subst (λ (f : Front). All (λ i. i < bound) f.1) (sym is) below;
      same = c.in_ok-release-in-Some.ensures.same ∙ c.loop.invariant.same;
    }

pub release-requires : goal.release-requires
release-requires c = grind (arith, common_steps)
