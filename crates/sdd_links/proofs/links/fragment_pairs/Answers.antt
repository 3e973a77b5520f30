use Rattle.std.proofs.Common.{arith}
use Rattle.std.proofs.lemmas.Grind.{common_steps}
use Rattle.sdd_links.proofs.All.{Committed, ap, by_fragment, map, ℕ, ◌++◌, ◌∙◌}
use Rattle.sdd_links.proofs.Numbered.{numbered_more}
use Rattle.sdd_links.proofs.links.fragment_pairs.Goals as goal

pub loop-place-preserved : goal.loop-place-preserved
loop-place-preserved c =
    let txns = c.args.txns.now in
    let place = c.loop-place.place in
    let old = c.loop-place.made.items in
    let more = c.in_ok-pair_changes.ensures ∙ ap (λ cs. old ++ map (λ d. (d.frag.0, place)) cs) (c.changes.ensures) in
    numbered_more (λ (p : ℕ × Committed). map (λ d. (d.frag.0, p.0)) p.1.changes) txns place c.index-txns-place.result old
    c.pair_changes.new.made.items (by_fragment txns) c.loop-place-test.true c.index-txns-place.is c.loop-place.invariant more

pub returns : goal.returns
returns c = grind (arith, common_steps)
