use Rattle.sdd_links.proofs.All.{List, Use, ap, append-nil, drop_all, flat_map, fragment_links, sym, ℕ, ◌++◌, ◌∙◌}
use Rattle.sdd_links.proofs.Numbered.{item_more}
use Rattle.sdd_links.proofs.Linking.{over_uses}
use Rattle.sdd_links.proofs.reads.link_uses.Goals as goal

pub loop-used-preserved : goal.loop-used-preserved
loop-used-preserved c =
    let links : ℕ → List (ℕ × ℕ) = fragment_links c.args.catalogue.now c.args.marks.now c.args.txns.now c.args.writers.now (c.args.reader, c.args.txn.now) in
    let items = c.uses-used-items.result.now in
    item_more (λ (u : Use). flat_map (λ f. links f.0) u.frags) items c.loop-used.used-index c.used-item.result c.loop-used.links.items
    c.link_use.new.links.items _ c.loop-used-test.true c.used-item.is c.loop-used.invariant (c.in_ok-link_use.ensures)

pub returns : goal.returns
returns c =
    let links : ℕ → List (ℕ × ℕ) = fragment_links c.args.catalogue.now c.args.marks.now c.args.txns.now c.args.writers.now (c.args.reader, c.args.txn.now) in
    let items = c.uses-used-items.result.now in
    let some : List Use → List (ℕ × ℕ) = flat_map (λ u. flat_map (λ f. links f.0) u.frags) in
    sym (append-nil c.loop-used.links.items) ∙ ap (λ l. c.loop-used.links.items ++ some l)
    (sym (drop_all c.loop-used.used-index items c.loop-used-test.false))
    ∙ c.loop-used.invariant
    ∙ ap (λ l. c.args.links.now.items ++ l) (ap some (c.uses-used-items.ensures) ∙ over_uses links c.args.txn.now.start.uses)
