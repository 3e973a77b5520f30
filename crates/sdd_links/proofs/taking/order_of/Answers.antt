use Rattle.sdd_links.proofs.All.{All, IfOk-weaker, ap, first_ready, length, order_of, subst, sym, taking, ◌<◌, ◌∙◌, ◌≡◌}
use Rattle.sdd_links.proofs.Grouped.{groups_long}
use Rattle.sdd_links.proofs.OrderOf.{counts_long, first_within, targets_within, ready_made, order_made}
use Rattle.sdd_links.proofs.taking.order_of.Goals as goal

pub take_nodes-requires-clause-nodes : goal.take_nodes-requires-clause-nodes
take_nodes-requires-clause-nodes c =
    let links = c.args.links.now in
    let count = c.args.count in
    let ready = ready_made links count c.requires.ends c.deref.result.now c.in_ok-ready.ready.keys
    (c.deref.ensures.value ∙ c.in_ok-counts.ensures) (c.in_ok-ready.ensures) in
    let many : length c.in_ok-after.after ≡ count = ap length (c.in_ok-after.ensures) ∙ groups_long links count in
    subst (λ n. All (λ i. i < n) c.in_ok-ready.ready.keys) (sym many)
    (subst (All (λ i. i < count)) (sym ready) (first_within links count c.requires.ends))

pub take_nodes-requires-clause-targets : goal.take_nodes-requires-clause-targets
take_nodes-requires-clause-targets c =
    let links = c.args.links.now in
    let count = c.args.count in
    let many : length c.in_ok-after.after ≡ count = ap length (c.in_ok-after.ensures) ∙ groups_long links count in
    subst (λ n. All (All (λ i. i < n)) c.in_ok-after.after) (sym many)
    (subst (All (All (λ i. i < count))) (sym (c.in_ok-after.ensures)) (targets_within links count c.requires.ends))

pub take_nodes-requires-clause-same : goal.take_nodes-requires-clause-same
take_nodes-requires-clause-same c =
    let links = c.args.links.now in
    let count = c.args.count in
    ap length (c.in_ok-counts.ensures) ∙ counts_long links count c.requires.ends
    ∙ sym (ap length (c.in_ok-after.ensures) ∙ groups_long links count)

pub returns : goal.returns
returns c =
    let links = c.args.links.now in
    let count = c.args.count in
    let after = c.in_ok-after.after in
    let counts = c.in_ok-counts.counts.items in
    let ready = c.in_ok-ready.ready.keys in
    let is_ready = c.in_ok-ready.ensures ∙ ap (λ l. first_ready l (length l)) (c.deref.ensures.value) in
    IfOk-weaker c.take_nodes.result (λ order. order.items ≡ taking after (length after) counts ready) (λ order. order.items ≡ order_of links count)
    (λ order e. order_made links count c.requires.ends after counts ready order.items (c.in_ok-after.ensures) (c.in_ok-counts.ensures) is_ready e)
    (c.take_nodes.ensures)
