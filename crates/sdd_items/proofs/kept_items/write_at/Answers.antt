use Rattle.sdd_items.proofs.All.{Some, int_cmp, is_at, lookup, sym, ◌≡◌}
use Rattle.sdd_items.proofs.Writing.{written_newer, written_older}
use Rattle.sdd_items.proofs.kept_items.write_at.Goals as goal

pub returns-then-kept-item-clause-ok : goal.returns-then-kept-item-clause-ok
returns-then-kept-item-clause-ok c =
    let there : lookup (is_at (int_cmp c.args.item.0)) c.args.items.now.entries ≡ Some c.in-Some.kept.now = sym (rw c.in-Some.is at c.get_mut.ensures.value) in
    written_newer c.args.items.now.entries (c.get_mut.follows.lender c.args.item.1).entries c.args.item.0 c.args.item.1 c.in-Some.kept.now
    c.get_mut.ensures.ordered there c.if-kept-item.true (c.get_mut.follows.holds c.args.item.1).0

pub returns-else-kept-item-clause-ok : goal.returns-else-kept-item-clause-ok
returns-else-kept-item-clause-ok c =
    let there : lookup (is_at (int_cmp c.args.item.0)) c.args.items.now.entries ≡ Some c.in-Some.kept.now = sym (rw c.in-Some.is at c.get_mut.ensures.value) in
    written_older c.args.items.now.entries (c.get_mut.follows.lender c.in-Some.kept.now).entries c.args.item.0 c.args.item.1 c.in-Some.kept.now
    there c.if-kept-item.false (c.get_mut.follows.holds c.in-Some.kept.now).0
