use Rattle.sdd_script.proofs.All.{classes_in, open_list, ◌≡◌}
use Rattle.sdd_script.proofs.ClassNames.{in_lists, declared_in_lists, declared_in_open_list}
use Rattle.sdd_script.proofs.class_lists.is_declared.Goals as goal

pub returns-then-is_among_lists : goal.returns-then-is_among_lists
returns-then-is_among_lists c =
    let e : c.is_among_lists.result ≡ in_lists c.args.name.now c.args.state.now.lists = rw c.as_slice.ensures at c.is_among_lists.ensures in
    declared_in_lists c.args.name.now c.args.state.now.lists (classes_in (open_list c.args.state.now.place)) c.is_among_lists.result e c.if-is_among_lists.true

pub returns-else-is_among_lists : goal.returns-else-is_among_lists
returns-else-is_among_lists c =
    let e : c.is_among_lists.result ≡ in_lists c.args.name.now c.args.state.now.lists = rw c.as_slice.ensures at c.is_among_lists.ensures in
    declared_in_open_list c.args.name.now c.args.state.now.lists
    (classes_in (open_list c.args.state.now.place)) c.is_among_lists.result c.is_in_open_list.result e
    c.if-is_among_lists.false c.is_in_open_list.ensures
