use Rattle.sdd_watch.proofs.All.{ap, is_of_item, list_any, ◌∙◌}
use Rattle.sdd_watch.proofs.RowsAreReported.{row_added, row_stays}
use Rattle.sdd_watch.proofs.rows.add_row.Goals as goal

pub returns-then-has_item : goal.returns-then-has_item
returns-then-has_item c = λ g log calm here.
    row_stays g log c.args.rows.now.items (c.args.dm, c.args.change.now) c.has_item.result
    (c.has_item.ensures ∙ ap (list_any (is_of_item (c.args.dm, c.args.change.now))) c.as_slice.ensures.value) c.if-has_item.true

pub returns : goal.returns
returns c = λ g log calm here.
    row_added g log c.args.rows.now.items c.push.new.self.items (c.args.dm, c.args.change.now) c.has_item.result c.in_ok-report_row.field-0
    (c.has_item.ensures ∙ ap (list_any (is_of_item (c.args.dm, c.args.change.now))) c.as_slice.ensures.value) c.if-has_item.false
    (c.in_ok-report_row.ensures g log calm here) c.in_ok-push.ensures.items
