use Rattle.sdd_watch.proofs.All.{[], beginning, ◌∙◌}
use Rattle.sdd_watch.proofs.BeginsReport.{begins_report}
use Rattle.sdd_watch.proofs.whole_text.begin.Goals as goal

pub copy_tables-requires : goal.copy_tables-requires
copy_tables-requires c = let r = c.requires in (r.0, [], r.1)

pub new-requires : goal.new-requires
new-requires c = let r = c.requires in (r.0, r.1.calm)

pub returns : goal.returns
returns c = λ g represents is.
    let txns = c.transactions.ensures g [] represents.calm in
    let copies = c.as_slice.ensures.value ∙ c.in_ok-copies.ensures g [] represents in
    begins_report g _ _ _ is c.new-text.ensures.items (λ i. beginning (is i) (txns i) (copies i)) c.in_ok-put_beginning.ensures
    (c.in_ok-watch.ensures g represents.calm is)
