use Rattle.sdd_watch.proofs.All.{AreCommits, History, [], ap, append-nil, applied_by, drop, flat_map, fold, history, subst, sym, with_row, ◌∙◌}
use Rattle.sdd_watch.proofs.Folding.{folded_end, folded_more}
use Rattle.sdd_watch.proofs.RowsAreReported.{records_join}
use Rattle.sdd_watch.proofs.rows.rows_from.Goals as goal

pub loop-place-init : goal.loop-place-init
loop-place-init c = λ g log calm.
    ap (λ rows. fold (with_row g log) rows (flat_map (applied_by g (history log)) (drop c.args.from c.as_slice-records.result.now)))
    c.new-rows.ensures.items

pub add_applied-requires : goal.add_applied-requires
add_applied-requires c =
    let r = c.requires in
    record {
      calm = (r.0, r.1, r.2);
      commits = subst (λ (h : History). AreCommits h c.args.commits.now) (sym (c.as_slice-records.ensures ∙ c.history.ensures r.0 r.1 r.2)) r.3;
    }

pub loop-place-preserved : goal.loop-place-preserved
loop-place-preserved c = λ g log calm.
    let records = c.as_slice-records.result.now in
    folded_more (with_row g log) (flat_map (applied_by g (history log))) records c.index-records-place.result c.loop-place.rows.items
    c.add_applied.new.rows.items (fold (with_row g log) [] (flat_map (applied_by g (history log)) (drop c.args.from records)))
    c.loop-place.place (records_join g (history log)) c.loop-place-test.true c.index-records-place.is
    (c.in_ok-add_applied.ensures g log calm (c.as_slice-records.ensures ∙ c.history.ensures g log calm)
    ∙ ap (fold (with_row g log) c.loop-place.rows.items) (sym (append-nil (applied_by g (history log) c.index-records-place.result))))
    (c.loop-place.invariant g log calm)

pub returns : goal.returns
returns c = λ g old new calm between at.
    let records = c.as_slice-records.result.now in
    let give = flat_map (applied_by g (history new)) in
    folded_end (with_row g new) give records c.loop-place.rows.items (fold (with_row g new) [] (give (drop c.args.from records))) c.loop-place.place
    (records_join g (history new)) c.loop-place-test.false (c.loop-place.invariant g new calm)
    ∙ (λ i. fold (with_row g new) [] (give (drop (at i) ((c.as_slice-records.ensures ∙ c.history.ensures g new calm) i))))
