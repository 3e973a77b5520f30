use Rattle.sdd_script.proofs.All.{Event, List, RelNo, Value, end_words, ended, event_words, flat_map, list_bytes, list_lines, start_words, txn_bytes, txn_lines, ◌++◌, ◌∙◌, ◌≡◌}
use Rattle.sdd_script.proofs.Pieces.{after, work_pieces}
use Rattle.sdd_script.proofs.write_lines.write_workload.Goals as goal

pub returns : goal.returns
returns c =
    let w = c.args.work.now in
    let a : c.put_starts.new.out.items ≡ c.new-out.result.items ++ flat_map
    (λ (r : RelNo × List Value). ended (start_words c.args.catalogue.now r)) w.rows =
    rw c.as_slice.ensures at c.in_ok-put_starts.ensures in
    let b : c.put_txns.new.out.items ≡ c.put_starts.new.out.items ++ flat_map (txn_bytes c.args.catalogue.now)
    w.txns = rw c.as_slice-2.ensures at c.in_ok-put_txns.ensures in
    let l : c.put_lists.new.out.items ≡ c.put_txns.new.out.items ++ flat_map list_bytes w.lists = rw c.as_slice-3.ensures at c.in_ok-put_lists.ensures in
    let d : c.put_events.new.out.items ≡ c.put_lists.new.out.items ++ flat_map
    (λ (e : Event). ended (event_words w.txns e)) w.events =
    rw (c.as_slice-4.ensures, c.as_slice-5.ensures) at c.in_ok-put_events.ensures in
    after _ _ c.in_ok-put.ensures (after _ _ d (after _ _ l (after _ _ b (after _ _ a c.new-out.ensures.items))))
    ∙ work_pieces (start_words c.args.catalogue.now) w.rows (txn_lines c.args.catalogue.now) w.txns list_lines w.lists (event_words w.txns) w.events end_words
