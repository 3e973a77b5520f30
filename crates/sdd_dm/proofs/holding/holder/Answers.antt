use Rattle.sdd_dm.proofs.All.{arith, holds_in, length, list_any, range_with_len, sym, ◌<◌, ◌∙◌}
use Rattle.sdd_dm.proofs.Scans.{any_not}
use Rattle.sdd_dm.proofs.holding.holder.Goals as goal

pub loop-reader-preserved : goal.loop-reader-preserved
loop-reader-preserved c =
    let pipes = c.args.pipes.now.value in
    let few : c.loop-reader.reader < length pipes = omega (arith, c.count-reader-end.ensures) in
    let holds = holds_in pipes c.args.waits.now c.args.class.0 c.args.write.0 c.args.changes.now in
    any_not holds c.loop-reader.reader (length pipes) (list_any holds (range_with_len 0 (length pipes))) few
    (sym c.reader_holds.ensures ∙ c.if-reader_holds.false) c.loop-reader.invariant
