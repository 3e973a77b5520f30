use Rattle.sdd_dm.proofs.All.{any_class, arith, holds_in, length, sym, ◌<◌, ◌∙◌}
use Rattle.sdd_dm.proofs.holding.holds_still.Goals as goal

pub returns : goal.returns
returns c = λ holds.
    let pipes = c.args.pipes.now.value in
    let few : c.args.reader.0 < length pipes = omega (arith, c.count.ensures, c.if-reader-count.false) in
    any_class (holds_in pipes c.args.waits.now c.args.class.0 c.args.write.0 c.args.changes.now) (length pipes) c.args.reader.0 few
    (sym c.reader_holds.ensures ∙ holds)
