use Rattle.sdd_words.proofs.All.{arith}
use Rattle.sdd_words.proofs.CutLaws.{cuts_at, no_line}
use Rattle.sdd_words.proofs.line.next_line.Goals as goal

pub returns-then-byte-eq10 : goal.returns-then-byte-eq10
returns-then-byte-eq10 c =
    rw (c.split_at.ensures.front, c.split_at-then-byte-eq10.ensures.back) (cuts_at c.args.bytes.now c.bytes.i c.bytes-test.true c.if-byte-eq10.true c.bytes.invariant)

pub returns : goal.returns
returns c = no_line c.args.bytes.now (λ k below. c.bytes.invariant k (omega arith))
