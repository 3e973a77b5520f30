use Rattle.sdd_verify.proofs.All.{Database, Kept, ap, err_from_is_err_and, lines_of, numbered, refl, ◌∙◌}
use Rattle.sdd_verify.proofs.RepliesPassed.{fails, goes_on, none_left}
use Rattle.sdd_verify.proofs.replies.pass_replies.Goals as goal

pub returns-in_err-lines : goal.returns-in_err-lines
returns-in_err-lines c =
    let p = err_from_is_err_and c.from_residual-in_err-lines.result c.from_residual-in_err-lines.ensures.1 in
    let same = c.as_bytes.ensures.value ∙ c.as_str.ensures.value in
    rw (p.1, p.2) (fails c.args.catalogue.now c.txns.plain.value c.args.txns.now c.txns.txn-index
    c.txn-item.result c.in_ok-reply.reply c.txns.lines.number (lines_of c.txns.lines.bytes.now)
    c.txns-test.true c.txn-item.is c.in_ok-reply.ensures.reply c.in_err-lines.field-0.0
    c.as_bytes.result.now _ same c.in_err-lines.ensures c.txns.invariant.left)

pub txns-preserved : goal.txns-preserved
txns-preserved c =
    let same = c.as_bytes.ensures.value ∙ c.as_str.ensures.value in
    let after = c.in_ok-reply.ensures.after in
    record {
      live = rw after refl;
      left = goes_on c.args.catalogue.now c.txns.plain.value c.args.txns.now c.txns.txn-index
          c.txn-item.result c.in_ok-reply.reply c.txns.lines.number (lines_of c.txns.lines.bytes.now)
          c.txns-test.true c.txn-item.is c.in_ok-reply.ensures.reply c.as_bytes.result.now c.run.new.self.value (numbered c.in_ok-lines.lines) _ same
          (ap (λ (k : Kept Database). k.value) after) c.in_ok-lines.ensures c.txns.invariant.left;
    }

pub returns : goal.returns
returns c = none_left c.args.catalogue.now c.txns.plain.value c.args.txns.now c.txns.txn-index
    c.txns.lines.number (lines_of c.txns.lines.bytes.now) _ c.txns-test.false c.txns.invariant.left
