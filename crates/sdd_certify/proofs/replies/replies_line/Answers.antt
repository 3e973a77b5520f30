use Rattle.sdd_certify.proofs.All.{Database, IsSkipped, Kept, ap, lines_of, refl, reply_lines, subst, ◌∙◌}
use Rattle.sdd_certify.proofs.ReplyLines.{is_behind, is_here, none_left}
use Rattle.sdd_certify.proofs.replies.replies_line.Goals as goal

pub txns-preserved : goal.txns-preserved
txns-preserved c =
    let same = c.as_bytes.ensures.value ∙ c.as_str.ensures.value in
    let after = c.in_ok-reply.ensures.after in
    let skipped = subst (IsSkipped (lines_of (reply_lines c.as_bytes.result.now c.in_ok-reply.reply)) c.txns.left) c.in-Left.is c.in_ok-next.ensures in
    record {
      live = rw after refl;
      left = is_behind c.args.catalogue.now c.txns.plain.value c.args.txns.now c.txns.txn-index
          c.txn-item.result c.in_ok-reply.reply c.txns-test.true c.txn-item.is c.in_ok-reply.ensures.reply
          c.as_bytes.result.now c.run.new.self.value c.txns.left c.in-Left.more _ same
          (ap (λ (k : Kept Database). k.value) after) skipped c.txns.invariant.left;
    }

pub returns-in-Line : goal.returns-in-Line
returns-in-Line c =
    let same = c.as_bytes.ensures.value ∙ c.as_str.ensures.value in
    let after = c.in_ok-reply.ensures.after in
    let skipped = subst (IsSkipped (lines_of (reply_lines c.as_bytes.result.now c.in_ok-reply.reply)) c.txns.left) c.in-Line.is c.in_ok-next.ensures in
    is_here c.args.catalogue.now c.txns.plain.value c.args.txns.now c.txns.txn-index
    c.txn-item.result c.in_ok-reply.reply c.txns-test.true c.txn-item.is c.in_ok-reply.ensures.reply
    c.as_bytes.result.now c.in-Line.line c.run.new.self.value c.txns.left _ same
    (ap (λ (k : Kept Database). k.value) after) skipped c.txns.invariant.left

pub returns : goal.returns
returns c = none_left c.args.catalogue.now c.txns.plain.value c.args.txns.now c.txns.txn-index c.txns.left _ c.txns-test.false c.txns.invariant.left
