use Rattle.sdd_script.proofs.All.{Stmt, done_words, ended, flat_map, header_words, statement_words, ◌++◌, ◌∙◌, ◌≡◌}
use Rattle.sdd_script.proofs.Pieces.{after, txn_pieces}
use Rattle.sdd_script.proofs.write_lines.put_txn.Goals as goal

pub returns : goal.returns
returns c =
    let a : c.put_header.new.out.items ≡ c.args.out.now.items ++ ended
    (header_words c.args.txn.now.name c.args.txn.now.tm) =
    rw (c.as_bytes.ensures.value, c.as_str.ensures.value) at c.in_ok-put_header.ensures in
    let b : c.put_statements.new.out.items ≡ c.put_header.new.out.items ++ flat_map
    (λ (s : Stmt). ended (statement_words c.args.catalogue.now s)) c.args.txn.now.statements =
    rw c.as_slice.ensures at c.in_ok-put_statements.ensures in
    after _ _ c.in_ok-put.ensures (after _ _ b a)
    ∙ txn_pieces c.args.out.now.items (header_words c.args.txn.now.name c.args.txn.now.tm)
    (statement_words c.args.catalogue.now) c.args.txn.now.statements done_words
