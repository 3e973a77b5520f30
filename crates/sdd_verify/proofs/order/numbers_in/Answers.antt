use Rattle.sdd_verify.proofs.All.{List, Result, TxnNo, along, arith, err_from_is_err_and, named, require, words_behind, ℕ}
use Rattle.sdd_verify.proofs.WordsCut.{name_fails, name_read}
use Rattle.sdd_verify.proofs.order.numbers_in.Goals as goal

pub names-preserved : goal.names-preserved
names-preserved c =
    let f : ℕ → List ℕ → Result TxnNo ℕ = λ n name. require c.args.line (named c.args.submitted.now name) in
    let read = name_read f c.names.rest.now c.cut_word.result.0.now c.cut_word.result.1.now c.names.order.items c.in_ok-number.number (along f 0
    (words_behind c.args.names.now)) (omega arith) c.cut_word.ensures.cut c.in_ok-number.ensures c.names.invariant in
    rw c.in_ok-push.ensures.items read

pub returns-in_err-number : goal.returns-in_err-number
returns-in_err-number c =
    let f : ℕ → List ℕ → Result TxnNo ℕ = λ n name. require c.args.line (named c.args.submitted.now name) in
    let p = err_from_is_err_and c.from_residual.result c.from_residual.ensures.1 in
    rw (p.1, p.2) (name_fails f c.names.rest.now c.cut_word.result.0.now c.cut_word.result.1.now c.names.order.items c.in_err-number.field-0.0
    (along f 0 (words_behind c.args.names.now)) (omega arith) c.cut_word.ensures.cut c.in_err-number.ensures c.names.invariant)
