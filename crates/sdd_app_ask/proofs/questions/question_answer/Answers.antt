use Rattle.std.proofs.lemmas.Result.{err_from_is_err_and}
use Rattle.sdd_shell.proofs.Requests.{catalogue_refused, catalogue_told, catalogue_untold}
use Rattle.sdd_app_ask.specs.Answer.{AnswersQuestion}
use Rattle.sdd_app_ask.proofs.questions.question_answer.Goals as goal

pub returns-in_err-catalogue : goal.returns-in_err-catalogue
returns-in_err-catalogue g c =
    let p = err_from_is_err_and c.from_residual.result c.from_residual.ensures.1 in
    rw (p.1, p.2) (catalogue_refused c.args.catalogue.now (AnswersQuestion c.args.question) _ _ c.in_err-catalogue.field-0.0 c.in_err-catalogue.ensures)

pub returns-in_err-answer_text : goal.returns-in_err-answer_text
returns-in_err-answer_text g c =
    let p = err_from_is_err_and c.from_residual-in_err-answer_text.result c.from_residual-in_err-answer_text.ensures.1 in
    rw (p.1, p.2) (catalogue_untold c.args.catalogue.now (AnswersQuestion c.args.question) _ _ c.in_ok-catalogue.catalogue c.in_ok-catalogue.ensures)

pub returns : goal.returns
returns g c =
    catalogue_told c.args.catalogue.now (AnswersQuestion c.args.question) _ _ c.in_ok-catalogue.catalogue c.of.result c.in_ok-catalogue.ensures
    (rw c.of.ensures c.in_ok-answer_text.ensures)
