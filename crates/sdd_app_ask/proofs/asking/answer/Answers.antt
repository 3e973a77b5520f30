use Rattle.std.proofs.Common.{Some, ap, map, string_bytes, ◌∙◌}
use Rattle.sdd_shell.proofs.Calls.{form_answers, no_form_answers}
use Rattle.sdd_app_ask.specs.Calls.{ask_call}
use Rattle.sdd_app_ask.specs.Forms.{Certify, OfCatalogue, RobustWorkload, form_of}
use Rattle.sdd_app_ask.proofs.Forms.{found_form, no_form}
use Rattle.sdd_app_ask.proofs.asking.answer.Goals as goal

pub returns-in-None-clause-answers : goal.returns-in-None-clause-answers
returns-in-None-clause-answers g c =
    let words = map string_bytes c.args.words.now in
    no_form_answers ask_call words _ (no_form words c.in-None.ensures.none) c.in-None.ensures.none

pub returns-in-OfCatalogue-clause-answers : goal.returns-in-OfCatalogue-clause-answers
returns-in-OfCatalogue-clause-answers g c =
    let words = map string_bytes c.args.words.now in
    let form = form_of c.in-Some.asked in
    let found = c.in-Some.ensures.found in
    form_answers ask_call words (OfCatalogue c.in-OfCatalogue.question c.in-OfCatalogue.catalogue.now) _ _ c.question_answer.result
    (found_form words form found ∙ ap (λ asked. Some (form_of asked)) c.in-OfCatalogue.is) (λ none. none form found)
    c.question_answer.ensures

pub returns-in-RobustWorkload-clause-answers : goal.returns-in-RobustWorkload-clause-answers
returns-in-RobustWorkload-clause-answers g c =
    let words = map string_bytes c.args.words.now in
    let form = form_of c.in-Some.asked in
    let found = c.in-Some.ensures.found in
    form_answers ask_call words (RobustWorkload c.in-RobustWorkload.catalogue.now c.in-RobustWorkload.workload.now) _ _ c.robust_answer.result
    (found_form words form found ∙ ap (λ asked. Some (form_of asked)) c.in-RobustWorkload.is) (λ none. none form found)
    c.robust_answer.ensures

pub returns-in-Certify-clause-answers : goal.returns-in-Certify-clause-answers
returns-in-Certify-clause-answers g c =
    let words = map string_bytes c.args.words.now in
    let form = form_of c.in-Some.asked in
    let found = c.in-Some.ensures.found in
    form_answers ask_call words (Certify c.in-Certify.catalogue.now c.in-Certify.workload.now c.in-Certify.report.now) _ _ c.certify_answer.result
    (found_form words form found ∙ ap (λ asked. Some (form_of asked)) c.in-Certify.is) (λ none. none form found)
    c.certify_answer.ensures

pub returns-in-OfCatalogue-clause-untouched : goal.returns-in-OfCatalogue-clause-untouched
returns-in-OfCatalogue-clause-untouched g c = λ none. absurd (none (form_of c.in-Some.asked) c.in-Some.ensures.found)

pub returns-in-RobustWorkload-clause-untouched : goal.returns-in-RobustWorkload-clause-untouched
returns-in-RobustWorkload-clause-untouched g c = λ none. absurd (none (form_of c.in-Some.asked) c.in-Some.ensures.found)

pub returns-in-Certify-clause-untouched : goal.returns-in-Certify-clause-untouched
returns-in-Certify-clause-untouched g c = λ none. absurd (none (form_of c.in-Some.asked) c.in-Some.ensures.found)
