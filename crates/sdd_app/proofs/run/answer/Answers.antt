use Rattle.sdd_app.proofs.All.{form_answers, form_of, found_form, map, no_form, no_form_answers, sdd1_call, string_bytes}
use Rattle.sdd_app.proofs.run.answer.Goals as goal

pub returns-in-None-clause-answers : goal.returns-in-None-clause-answers
returns-in-None-clause-answers g c =
    let words = map string_bytes c.args.words.now in
    no_form_answers sdd1_call words _ (no_form words c.in-None.ensures.none) c.in-None.ensures.none

pub returns-in-Some-clause-answers : goal.returns-in-Some-clause-answers
returns-in-Some-clause-answers g c =
    let words = map string_bytes c.args.words.now in
    let form = form_of c.in-Some.command in
    let found = c.in-Some.ensures.found in
    form_answers sdd1_call words form _ _ c.carry_out_command.result (found_form words form found.0 found.1) (λ none. none form found.0 found.1)
    c.carry_out_command.ensures.answers

pub returns-in-Some-clause-untouched : goal.returns-in-Some-clause-untouched
returns-in-Some-clause-untouched g c = λ none.
    let found = c.in-Some.ensures.found in
    c.carry_out_command.ensures.untouched (rw (found_form (map string_bytes c.args.words.now) (form_of c.in-Some.command) found.0 found.1) at none)
