use Rattle.std.proofs.Common.{map, string_bytes}
use Rattle.sdd_shell.proofs.Calls.{form_answers, no_form_answers}
use Rattle.sdd_app_inside.specs.Inside.{inside_call}
use Rattle.sdd_app_inside.proofs.Shown.{found_names, names_of, no_names}
use Rattle.sdd_app_inside.proofs.inside.answer.Goals as goal

pub returns-in-None-clause-answers : goal.returns-in-None-clause-answers
returns-in-None-clause-answers g c =
    let words = map string_bytes c.args.words.now in
    no_form_answers inside_call words _ (no_names words c.in-None.ensures.none) c.in-None.ensures.none

pub returns-in-Some-clause-answers : goal.returns-in-Some-clause-answers
returns-in-Some-clause-answers g c =
    let words = map string_bytes c.args.words.now in
    let cat = c.in-Some.pair.catalogue.now in
    let work = c.in-Some.pair.workload.now in
    let found = c.in-Some.ensures.found in
    form_answers inside_call words (names_of cat work) _ _ c.inside_answer.result (found_names words cat work found) (λ none. none cat work found)
    c.inside_answer.ensures

pub returns-in-Some-clause-untouched : goal.returns-in-Some-clause-untouched
returns-in-Some-clause-untouched g c = λ none. absurd (none _ _ c.in-Some.ensures.found)
