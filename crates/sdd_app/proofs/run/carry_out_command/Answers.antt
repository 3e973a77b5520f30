use Rattle.sdd_app.proofs.All.{IsForm, form_of, subst}
use Rattle.sdd_app.proofs.Verdicts.{made_answers}
use Rattle.sdd_app.proofs.run.carry_out_command.Goals as goal

pub make_answer-requires : goal.make_answer-requires
make_answer-requires g c = (subst (λ command. IsForm (form_of command)) c.in-Make.is c.requires).1

pub returns-in-Check-clause-answers : goal.returns-in-Check-clause-answers
returns-in-Check-clause-answers g c = rw c.in-Check.is c.listing_answer.ensures

pub returns-in-Graph-clause-answers : goal.returns-in-Graph-clause-answers
returns-in-Graph-clause-answers g c = rw c.in-Graph.is c.listing_answer-in-Graph.ensures

pub returns-in-Table-clause-answers : goal.returns-in-Table-clause-answers
returns-in-Table-clause-answers g c = rw c.in-Table.is c.listing_answer-in-Table.ensures

pub returns-in-Run-clause-answers : goal.returns-in-Run-clause-answers
returns-in-Run-clause-answers g c = rw c.in-Run.is c.run_answer.ensures

pub returns-in-Plain-clause-answers : goal.returns-in-Plain-clause-answers
returns-in-Plain-clause-answers g c = rw c.in-Plain.is c.plain_answer.ensures

pub returns-in-Control-clause-answers : goal.returns-in-Control-clause-answers
returns-in-Control-clause-answers g c = rw c.in-Control.is c.control_answer.ensures

pub returns-in-Verify-clause-answers : goal.returns-in-Verify-clause-answers
returns-in-Verify-clause-answers g c = rw c.in-Verify.is c.verify_answer.ensures

pub returns-in-Advise-clause-answers : goal.returns-in-Advise-clause-answers
returns-in-Advise-clause-answers g c = rw c.in-Advise.is c.listing_answer-in-Advise.ensures

pub returns-in-Make-clause-answers : goal.returns-in-Make-clause-answers
returns-in-Make-clause-answers g c = rw c.in-Make.is (made_answers c.in-Make.seed c.in-Make.count _ c.make_answer.result c.make_answer.ensures)
