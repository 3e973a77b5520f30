use Rattle.sdd_app.proofs.All.{ends_as, map, sdd1_call, string_bytes}
use Rattle.sdd_app.proofs.Verdicts.{sdd1_decided}
use Rattle.sdd_app.proofs.run.run_sdd1.Goals as goal

pub returns-clause-ends : goal.returns-clause-ends
returns-clause-ends g c =
    ends_as sdd1_call sdd1_decided (map string_bytes c.args.words.now) _ _ c.answer.result _ _ _ _ c.end_call.result
    c.answer.ensures.answers c.end_call.ensures.ends c.end_call.ensures.line
