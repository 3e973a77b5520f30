use Rattle.std.proofs.Common.{map, string_bytes}
use Rattle.sdd_shell.proofs.Calls.{ends_as}
use Rattle.sdd_app_ask.specs.Calls.{ask_call}
use Rattle.sdd_app_ask.proofs.Verdicts.{ask_decided}
use Rattle.sdd_app_ask.proofs.asking.run_ask.Goals as goal

pub returns-clause-ends : goal.returns-clause-ends
returns-clause-ends g c =
    ends_as ask_call ask_decided (map string_bytes c.args.words.now) _ _ c.answer.result _ _ _ _ c.end_call.result
    c.answer.ensures.answers c.end_call.ensures.ends c.end_call.ensures.line
