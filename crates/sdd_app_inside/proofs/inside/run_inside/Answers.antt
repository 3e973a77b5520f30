use Rattle.std.proofs.Common.{map, string_bytes}
use Rattle.sdd_shell.proofs.Calls.{ends_as}
use Rattle.sdd_app_inside.specs.Inside.{inside_call}
use Rattle.sdd_app_inside.proofs.Shown.{inside_decided}
use Rattle.sdd_app_inside.proofs.inside.run_inside.Goals as goal

pub returns-clause-ends : goal.returns-clause-ends
returns-clause-ends g c =
    ends_as inside_call inside_decided (map string_bytes c.args.words.now) _ _ c.answer.result _ _ _ _ c.end_call.result
    c.answer.ensures.answers c.end_call.ensures.ends c.end_call.ensures.line
