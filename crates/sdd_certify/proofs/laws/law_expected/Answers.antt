use Rattle.sdd_certify.proofs.ExpectedLine.{line_expected, no_reply_expected}
use Rattle.sdd_certify.proofs.laws.law_expected.Goals as goal

pub returns-clause-line : goal.returns-clause-line
returns-clause-line c = λ catalogue work report other line number valid due verified same.
    line_expected catalogue work report other line number valid verified same due

pub returns-clause-no_reply : goal.returns-clause-no_reply
returns-clause-no_reply c = λ catalogue work report other number valid no due verified same.
    no_reply_expected catalogue work report other number valid verified same no due
