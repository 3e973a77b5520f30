use Rattle.sdd_app_inside.proofs.Apart.{one_text, text_or_limit}
use Rattle.sdd_app_inside.proofs.law.law_one_inside.Goals as goal

pub returns-clause-text : goal.returns-clause-text
returns-clause-text g = one_text

pub returns-clause-not_both : goal.returns-clause-not_both
returns-clause-not_both g = text_or_limit
