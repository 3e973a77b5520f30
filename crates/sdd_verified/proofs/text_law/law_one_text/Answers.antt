use Rattle.sdd_verified.proofs.NumbersBack.{one_text_of_the_same}
use Rattle.sdd_verified.proofs.OneText.{one_text}
use Rattle.sdd_verified.proofs.text_law.law_one_text.Goals as goal

pub returns-clause-names : goal.returns-clause-names
returns-clause-names g = one_text

pub returns-clause-numbers : goal.returns-clause-numbers
returns-clause-numbers g = one_text_of_the_same
