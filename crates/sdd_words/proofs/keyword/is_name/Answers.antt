use Rattle.sdd_words.proofs.All.{sym, ◌∙◌}
use Rattle.sdd_words.proofs.NameTexts.{named}
use Rattle.sdd_words.proofs.keyword.is_name.Goals as goal

pub returns-in-Ok-Some : goal.returns-in-Ok-Some
returns-in-Ok-Some c = named c.args.bytes.now c.in-Ok-Some.field-0-0 (sym c.in-Ok-Some.field-0-is ∙ c.in-Ok-Some.ensures)
