use Rattle.sdd_words.proofs.All.{sym}
use Rattle.sdd_words.proofs.NameTexts.{name_in_other_bytes}
use Rattle.sdd_words.proofs.naming.read_name.Goals as goal

pub returns-in-Err : goal.returns-in-Err
returns-in-Err c = sym (name_in_other_bytes c.args.bytes.now c.in-Err.ensures.cases.0)
