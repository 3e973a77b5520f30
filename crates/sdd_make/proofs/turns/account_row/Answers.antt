use Rattle.sdd_make.proofs.Owner.{owner_is_text}
use Rattle.sdd_make.proofs.turns.account_row.Goals as goal

pub text-requires : goal.text-requires
text-requires c = owner_is_text
