use Rattle.sdd_ask.proofs.All.{IsTable, subst, sym}
use Rattle.sdd_ask.proofs.needs.needs_text.Goals as goal

pub text_by_table-requires : goal.text_by_table-requires
text_by_table-requires c = subst (IsTable c.args.catalogue.now) (sym c.entries.ensures) c.in_ok-table.ensures
