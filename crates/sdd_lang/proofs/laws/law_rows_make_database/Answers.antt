use Rattle.sdd_lang.proofs.StaysDatabase.{rows_make_database}
use Rattle.sdd_lang.proofs.laws.law_rows_make_database.Goals as goal

pub returns : goal.returns
returns c = rows_make_database c.args.catalogue.now c.args.rows.now c.requires c.law_rows_held.ensures
