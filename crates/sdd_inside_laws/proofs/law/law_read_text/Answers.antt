use Rattle.sdd_inside_laws.proofs.BytesRead.{bytes_read}
use Rattle.sdd_inside_laws.proofs.OwnNames.{own_names}
use Rattle.sdd_inside_laws.proofs.RunRead.{good_run, of_inside}
use Rattle.sdd_inside_laws.proofs.SmallLines.{small_lines}
use Rattle.sdd_inside_laws.proofs.law.law_read_text.Goals as goal
use Rattle.sdd_app_inside.proofs.run.class_lists.WholeSound.{whole_named, whole_sound}
use Rattle.sdd_app_inside.specs.run.Runs.{input}
use Rattle.sdd_app_inside.specs.run.class_lists.InForce.{whole_in}

pub returns : goal.returns
returns g cat work text sound named valid i =
    bytes_read (input i.of_run) i.of_run.log (good_run cat work i.of_run.tables sound valid i.of_run.tables_are) i.of_run.log_is
    (own_names (whole_in cat work) (whole_sound cat work sound valid) (whole_named cat work named valid)) text
    (small_lines cat work i.of_run.tables sound valid i.of_run.tables_are i.of_run.log i.of_run.log_is)
    (of_inside cat work text sound valid i).text_is
