use Rattle.sdd_words.proofs.Assigning.{setting_read}
use Rattle.sdd_words.proofs.form.next_setting.Goals as goal

pub returns-in-Some-clause-read : goal.returns-in-Some-clause-read
returns-in-Some-clause-read c =
    setting_read c.in-Some.left c.in-Some.op c.in-Some.right c.three.new.self c.args.words.now c.assignment_of.result c.in-Some.ensures c.assignment_of.ensures
