use Rattle.sdd_words.proofs.Comparing.{comparison_read}
use Rattle.sdd_words.proofs.form.next_comparison.Goals as goal

pub returns-in-Some-clause-read : goal.returns-in-Some-clause-read
returns-in-Some-clause-read c =
    comparison_read c.args.key.now c.in-Some.first c.in-Some.left c.in-Some.op c.in-Some.right c.four.new.self c.args.words.now c.comparison_of.result
    c.in-Some.ensures
    c.comparison_of.ensures
