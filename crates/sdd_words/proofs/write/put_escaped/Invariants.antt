use Rattle.sdd_words.proofs.All.{escaped, length, ◌++◌, ◌≡◌}
use Rattle.sdd_words.proofs.write.put_escaped.Given as goal

abbrev pub invariant-fronts : goal.invariant-fronts
invariant-fronts l = l.out.items ++ escaped l.rest ≡ l.fn.out.items ++ escaped l.fn.text

abbrev pub decreases-fronts : goal.decreases-fronts
decreases-fronts l = length l.rest
