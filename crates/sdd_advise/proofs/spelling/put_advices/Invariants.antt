use Rattle.sdd_advise.proofs.All.{advices_text, take, ◌++◌, ◌≡◌}
use Rattle.sdd_advise.proofs.spelling.put_advices.Given as goal

-- so far the text holds the lines of the advices so far
abbrev pub invariant-advices : goal.invariant-advices
invariant-advices l = l.out.items ≡ l.fn.out.items ++ advices_text l.catalogue (take l.advice-index l.advices)
