use Rattle.sdd_verify.proofs.All.{map, take, texts_of, ◌≡◌}
use Rattle.sdd_verify.proofs.submitted.Submitted.texts.Given as goal

-- the transactions of the numbers so far
abbrev pub invariant-order : goal.invariant-order
invariant-order l = map (λ t. t.now) l.texts.items ≡ texts_of l.self (take l.number-index l.order)
