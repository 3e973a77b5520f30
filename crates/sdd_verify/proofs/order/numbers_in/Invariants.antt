use Rattle.sdd_verify.proofs.All.{along, length, named, require, with_front, words_behind, ◌≡◌}
use Rattle.sdd_verify.proofs.order.numbers_in.Given as goal

-- the numbers so far, and those of the names that are left
abbrev pub invariant-names : goal.invariant-names
invariant-names l =
    with_front l.order.items (along (λ _ name. require l.line (named l.submitted name)) (length l.order.items) (words_behind l.rest))
    ≡ along (λ _ name. require l.line (named l.submitted name)) 0 (words_behind l.names)

abbrev pub decreases-names : goal.decreases-names
decreases-names l = length l.rest
