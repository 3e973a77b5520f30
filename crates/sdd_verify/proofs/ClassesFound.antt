-- The classes of what events submit, one event more.
use Rattle.sdd_verify.proofs.All.{Catalogue, Event, List, Txn, append_assoc, arith, class_if, classes_from, drop, drop_more, get_or, length, nat_tests, redeclared, submitted_by, ℕ, ◌++◌, ◌+◌, ◌<◌, ◌≡◌}

pub one_more : (era : ℕ → Catalogue) (txns : List Txn) (events : List Event) (i n next : ℕ) (e : Event) (classes more total : List ℕ)
    → i < length events → e ≡ get_or events i e → next ≡ redeclared e n → more ≡ classes ++ class_if (era n) (submitted_by txns e)
    → classes ++ classes_from era txns n (drop i events) ≡ total → more ++ classes_from era txns next (drop (i + 1) events) ≡ total
one_more era txns events i n next e classes more total within there goes grown so_far =
    grind (arith, nat_tests, drop_more, classes_from, append_assoc, class_if, submitted_by)
