-- The rows that were there from the beginning, from the last to the first.
use Rattle.sdd_copy.proofs.All.{FragNo, Items, List, Value, [], arith, fold, initial, reverse-append, written, ℕ, ◌++◌, ◌∷◌, ◌≡◌}

-- one row more is added
pub one_initial : (f : FragNo) (key : ℕ) (row : List Value) (rest rows : List (List Value)) (old new whole : Items)
    → rows ≡ rest ++ row ∷ [] → new ≡ fold written old (initial f key (row ∷ []))
    → fold written old (initial f key rows) ≡ whole → fold written new (initial f key rest) ≡ whole
one_initial f key row rest rows old new whole last add all = grind (arith, reverse-append)
