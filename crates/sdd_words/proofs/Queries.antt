-- The lines of queries, one query after the other.
use Rattle.sdd_words.proofs.All.{List, Value, add-one, append-nil, append_assoc, arith, drop, drop-cons, drop_all, get_or, length, queries_from, query_lines, ℕ, ◌++◌, ◌+◌, ◌<◌, ◌≡◌, ◌≤◌}

-- a query's lines go from what is left to what is written
pub queries_go_on : (text after whole : List ℕ) (answers : List (List (List Value))) (i : ℕ) (rows : List (List Value)) → i < length answers
    → rows ≡ get_or answers i rows
    → after ≡ text ++ query_lines (i + 1) rows → text ++ queries_from (i + 1) (drop i answers) ≡ whole
    → after ++ queries_from (i + 1 + 1) (drop (i + 1) answers) ≡ whole
queries_go_on text after whole answers i rows within is put left = grind (arith, drop-cons, add-one, append_assoc)

-- and past the last query nothing is left
pub queries_end : (text whole : List ℕ) (answers : List (List (List Value))) (i : ℕ) → length answers ≤ i
    → text ++ queries_from (i + 1) (drop i answers) ≡ whole → text ≡ whole
queries_end text whole answers i past left = grind (arith, append-nil, drop_all)
