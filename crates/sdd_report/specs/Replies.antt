-- The line of an order, and the replies of transactions by their names.
use Rattle.std.specs.Prelude.{ℕ, List, [], ◌∷◌, ◌++◌, flat_map, codes}
use Rattle.sdd_lang.specs.All.{Reply}
use Rattle.sdd_report.specs.Names.{spaced}
pub use Rattle.sdd_words.specs.Replies.{value_bytes, row_line, query_lines, queries_from, outcome_lines}

-- the reply of the transaction with this name
abbrev pub reply_lines : List ℕ → Reply → List ℕ
reply_lines name reply = codes "reply " ++ name ++ outcome_lines reply

-- the replies of transactions with these names, one after the other
abbrev pub replies_along : List (List ℕ) → List Reply → List ℕ
replies_along [] replies = []
replies_along (name ∷ names) [] = []
replies_along (name ∷ names) (reply ∷ replies) = reply_lines name reply ++ replies_along names replies

-- the line of an order, by the names of its transactions
abbrev pub names_line : List (List ℕ) → List ℕ
names_line names = codes "order" ++ (flat_map spaced names ++ 10 ∷ [])
