-- The lines of rows, and what a transaction answers, with the rows of each of its queries.
use Rattle.std.specs.Prelude.{ℕ, ◌+◌, List, [], ◌∷◌, ◌++◌, length, flat_map, codes}
use Rattle.std.specs.Fmt.{decimal}
use Rattle.sdd_base.specs.declared.reply.Reply.{Reply}
use Rattle.sdd_base.specs.declared.reply.Reply.TheVariants.{Rows, Overflow, TooMany}
use Rattle.sdd_base.specs.declared.value.Value.{Value}
use Rattle.sdd_words.specs.Values.{value_word}
use Rattle.sdd_words.specs.Words.{word_bytes}

-- values are printed as a workload's file spells them
abbrev pub value_bytes : Value → List ℕ
value_bytes v = word_bytes (value_word v)

-- a row, its values each after a space
abbrev pub row_line : List Value → List ℕ
row_line row = codes "row" ++ flat_map (λ v. 32 ∷ value_bytes v) row ++ 10 ∷ []

-- a query with its number and how many rows answer it, and the rows
abbrev pub query_lines : ℕ → List (List Value) → List ℕ
query_lines number rows = codes "query " ++ decimal number ++ 32 ∷ decimal (length rows) ++ 10 ∷ [] ++ flat_map row_line rows

-- queries from a number on
abbrev pub queries_from : ℕ → List (List (List Value)) → List ℕ
queries_from number [] = []
queries_from number (rows ∷ rest) = query_lines number rows ++ queries_from (number + 1) rest

-- what became of a transaction: the answers of its queries, or why it failed
abbrev pub outcome_lines : Reply → List ℕ
outcome_lines (Rows answers) = codes " ok\n" ++ queries_from 1 answers
outcome_lines Overflow = codes " overflow\n"
outcome_lines TooMany = codes " toomany\n"
