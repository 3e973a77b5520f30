-- The transactions of the worked histories, and the rows that were there before.
use Rattle.std.specs.Prelude.{ℕ, pos, List, [], ◌∷◌}
use Rattle.sdd_laws.specs.All.{Const, Ge, Int, Le, Op, Put, Query, Ref, RelNo, Row, Stmt, Txn, rel_no, row_of, tm_no}

-- statements that are given to module t
abbrev pub given_to : ℕ → List Stmt → Txn
given_to t statements = record { name = []; tm = tm_no t; statements = statements }

abbrev pub put_row : ℕ → ℕ → Stmt
put_row id value = Put (rel_no 1) (row_of id value)

abbrev pub column : ℕ → Ref
column c = record { part = 1; column = c }

-- asks for the values of the rows by their keys
abbrev pub values_by : Op → ℕ → Stmt
values_by op bound = Query (column 2 ∷ []) (rel_no 1 ∷ []) (Const (column 1) op (Int (pos bound)) ∷ [])

-- asks for all rows
abbrev pub all_rows : Stmt
all_rows = Query (column 1 ∷ column 2 ∷ []) (rel_no 1 ∷ []) []

abbrev pub put_and_query : List Txn
put_and_query = given_to 1 (put_row 1 7 ∷ []) ∷ given_to 2 (values_by Le 9 ∷ []) ∷ []

abbrev pub rows_of_two : List (RelNo × Row)
rows_of_two = (rel_no 1, row_of 1 0) ∷ (rel_no 1, row_of 11 0) ∷ []

abbrev pub two_puts_and_query : List Txn
two_puts_and_query = given_to 1 (put_row 1 7 ∷ put_row 11 7 ∷ []) ∷ given_to 2 (all_rows ∷ []) ∷ []

abbrev pub two_of_both : List Txn
two_of_both =
    given_to 1 (values_by Le 9 ∷ put_row 11 1 ∷ []) ∷ given_to 2 (values_by Ge 10 ∷ put_row 1 1 ∷ []) ∷ []

abbrev pub query_and_put : List Txn
query_and_put = given_to 1 (values_by Le 9 ∷ []) ∷ given_to 2 (put_row 1 1 ∷ []) ∷ []

abbrev pub two_of_one_class : List Txn
two_of_one_class =
    given_to 1 (values_by Le 9 ∷ put_row 1 1 ∷ []) ∷ given_to 1 (values_by Le 9 ∷ put_row 1 2 ∷ []) ∷ []

abbrev pub undeclared_between : List Txn
undeclared_between =
    given_to 1 (put_row 1 5 ∷ [])
    ∷ given_to 2 (values_by Le 9 ∷ put_row 11 5 ∷ [])
    ∷ given_to 1 (put_row 1 6 ∷ [])
    ∷ []

abbrev pub put_then_query : List Txn
put_then_query = given_to 1 (put_row 5 10 ∷ []) ∷ given_to 1 (values_by Le 9 ∷ []) ∷ []
