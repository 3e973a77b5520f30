-- A transaction statement by statement.
use Rattle.sdd_lang.proofs.All.{List, MAX_REPLY_ROWS, Row, [], arith, length, rows_in, ℕ, ◌++◌, ◌+◌, ◌-◌, ◌∷◌, ◌≡◌, ◌≤◌}

pub rows_in-append : (answers : List (List Row)) (rows : List Row) → rows_in (answers ++ rows ∷ []) ≡ rows_in answers + length rows
rows_in-append [] rows = omega arith
rows_in-append (a ∷ answers) rows = omega (arith, rows_in-append answers rows)

-- the room that is left after one more answer
pub room_left : (room : ℕ) (answers : List (List Row)) (rows : List Row) → room + rows_in answers ≡ MAX_REPLY_ROWS → length rows ≤ room
    → (room - length rows) + rows_in (answers ++ rows ∷ []) ≡ MAX_REPLY_ROWS
room_left room answers rows e le = omega (arith, rows_in-append answers rows)
