-- The protocol tables of the worked catalogues.
use Rattle.std.specs.Prelude.{ℕ, List, [], ◌∷◌}
use Rattle.sdd_laws.specs.All.{Diagonal, Edge, Entry, P1, P2, P3, Vertical, class_no, entry_of, frag_no}

abbrev vertical : ℕ → Edge
vertical i = Vertical (class_no i)

-- class i reads fragment f, which class j writes
abbrev diagonal : ℕ → ℕ → ℕ → Edge
diagonal i j f = Diagonal (class_no i) (class_no j) (frag_no f)

-- no edge lies on a cycle
abbrev pub table_of_bridge : List Entry
table_of_bridge = entry_of (vertical 1) 0 P1 ∷ entry_of (vertical 2) 0 P1 ∷ entry_of (diagonal 2 1 1) 0 P1 ∷ []

-- the two diagonals form a cycle
abbrev pub table_of_one_reader : List Entry
table_of_one_reader =
    entry_of (vertical 1) 0 P1
    ∷ entry_of (vertical 2) 0 P1
    ∷ entry_of (diagonal 2 1 1) 1 P2
    ∷ entry_of (diagonal 2 1 2) 1 P2
    ∷ []

-- all edges lie on one cycle
abbrev pub table_of_crossing : List Entry
table_of_crossing =
    entry_of (vertical 1) 1 P1
    ∷ entry_of (vertical 2) 1 P1
    ∷ entry_of (diagonal 1 2 1) 1 P3
    ∷ entry_of (diagonal 2 1 2) 1 P3
    ∷ []

-- a class alone
abbrev pub table_of_one : List Entry
table_of_one = entry_of (vertical 1) 0 P1 ∷ []

-- two classes that don't meet
abbrev pub table_of_two : List Entry
table_of_two = entry_of (vertical 1) 0 P1 ∷ entry_of (vertical 2) 0 P1 ∷ []
