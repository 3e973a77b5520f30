-- Moves of the queries lose no row that a statement needs.
use Rattle.sdd_serving.proofs.All.{AllByRecursion, Condition, Database, Delete, Has, IsFrom1To, IsHeldAt, IsMoveAlong, IsMoveOf, IsRowOf, List, Move, Put, Query, Ref, Row, Same, Space, Stmt, Tuple, Update, Value, [], all_rows, ap, arith, cases_Bool, column, inl, inr, is_among, length, map, meets_all, nat_tests, part_of, product, reduced, restrictions_of, subst, sym, true, use_at, uses_in, value_at, ℕ, ◌+◌, ◌<◌, ◌∷◌, ◌≡◌, ◌≢◌, ◌≤◌, ◌⊎◌}
use Rattle.sdd_serving.proofs.Held.{reduced_from, stays_held}
use Rattle.sdd_serving.proofs.Joined.{IsJoined, joined, one_value}
use Rattle.sdd_laws.specs.lang.Database as databases

-- the values of a move reduce what one module holds: among them are those of all rows that are held for its source
pub record Reduces (dms : List ℕ) (m : Move) (before after : Space) : Type 0 where
  pub at : ℕ
  pub values : List Value
  pub covers : (row : Row) → IsHeldAt dms before m.source.part row → is_among values (column row m.source.column) ≡ true
  pub here : after at ≡ reduced m.target.part m.target.column values (before at)
  pub elsewhere : (d : ℕ) → d ≢ at → after d ≡ before d

-- any number of such reductions lead from the one to the other
pub data Leads (dms : List ℕ) (statements : List Stmt) (first : Space) : Space → Type 0 where
  none : Leads dms statements first first
  more : {before after : Space} → Leads dms statements first before → (m : Move) → IsMoveAlong 0 statements m
      → Reduces dms m before after → Leads dms statements first after

-- no row that a statement needs is lacking
abbrev pub HoldEnough : Database → List ℕ → Space → ℕ → Stmt → Type 0
HoldEnough db dms space before (Put rel row) = Unit {0}
HoldEnough db dms space before (Query out rels conds) =
    (tuple : Tuple) → Has (product (map (λ rel. databases.rows_of db rel.0) rels)) tuple → meets_all conds tuple ≡
    true
    → (part : ℕ) → IsFrom1To (length rels) part → IsHeldAt dms space (before + part) (part_of tuple part)
HoldEnough db dms space before (Update rel sets conds) = (row : Row) → IsRowOf db rel.0 (restrictions_of 1 conds) row → IsHeldAt dms space (before + 1) row
HoldEnough db dms space before (Delete rel conds) = (row : Row) → IsRowOf db rel.0 (restrictions_of 1 conds) row → IsHeldAt dms space (before + 1) row

abbrev pub HoldEnoughAlong : Database → List ℕ → Space → ℕ → List Stmt → Type 0
HoldEnoughAlong db dms space before [] = Unit {0}
HoldEnoughAlong db dms space before (s ∷ rest) = HoldEnough db dms space before s × HoldEnoughAlong db dms space (before + uses_in s) rest

-- equalities name parts of their query
abbrev pub HasParts : Stmt → Type 0
HasParts (Query out rels conds) = (left right : Ref) → Has conds (Same left right) → IsFrom1To (length rels) left.part × IsFrom1To (length rels) right.part
HasParts _ = Unit {0}

module _ (dms : List ℕ) (m : Move) (before after : Space) (r : Reduces dms m before after) where
  -- a row stays held, where it has one of the values if it is of the target
  pub still_held : (u : ℕ) (row : Row) → IsHeldAt dms before u row
      → (u ≡ m.target.part → is_among r.values (column row m.target.column) ≡ true) → IsHeldAt dms after u row
  still_held u row h passes = (grind (arith, nat_tests, cases_Bool, all_rows, reduced, stays_held))

  -- what is held was held
  pub was_held : (d u : ℕ) (row : Row) → Has (all_rows (after d)) (u, row) → Has (all_rows (before d)) (u, row)
  was_held d u row h = (grind (arith, nat_tests, cases_Bool, reduced, reduced_from, all_rows))

  -- of another use all stays
  pub other_held : (u : ℕ) (row : Row) → u ≢ m.target.part → IsHeldAt dms before u row → IsHeldAt dms after u row
  other_held u row n h = still_held u row h (λ e. absurd (n e))

  -- a statement to which the target doesn't belong
  other_stays : (db : Database) (k : ℕ) (s : Stmt) → (m.target.part ≤ k) ⊎ (k + uses_in s < m.target.part)
      → HoldEnough db dms before k s → HoldEnough db dms after k s
  other_stays db k s o h = grind (arith, nat_tests, other_held, part_of)

  others_stay : (db : Database) (k : ℕ) (statements : List Stmt) → m.target.part ≤ k
      → HoldEnoughAlong db dms before k statements → HoldEnoughAlong db dms after k statements
  others_stay db k [] le h = tt
  others_stay db k (s ∷ rest) le h = (other_stays db k s (inl le) h.0, others_stay db (k + uses_in s) rest (omega arith) h.1)

  -- the query whose move it is
  record Sides (k n : ℕ) (move : Move) : Type 0 where
    source : IsFrom1To n move.source.part
    target : IsFrom1To n move.target.part

  sides : (conds : List Condition) (n : ℕ) (move : Move) → ((left right : Ref) → Has conds (Same left right) → IsFrom1To n left.part × IsFrom1To n right.part)
      → IsJoined conds move → Sides 0 n move
  sides conds n move range j =
      let both = range j.left j.right j.there in
      elim j.sides [
        | inl s ↦
            record
            { source = subst (λ (z : Ref). IsFrom1To n z.part) (sym s.0) both.1; target = subst (λ (z : Ref). IsFrom1To n z.part) (sym s.1) both.0 }
        | inr s ↦
            record
            { source = subst (λ (z : Ref). IsFrom1To n z.part) (sym s.0) both.0; target = subst (λ (z : Ref). IsFrom1To n z.part) (sym s.1) both.1 }
      ]

  query_stays : (db : Database) (k : ℕ) (s : Stmt) → HasParts s → IsMoveOf k s m → HoldEnough db dms before k s → HoldEnough db dms after k s
  query_stays db k (Query out rels conds) parts q h =
      λ tuple there meets part range.
      let j : IsJoined conds q.move = joined conds q.move q.there in
      let w = sides conds (length rels) q.move parts j in
      let source_is : m.source ≡ use_at k q.move.source = ap (λ (z : Move). z.source) q.is in
      let target_is : m.target ≡ use_at k q.move.target = ap (λ (z : Move). z.target) q.is in
      let from : IsHeldAt dms before m.source.part (part_of tuple q.move.source.part) = grind (arith, nat_tests, part_of) in
      let among : is_among r.values (column (part_of tuple q.move.source.part) m.source.column) ≡ true = grind (arith, nat_tests, part_of) in
      let at_source : is_among r.values (value_at tuple q.move.source) ≡ true = grind (arith, nat_tests, is_among, column, part_of) in
      let at_target : is_among r.values (value_at tuple q.move.target) ≡ true =
      subst (λ z. is_among r.values z ≡ true) (one_value conds q.move tuple j meets) at_source in
      let passes : k + part ≡ m.target.part → is_among r.values (column (part_of tuple part) m.target.column) ≡ true =
      grind (arith, nat_tests, is_among, column, part_of) in
      still_held (k + part) (part_of tuple part) (h tuple there meets part range) passes
  query_stays db k _ parts q h = absurd q

  -- where the target of a move stands
  target_after : (k : ℕ) (s : Stmt) → HasParts s → IsMoveOf k s m → (k < m.target.part) × (m.target.part ≤ k + uses_in s)
  target_after k s parts q = grind (arith, nat_tests, sides, joined)

  target_behind : (k : ℕ) (statements : List Stmt) → AllByRecursion HasParts statements → IsMoveAlong k statements m → k < m.target.part
  target_behind k [] parts q = absurd q
  target_behind k (s ∷ rest) parts (inl here) = (target_after k s parts.0 here).0
  target_behind k (s ∷ rest) parts (inr there) = let l = target_behind (k + uses_in s) rest parts.1 there in omega (arith, l)

  pub step_keeps : (db : Database) (k : ℕ) (statements : List Stmt) → AllByRecursion HasParts statements
      → IsMoveAlong k statements m → HoldEnoughAlong db dms before k statements → HoldEnoughAlong db dms after k statements
  step_keeps db k [] parts q h = absurd q
  step_keeps db k (s ∷ rest) parts (inl here) h = grind (arith, nat_tests, query_stays, others_stay, uses_in, target_after)
  step_keeps db k (s ∷ rest) parts (inr there) h =
      (other_stays db k s (inr (target_behind (k + uses_in s) rest parts.1 there)) h.0, step_keeps db (k + uses_in s) rest parts.1 there h.1)

-- after any number of reductions
pub all_keep : (db : Database) (dms : List ℕ) (statements : List Stmt) → AllByRecursion HasParts statements
    → (first last : Space) → Leads dms statements first last → HoldEnoughAlong db dms first 0 statements → HoldEnoughAlong db dms last 0 statements
all_keep db dms statements parts first last none h = h
all_keep db dms statements parts first last (more {before} {after} l m q r) h =
    step_keeps dms m before after r db 0 statements parts q (all_keep db dms statements parts first before l h)

pub all_were : (dms : List ℕ) (statements : List Stmt) (first last : Space) → Leads dms statements first last
    → (d u : ℕ) (row : Row) → Has (all_rows (last d)) (u, row) → Has (all_rows (first d)) (u, row)
all_were dms statements first last none d u row h = h
all_were dms statements first last (more {before} {after} l m q r) d u row h =
    grind (arith, nat_tests, was_held, (all_were dms statements first before l d u row (was_held dms m before after r d u row h)))
