-- A worked exchange: of the accounts (5, 6) and (6, 7) a query joins those of which one's balance is the other's number.
-- The rows of its first use are reduced by the balances of its second: (5, 6) is dropped, and what is left serves.
use Rattle.sdd_serving.proofs.All.{Condition, CopyRows, Database, Decides-eqb, FragNo, Has, HasCopies, Int, IsDatabase, List, Move, Query, Resting, Row, Runs, Same, Space, Stage, Telling, Txn, Use, Value, [], accounts, all_held, ap, arith, asked_at, asks, begins, cond, entries_of, false, frag_no, frozen_space, inl, inr, is_read_at, item_cmp, move_by, nat_tests, pos, reduced, reduces, ref, refl, rel, rests, rows_in_fragment, rows_of, sends, sorted_cons, sorted_nil, subst, sym, tells, true, two, txn, uses_of, values_in, ℕ, ◌==◌, ◌∷◌, ◌≡◌, ◌≢◌}
use Rattle.sdd_serving.proofs.ValuesOfModules.{frozen_once, tells_all}

abbrev joined : List Condition
joined = Same (ref 1 1) (ref 2 2) ∷ []

abbrev pub query : Txn
query = txn (Query (ref 1 1 ∷ []) (rel 1 ∷ rel 1 ∷ []) joined ∷ [])

abbrev five : Row
five = two (pos 5) (pos 6)

abbrev six : Row
six = two (pos 6) (pos 7)

abbrev pub copies : ℕ → CopyRows
copies d f = (pos 5, five) ∷ (pos 6, six) ∷ []

abbrev pub db : Database
db = ((1, pos 5), five) ∷ ((1, pos 6), six) ∷ []

db_is : IsDatabase accounts db
db_is = grind (arith, nat_tests, sorted_cons, item_cmp, sorted_nil, accounts, db)

-- both uses are of the one fragment
one_fragment : (u : Use) (f : FragNo) → Has (uses_of accounts query) u → Has u.frags f → f.0 ≡ 1
one_fragment u f (inl e) h = in_first (subst (λ (z : Use). Has z.frags f) (sym e) h)
  where
    in_first : Has (frag_no 1 ∷ []) f → f.0 ≡ 1
    in_first (inl same) = ap (λ (z : FragNo). z.0) (sym same)
    in_first (inr none) = absurd none
one_fragment u f (inr (inl e)) h = in_second (subst (λ (z : Use). Has z.frags f) (sym e) h)
  where
    in_second : Has (frag_no 1 ∷ []) f → f.0 ≡ 1
    in_second (inl same) = ap (λ (z : FragNo). z.0) (sym same)
    in_second (inr none) = absurd none
one_fragment u f (inr (inr none)) h = absurd none

pub has_copies : HasCopies accounts 1 query (1 ∷ []) copies db
has_copies = grind (arith, nat_tests, db_is, rows_in_fragment, accounts, db, entries_of, copies, one_fragment, is_read_at)

abbrev move : Move
move = move_by (record { number = 1; left = ref 1 1; right = ref 2 2 }) true

abbrev first : Space
first = frozen_space accounts 1 query 65 copies

-- what the module tells of the second use's balances
abbrev sent_values : List Value
sent_values = values_in (rows_of 2 (first 1)) 2

pub sent_values_are : sent_values ≡ Int (pos 6) ∷ Int (pos 7) ∷ []
sent_values_are = refl

abbrev last : Space
last d = cond (d == 1) (reduced 1 1 sent_values (first 1)) (first d)

elsewhere : (d : ℕ) → d ≢ 1 → last d ≡ first d
elsewhere d n =
    elim (d == 1) as (λ b.
    (d == 1) ≡ b → cond b (reduced 1 1 sent_values (first 1)) (first d) ≡ first d) [
      | true ↦ λ e. absurd (n ((Decides-eqb d 1).0 e))
      | false ↦ λ e. refl
    ] refl

abbrev Run : Space → Stage → Type 0
Run space stage = Runs (1 ∷ []) query.statements (asked_at accounts 1 query) first space stage

pub run : Run last Resting
run =
    let asked : Run first (Telling move (1 ∷ []) []) =
    asks begins move (inl (record { move = move; there = inl refl; is = refl })) (1 ∷ []) (λ d h t. h) in
    let answered : Run first (Telling move [] sent_values) =
    tells move (1 ∷ []) [] asked 1 sent_values (tells_all (first 1) (frozen_once accounts 1 query 65 copies 1) (ref 2 2)) in
    rests move sent_values (reduces move sent_values (sends move [] sent_values answered refl) 1 refl elsewhere)

-- of the first use (5, 6) is dropped
pub what_is_left : all_held (1 ∷ []) last ≡ (1, six) ∷ (2, five) ∷ (2, six) ∷ []
what_is_left = refl
