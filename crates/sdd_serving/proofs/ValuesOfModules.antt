-- What the values that modules tell have, and their union.
use Rattle.sdd_serving.proofs.All.{Catalogue, CopyRows, Decides-eqb, Equal, Frozen, Greater, Has, Has-filter_map_from, Has-map_from, Less, List, None, Ordering, Ref, Row, Some, TellsAll, Txn, Value, [], all_rows, ap, arith, column, cond, either, false, first_some, frozen_space, inl, inr, insert_key, is_among, is_eq, map, match_ordering, nat_tests, or_else, or_nothing, ordering_reverse, reduced, refl, rows_for, rows_of, subst, sym, tied_itself, true, use_there, uses_at, uses_of, value_cmp, value_cmp_total, values_in, with_values, ℕ, ◌==◌, ◌||◌, ◌∙◌, ◌∷◌, ◌≡◌}
use Rattle.sdd_serving.proofs.Freezing.{IsThere, there_is}
use Rattle.sdd_serving.proofs.Held.{Kept, has_row, lessened, same_number}
use Rattle.sdd_serving.proofs.Uses.{one_use}

-- values that are put together

among_self : (v : Value) → is_eq (value_cmp v v) ≡ true
among_self v = ap is_eq (tied_itself value_cmp_total v)

key_among : (vs : List Value) (v : Value) → is_among (insert_key value_cmp vs v) v ≡ true
key_among [] v = ap (λ b. b || false) (among_self v)
key_among (x ∷ vs) v = grind (arith, nat_tests, value_cmp, is_among, match_ordering, insert_key, among_self, is_eq, value_cmp_total, ordering_reverse, (key_among vs v))

key_keeps : (vs : List Value) (w v : Value) → is_among vs v ≡ true → is_among (insert_key value_cmp vs w) v ≡ true
key_keeps [] w v h = cc
key_keeps (x ∷ vs) w v h = grind (arith, value_cmp, is_among, match_ordering, insert_key, is_eq, (key_keeps vs w v))

pub old_among : (vs ws : List Value) (v : Value) → is_among vs v ≡ true → is_among (with_values vs ws) v ≡ true
old_among vs [] v h = h
old_among vs (w ∷ ws) v h = old_among (insert_key value_cmp vs w) ws v (key_keeps vs w v h)

pub new_among : (vs ws : List Value) (v : Value) → is_among ws v ≡ true → is_among (with_values vs ws) v ≡ true
new_among vs [] v h = cc
new_among vs (w ∷ ws) v h =
    elim (is_eq (value_cmp w v)) as (λ b. is_eq (value_cmp w v) ≡ b → (b || is_among ws v) ≡ true → is_among (with_values vs (w ∷ ws)) v ≡ true) [
      | true ↦ λ e k. old_among (insert_key value_cmp vs w) ws v (one_among vs w v e)
      | false ↦ λ e k. new_among (insert_key value_cmp vs w) ws v k
    ] refl h
  where
    of_equal : (o : Ordering) → is_eq o ≡ true → o ≡ Equal
    of_equal Less e = cc
    of_equal Equal e = refl
    of_equal Greater e = cc

    same : (vs : List Value) (w v : Value) → value_cmp w v ≡ Equal → is_among vs w ≡ true → is_among vs v ≡ true
    same [] w v e h = cc
    same (x ∷ vs) w v e h =
        let swap : value_cmp x v ≡ value_cmp x w =
        value_cmp_total.antisymm x v ∙ ap ordering_reverse (sym (value_cmp_total.congr w v x e)) ∙ sym (value_cmp_total.antisymm x w) in
        elim (is_eq (value_cmp x w)) as (λ b. is_eq (value_cmp x w) ≡ b → (b || is_among vs w) ≡ true → is_among (x ∷ vs) v ≡ true) [
          | true ↦ λ p q. ap (λ b. b || is_among vs v) (ap is_eq swap ∙ p)
          | false ↦ λ p q. either (is_eq (value_cmp x v)) (is_among vs v) (same vs w v e q)
        ] refl h

    one_among : (vs : List Value) (w v : Value) → is_eq (value_cmp w v) ≡ true → is_among (insert_key value_cmp vs w) v ≡ true
    one_among vs w v e = same (insert_key value_cmp vs w) w v (of_equal (value_cmp w v) e) (key_among vs w)

-- the values of rows have that of each
abbrev map_values : List Row → ℕ → List Value
map_values rows col = map (λ row. column row col) rows

value_there : (rows : List Row) (col : ℕ) (row : Row) → Has rows row → is_among (map_values rows col) (column row col) ≡ true
value_there [] col row h = absurd h
value_there (r ∷ rows) col row (inl e) = grind (arith, nat_tests, is_among, map_values, column, is_eq, value_cmp, among_self)
value_there (r ∷ rows) col row (inr h) =
    either (is_eq (value_cmp (column r col) (column row col))) (is_among (map_values rows col) (column row col)) (value_there rows col row h)

-- a module keeps the rows of a use once

abbrev pub KeepsOnce : Frozen → Type 0
KeepsOnce f = (d e : Kept) → Has f.uses d → Has f.uses e → d.0 ≡ e.0 → d ≡ e

pub frozen_once : (cat : Catalogue) (c : ℕ) (txn : Txn) (ts : ℕ) (copies : ℕ → CopyRows) (d : ℕ) → KeepsOnce (frozen_space cat c txn ts copies d)
frozen_once cat c txn ts copies d a b h k same =
    grind (arith, nat_tests, Kept, rows_for, Has-map_from, uses_at, Has-filter_map_from, use_there, uses_of, IsThere, there_is, one_use)

pub reduced_once : (n col : ℕ) (values : List Value) (f : Frozen) → KeepsOnce f → KeepsOnce (reduced n col values f)
reduced_once n col values f once a b h k same = grind (arith, nat_tests, Has-map_from, lessened, same_number, Kept)

-- so the rows that are reported of a use are all of it
rows_shipped : (es : List Kept) (e : Kept) → ((d : Kept) → Has es d → d.0 ≡ e.0 → d ≡ e) → Has es e
    → or_nothing (first_some (λ (z : Kept). cond (z.0 == e.0) (Some z.1) None) es) ≡ e.1
rows_shipped [] e once h = absurd h
rows_shipped (x ∷ es) e once h =
    elim (x.0 == e.0) as (λ b.
    (x.0 == e.0) ≡ b
    → or_nothing (or_else (cond b (Some x.1) None) (first_some (λ (z : Kept). cond (z.0 == e.0) (Some z.1) None) es)) ≡ e.1) [
      | true ↦ λ q. ap (λ (z : Kept). z.1) (once x (inl refl) ((Decides-eqb x.0 e.0).0 q))
      | false ↦ λ q. elim h [
        | inl same ↦ let own : (x.0 == e.0) ≡ true = (Decides-eqb x.0 e.0).1 (ap (λ (z : Kept). z.0) same) in absurd cc
        | inr later ↦ rows_shipped es e (λ d k n. once d (inr k) n) later
      ]
    ] refl

-- what a module tells has the value of each row that it holds
pub tells_all : (f : Frozen) → KeepsOnce f → (source : Ref) → TellsAll f source (values_in (rows_of source.part f) source.column)
tells_all f once source row h =
    let k = has_row f source.part row h in
    let rows : rows_of source.part f ≡ (k.entry).1 =
    ap (λ n. rows_of n f) (sym k.number) ∙ rows_shipped f.uses k.entry (λ d there same. once d k.entry there k.there same) k.there in
    new_among [] (map_values (rows_of source.part f) source.column) (column row source.column)
    (value_there (rows_of source.part f) source.column row (subst (λ rs. Has rs row) (sym rows) k.has))

-- also later, where it holds no more than then
pub tells_later : (before now : Frozen) (source : Ref) (values : List Value)
    → ((row : Row) → Has (all_rows now) (source.part, row) → Has (all_rows before) (source.part, row))
    → TellsAll before source values → TellsAll now source values
tells_later before now source values fewer all row h = all row (fewer row h)
