-- Values: what is read is spelled and fits, and what is spelled and fits is read.
use Rattle.sdd_script.proofs.All.{AllByRecursion, Answers, Bool, Catalogue, Column, IsValue, Kind, List, None, Ok, Plain, Quoted, Relation, Result, Some, Value, Word, WorkRule, [], add-one, along_ok, ap, arith, columns_of, cond, get_or, is_of_kind, is_text, key_column, key_of, kind_of, kind_of_place, length, map, name_of_relation, number_again, number_of, number_takes, ok_along, ok_is, option_map_or, refl, relation_at, slice_get, subst, suc, text_in, true, unwrap_or-slice_get, value_of, value_word, values_of, ℕ, ◌+◌, ◌-◌, ◌∙◌, ◌∷◌, ◌≡◌}
use Rattle.sdd_script.proofs.StepLaws.{must_then, known_then}
use Rattle.sdd_lang.specs.base.declared.value.Value.TheVariants as values
use Rattle.sdd_lang.specs.catalog.declared.parts.Kind.TheVariants as kinds

-- ---- the two spellings of a relation's parts

pub part_at : {A B : Type 0} (f : A → B) (xs : List A) (i : ℕ) (d : A) → option_map_or f (slice_get xs i) (f d) ≡ f (get_or xs i d)
part_at f xs i d = (grind arith) ∙ ap f (unwrap_or-slice_get xs i d)

pub columns_are : (cat : Catalogue) (rel : ℕ) → columns_of cat rel ≡ (relation_at cat rel).columns
columns_are cat rel = part_at (λ (r : Relation). r.columns) cat.relations (rel - 1) (record { name = []; columns = []; key = 0 })

pub key_is : (cat : Catalogue) (rel : ℕ) → key_of cat rel ≡ key_column cat rel
key_is cat rel = part_at (λ (r : Relation). r.key) cat.relations (rel - 1) (record { name = []; columns = []; key = 0 })

pub name_is : (cat : Catalogue) (rel : ℕ) → name_of_relation cat rel ≡ (relation_at cat rel).name
name_is cat rel = part_at (λ (r : Relation). r.name) cat.relations (rel - 1) (record { name = []; columns = []; key = 0 })

-- ---- values

pub record IsRead (kind : Kind) (w : Word) (v : Value) : Type 0 where
  pub spelled : w ≡ value_word v
  pub same : kind_of v ≡ kind
  pub fits : IsValue v

pub kind_int : (k : Kind) → is_of_kind (Some k) kinds.Int ≡ true → kinds.Int ≡ k
kind_int k e = grind arith

pub kind_text : (k : Kind) → is_of_kind (Some k) kinds.Text ≡ true → kinds.Text ≡ k
kind_text k e = grind arith

pub same_kind : (a b : Kind) → is_of_kind (Some a) b ≡ true → a ≡ b
same_kind a b e = grind arith

pub kind_same : (a : Kind) → is_of_kind (Some a) a ≡ true
kind_same a = grind arith

pub some_text : (bytes text : List ℕ) (b : Bool) → cond b (Some bytes) None ≡ Some text → (b ≡ true) × (bytes ≡ text)
some_text bytes text b e = grind arith

pub text_takes : (bytes text : List ℕ) → text_in bytes ≡ Some text → (is_text bytes ≡ true) × (bytes ≡ text)
text_takes bytes text e = some_text bytes text (is_text bytes) e

pub value_takes : (k : Kind) (w : Word) (v : Value) → value_of (Some k) w ≡ Ok v → IsRead k w v
value_takes k (Plain bytes) v e =
    let a = known_then _ (number_of bytes) _ v e in
    let n = number_takes bytes a.0 a.1 in
    let b = must_then _ (is_of_kind (Some k) kinds.Int) _ v a.2 in
    rw (← ok_is (values.Int a.0) v b.1) (record { spelled = ap (λ (l : List ℕ). Plain l) n.0; same = kind_int k b.0; fits = n.1 })
value_takes k (Quoted text) v e = grind (arith, known_then, text_takes, must_then, ok_is, kind_text)

pub value_again : (v : Value) → IsValue v → value_of (Some (kind_of v)) (value_word v) ≡ Ok v
value_again v h = grind (arith, number_again)

-- ---- rows

abbrev at_columns : List Column → ℕ → Word → Result Value WorkRule
at_columns columns i w = value_of (kind_of_place columns i) w

shifted : (c : Column) (cs : List Column) (i : ℕ) (ws : List Word) (vs : List Value)
    → Answers (at_columns (c ∷ cs)) (i + 1) ws vs → Answers (at_columns cs) i ws vs
shifted c cs i [] [] h = tt
shifted c cs i (w ∷ ws) (v ∷ vs) h = grind (arith, at_columns, add-one, (shifted c cs (i + 1) ws vs h.1))
shifted c cs i _ _ h = absurd h

back : (c : Column) (cs : List Column) (i : ℕ) (ws : List Word) (vs : List Value)
    → Answers (at_columns cs) i ws vs → Answers (at_columns (c ∷ cs)) (i + 1) ws vs
back c cs i [] [] h = tt
back c cs i (w ∷ ws) (v ∷ vs) h = grind (arith, at_columns, add-one, (back c cs (i + 1) ws vs h.1))
back c cs i _ _ h = absurd h

abbrev pub kinds_of : List Column → List Kind
kinds_of columns = map (λ (c : Column). c.kind) columns

pub record IsRow (columns : List Column) (ws : List Word) (vs : List Value) : Type 0 where
  pub spelled : ws ≡ map value_word vs
  pub same : map kind_of vs ≡ kinds_of columns
  pub fits : AllByRecursion IsValue vs

row_of_answers : (columns : List Column) (ws : List Word) (vs : List Value)
    → Answers (at_columns columns) 0 ws vs → length ws ≡ length columns → IsRow columns ws vs
row_of_answers [] [] [] h len = record { spelled = refl; same = refl; fits = tt }
row_of_answers [] (w ∷ ws) vs h len = absurd (omega arith)
row_of_answers (c ∷ cs) [] vs h len = absurd (omega arith)
row_of_answers (c ∷ cs) (w ∷ ws) (v ∷ vs) h len =
    let one = value_takes c.kind w v h.0 in
    let more = row_of_answers cs ws vs (shifted c cs 0 ws vs h.1) (omega arith) in
    let first : w ≡ value_word v = one.spelled in
    let others : ws ≡ map value_word vs = more.spelled in
    let k : kind_of v ≡ c.kind = one.same in
    let ks : map kind_of vs ≡ kinds_of cs = more.same in
    record { spelled = cc; same = cc; fits = (one.fits, more.fits) }
row_of_answers _ _ _ h len = absurd h

pub values_take : (columns : List Column) (ws : List Word) (vs : List Value) → values_of columns ws ≡ Ok vs → length ws ≡ length columns
    → IsRow columns ws vs
values_take columns ws vs e len = row_of_answers columns ws vs (along_ok (at_columns columns) 0 ws vs e) len

heads : (k l : Kind) (ks ls : List Kind) → k ∷ ks ≡ l ∷ ls → (k ≡ l) × (ks ≡ ls)
heads k l ks ls e = (cc, cc)

answers_of_row : (columns : List Column) (vs : List Value) → map kind_of vs ≡ kinds_of columns
    → AllByRecursion IsValue vs → Answers (at_columns columns) 0 (map value_word vs) vs
    × (length (map value_word vs) ≡ length columns)
answers_of_row [] [] e h = (tt, refl)
answers_of_row (c ∷ cs) (v ∷ vs) e h =
    let k = heads (kind_of v) c.kind (map kind_of vs) (kinds_of cs) e in
    let more = answers_of_row cs vs k.1 h.1 in
    ((subst (λ (x : Kind). value_of (Some x) (value_word v) ≡ Ok v) k.0 (value_again v h.0), back c cs 0 (map value_word vs) vs more.0), ap suc more.1)
answers_of_row _ _ e h = absurd cc

pub values_again : (columns : List Column) (vs : List Value) → map kind_of vs ≡ kinds_of columns
    → AllByRecursion IsValue vs → values_of columns (map value_word vs) ≡ Ok vs
values_again columns vs e h = ok_along (at_columns columns) 0 (map value_word vs) vs (answers_of_row columns vs e h).0

pub values_length : (columns : List Column) (vs : List Value) → map kind_of vs ≡ kinds_of columns
    → AllByRecursion IsValue vs → length (map value_word vs) ≡ length columns
values_length columns vs e h = (answers_of_row columns vs e h).1
