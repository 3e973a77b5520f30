-- Statements: what is read is spelled and fits, and what is spelled and fits is read.
use Rattle.sdd_script.proofs.All.{All-from_recursion, AllByRecursion, Answers, Assign, Bool, Catalogue, Comparison, Condition, Delete, FitsCondition, FitsRef, FitsStatement, HoldsValue, HoldsValues, IsRelation, IsValue, List, Ok, Parts, Plain, Put, Query, Ref, RelNo, Result, Some, Stmt, Update, Value, Word, WorkRule, [], along, along_ok, ap, append-nil, are_free, arith, bind_ok, both_are, both_hold, codes, column_of_use, column_word, comparisons, conditions_form, conditions_of, cut_at, false, from_key, is_free, is_key, kind_of_ref, length, list_all, listed_column, look_like_columns, looks_like_column, map, not_empty, ok_along, ok_is, part_in, put_of, query_of, query_of_parts, recursion_from_All, refl, rel_no, relation_of, relation_word, row_of, row_words, statement_limits, statement_words, subst, sym, true, up_to, where_words, ℕ, ◌&&◌, ◌++◌, ◌+◌, ◌<◌, ◌>>=◌, ◌∙◌, ◌∷◌, ◌≡◌, ◌≤◌}
use Rattle.sdd_script.specs.Statements.{query_over, parts_of}
use Rattle.sdd_script.proofs.StepLaws.{must_then, known_then, of_le}
use Rattle.sdd_script.proofs.WordLooks.{name_free}
use Rattle.sdd_script.proofs.WordCuts.{NonePasses, cut_takes, cut_again, joined_again, key_is_that, before_again, from_again, all_before, none_from}
use Rattle.sdd_script.proofs.UseLaws.{IsKnown, relation_takes, relation_again}
use Rattle.sdd_script.proofs.RefLaws.{parts_for, AreParts, ref_takes, ref_again, column_word_is}
use Rattle.sdd_script.proofs.RowLaws.{FitsRowOf, row_takes, row_again, row_free}
use Rattle.sdd_script.proofs.ConditionLaws.{conditions_take, conditions_again, comparison_for, form_again}
use Rattle.sdd_script.specs.declared.fault.Counts.TheVariants as counts

-- a statement that was read of the words after its keyword
pub record IsStatement (cat : Catalogue) (key : List ℕ) (words : List Word) (s : Stmt) : Type 0 where
  pub spelled : Plain key ∷ words ≡ statement_words cat s
  pub values : HoldsValues s
  pub fits : (before : ℕ) (u : Unit {0}) → statement_limits before s ≡ Ok u → FitsStatement cat s

-- ---- limits

pub query_limits : (before : ℕ) (out : List Ref) (rels : List RelNo) (conds : List Condition) (u : Unit {0})
    → statement_limits before (Query out rels conds) ≡ Ok u → (length rels ≤ 6) × (length conds ≤ 16)
    × (length out ≤ 16)
query_limits before out rels conds u e = grind arith

pub update_limits : (before : ℕ) (rel : RelNo) (sets : List Assign) (conds : List Condition) (u : Unit {0})
    → statement_limits before (Update rel sets conds) ≡ Ok u → (length conds ≤ 16) × (length sets ≤ 16)
update_limits before rel sets conds u e = grind arith

pub delete_limits : (before : ℕ) (rel : RelNo) (conds : List Condition) (u : Unit {0}) → statement_limits before (Delete rel conds) ≡ Ok u
    → length conds ≤ 16
delete_limits before rel conds u e = grind arith

pub limits_before : (before : ℕ) (s : Stmt) (u : Unit {0}) → statement_limits before s ≡ Ok u → before < 32
limits_before before s u e = grind arith

pub limits_again : (cat : Catalogue) (before : ℕ) (s : Stmt) → before < 32 → FitsStatement cat s → statement_limits before s ≡ Ok tt
limits_again cat before s lt h = grind (arith, of_le)

-- ---- put

pub put_takes : (cat : Catalogue) (words : List Word) (s : Stmt) → put_of cat words ≡ Ok s → IsStatement cat (codes "put") words s
put_takes cat [] s e = absurd cc
put_takes cat (name ∷ words) s e =
    let a = must_then _ (is_free name && are_free words) _ s e in
    let b = bind_ok (row_of cat name words) _ s a.1 in
    let r = row_takes cat name words b.0 b.1 in
    subst (λ (x : Stmt). IsStatement cat (codes "put") (name ∷ words) x) (ok_is (Put b.0.0 b.0.1) s b.2) (record {
      spelled = ap (λ (l : List Word). Plain (codes "put") ∷ l) r.spelled;
      values = All-from_recursion IsValue b.0.1 r.fits.2;
      fits = λ before u lim. (r.fits.0, r.fits.1);
    })

pub put_again : (cat : Catalogue) → IsKnown cat → (rel : RelNo) (row : List Value) → FitsRowOf cat rel row
    → put_of cat (row_words cat rel row) ≡ Ok (Put rel row)
put_again cat k rel row h = grind (arith, row_free, row_again)

-- ---- the relations and columns of a query

abbrev part_of : Catalogue → Word → Result RelNo WorkRule
part_of cat word = part_in (relation_of cat word)

-- the relations of the parts are those of the words
parts_named : (cat : Catalogue) (i : ℕ) (words : List Word) → along (λ i p. part_in p) i (parts_of cat words) ≡ along (λ i w. part_of cat w) i words
parts_named cat i [] = refl
parts_named cat i (w ∷ ws) = ap (λ (r : Result (List RelNo) WorkRule). part_of cat w >>= λ y. r >>= λ ys. Ok (y ∷ ys)) (parts_named cat (i + 1) ws)

by_words : (cat : Catalogue) (columns rels : List Word) (cs : List Comparison) → query_of_parts cat columns rels cs
    ≡ (along (λ i w. listed_column cat (parts_of cat rels) w) 0 columns >>=
    λ out. along (λ i w. part_of cat w) 0 rels >>= λ found. conditions_of cat (parts_of cat rels) cs >>=
    λ conds. Ok (Query out found conds))
unfolding query_over
by_words cat columns rels cs = simp parts_named

part_again : (cat : Catalogue) (r : RelNo) → relation_of cat (relation_word cat r) ≡ Some r.0 → part_of cat (relation_word cat r) ≡ Ok r
part_again cat r e = rw e refl

listed_again : (cat : Catalogue) (rels : List RelNo) (r : Ref) → column_of_use cat (parts_for rels)
    (column_word cat rels r) ≡ Ok (record { at = r; kind = kind_of_ref cat rels r })
    → listed_column cat (parts_for rels) (column_word cat rels r) ≡ Ok r
listed_again cat rels r e = rw e refl

query_words : (a b c d e f : List Word) → a ≡ b → c ≡ d → e ≡ f
    → Plain (codes "query") ∷ (a ++ Plain (codes "from") ∷ (c ++ e)) ≡ Plain (codes "query") ∷
    (b ++ Plain (codes "from") ∷ (d ++ f))
query_words a b c d e f p q r = cc

parts_take : (cat : Catalogue) (i : ℕ) (words : List Word) (rels : List RelNo)
    → Answers (λ i w. part_of cat w) i words rels → (words ≡ map (relation_word cat) rels)
    × (parts_of cat words ≡ parts_for rels) × AllByRecursion (λ (r : RelNo). IsRelation cat r.0) rels
parts_take cat i [] [] h = (refl, refl, tt)
parts_take cat i (w ∷ words) (r ∷ rels) h =
    let a = known_then _ (relation_of cat w) _ r h.0 in
    let t = relation_takes cat w a.0 a.1 in
    let same : rel_no a.0 ≡ r = ok_is (rel_no a.0) r a.2 in
    let more = parts_take cat (i + 1) words rels h.1 in
    grind arith
parts_take cat i _ _ h = absurd h

parts_again : (cat : Catalogue) → IsKnown cat → (rels : List RelNo)
    → AllByRecursion (λ (r : RelNo). IsRelation cat r.0) rels → (i : ℕ) → Answers (λ i w. part_of cat w) i
    (map (relation_word cat) rels) rels
parts_again cat k [] h i = tt
parts_again cat k (r ∷ rels) h i = (part_again cat r (relation_again cat k r.0 h.0), parts_again cat k rels h.1 (i + 1))

parts_are : (cat : Catalogue) → IsKnown cat → (rels : List RelNo)
    → AllByRecursion (λ (r : RelNo). IsRelation cat r.0) rels
    → parts_of cat (map (relation_word cat) rels) ≡ parts_for rels
parts_are cat k [] h = refl
parts_are cat k (r ∷ rels) h = cc (relation_again cat k r.0 h.0, parts_are cat k rels h.1)

columns_take : (cat : Catalogue) (rels : List RelNo) (i : ℕ) (words : List Word) (out : List Ref)
    → list_all looks_like_column words ≡ true → Answers (λ i w. listed_column cat (parts_for rels) w) i
    words out → (words ≡ map (column_word cat rels) out) × AllByRecursion (FitsRef cat rels) out
columns_take cat rels i [] [] l h = (refl, tt)
columns_take cat rels i (w ∷ words) (r ∷ out) l h =
    let look = both_hold (looks_like_column w) (list_all looks_like_column words) l in
    let a = bind_ok (column_of_use cat (parts_for rels) w) _ r h.0 in
    let t = ref_takes cat rels w a.0 look.0 a.1 in
    let same : a.0.at ≡ r = ok_is a.0.at r a.2 in
    let more = columns_take cat rels (i + 1) words out look.1 h.1 in
    (cc, (rw same at t.fits, more.1))
columns_take cat rels i _ _ l h = absurd h

columns_again : (cat : Catalogue) → IsKnown cat → (rels : List RelNo) → AreParts cat rels
    → (i : ℕ) (out : List Ref) → AllByRecursion (FitsRef cat rels) out
    → Answers (λ i w. listed_column cat (parts_for rels) w) i (map (column_word cat rels) out) out
columns_again cat k rels p i [] h = tt
columns_again cat k rels p i (r ∷ out) h = (listed_again cat rels r (ref_again cat k rels r p h.0), columns_again cat k rels p (i + 1) out h.1)

-- ---- where a list of words ends

no_key : (key : List ℕ) (w : Word) (b : Bool) → is_key key w ≡ b → is_free (Plain key) ≡ false → is_free w ≡ true → is_key key w ≡ false
no_key key w b e r f = grind (arith, key_is_that)

pub free_no_key : (key : List ℕ) (w : Word) → is_free (Plain key) ≡ false → is_free w ≡ true → is_key key w ≡ false
free_no_key key w r f = no_key key w (is_key key w) refl r f

pub frees_no_key : (key : List ℕ) (ws : List Word) → is_free (Plain key) ≡ false → list_all is_free ws ≡ true → NonePasses (is_key key) ws
frees_no_key key [] r h = tt
frees_no_key key (w ∷ ws) r h = let a = both_hold (is_free w) (list_all is_free ws) h in (free_no_key key w r a.0, frees_no_key key ws r a.1)

pub before_where : (cat : Catalogue) (rels : List RelNo) (front : List Word) (conds : List Condition)
    → NonePasses (is_key (codes "where")) front
    → up_to (codes "where") (front ++ where_words cat rels conds) ≡ front
before_where cat rels front [] h = ap (up_to (codes "where")) (append-nil front) ∙ all_before (is_key (codes "where")) front h
before_where cat rels front (c ∷ conds) h = simp before_again

pub from_where : (cat : Catalogue) (rels : List RelNo) (front : List Word) (conds : List Condition)
    → NonePasses (is_key (codes "where")) front → from_key (codes "where")
    (front ++ where_words cat rels conds) ≡ where_words cat rels conds
from_where cat rels front [] h = ap (from_key (codes "where")) (append-nil front) ∙ none_from (is_key (codes "where")) front h
from_where cat rels front (c ∷ conds) h = simp from_again

-- ---- query

pub nonempty : {A : Type 0} (f : A → Word) (xs : List A) → not_empty (map f xs) ≡ true → 1 ≤ length xs
nonempty f [] e = absurd cc
nonempty f (x ∷ xs) e = omega arith

pub not_empty_again : {A : Type 0} (f : A → Word) (xs : List A) → 1 ≤ length xs → not_empty (map f xs) ≡ true
not_empty_again f [] h = absurd (omega arith)
not_empty_again f (x ∷ xs) h = refl

query_parts_take : (cat : Catalogue) (columns rels rest : List Word) (cs : List Comparison) (s : Stmt)
    → look_like_columns columns ≡ true → are_free rels ≡ true → comparisons (codes "where") rest ≡ Some cs
    → query_of_parts cat columns rels cs ≡ Ok s → IsStatement cat (codes "query") (columns ++ Plain (codes "from") ∷ (rels ++ rest)) s
query_parts_take cat columns rels rest cs s look free form e =
    let a =
    bind_ok (along (λ i w. listed_column cat (parts_of cat rels) w) 0 columns) _ s (sym (by_words cat columns rels cs) ∙ e) in
    let b = bind_ok (along (λ i w. part_of cat w) 0 rels) _ s a.2 in
    let c = bind_ok (conditions_of cat (parts_of cat rels) cs) _ s b.2 in
    let p = parts_take cat 0 rels b.0 (along_ok (λ i w. part_of cat w) 0 rels b.0 b.1) in
    let looks = both_hold (not_empty columns) (list_all looks_like_column columns) look in
    let frees = both_hold (not_empty rels) (list_all is_free rels) free in
    let o = columns_take cat b.0 0 columns a.0 looks.1
    (along_ok (λ i w. listed_column cat (parts_for b.0) w) 0 columns a.0
    (subst (λ (q : Parts). along (λ i w. listed_column cat q w) 0 columns ≡ Ok a.0) p.1 a.1)) in
    let d = conditions_take cat b.0 (codes "where") rest cs c.0 form (subst (λ (q : Parts). conditions_of cat q cs ≡ Ok c.0) p.1 c.1) in
    let some_rels : 1 ≤ length b.0 = nonempty (relation_word cat) b.0 (subst (λ (l : List Word). not_empty l ≡ true) p.0 frees.0) in
    let some_out : 1 ≤ length a.0 = nonempty (column_word cat b.0) a.0 (subst (λ (l : List Word). not_empty l ≡ true) o.0 looks.0) in
    subst (λ (x : Stmt). IsStatement cat (codes "query") (columns ++ Plain (codes "from") ∷ (rels ++ rest)) x) (ok_is (Query a.0 b.0 c.0) s c.2) (record {
      spelled = query_words columns (map (column_word cat b.0) a.0) rels (map (relation_word cat) b.0) rest (where_words cat b.0 c.0) o.0 p.0 d.spelled;
      values = All-from_recursion HoldsValue c.0 d.values;
      fits = λ before u lim. let l = query_limits before a.0 b.0 c.0 u lim in (
        (some_rels, l.0),
        All-from_recursion (λ (r : RelNo). IsRelation cat r.0) b.0 p.2,
        (some_out, l.2),
        All-from_recursion (FitsRef cat b.0) a.0 o.1,
        (l.1, All-from_recursion (FitsCondition cat b.0) c.0 d.fits),
      );
    })

pub query_takes : (cat : Catalogue) (words : List Word) (s : Stmt) → query_of cat words ≡ Ok s → IsStatement cat (codes "query") words s
query_takes cat words s e =
    let a = known_then _ (cut_at (codes "from") words) _ s e in
    let b = must_then _ (look_like_columns a.0.0 && are_free (up_to (codes "where") a.0.1)) _ s a.2 in
    let c = known_then _ (conditions_form (from_key (codes "where") a.0.1)) _ s b.1 in
    let t = both_hold (look_like_columns a.0.0) (are_free (up_to (codes "where") a.0.1)) b.0 in
    let whole = cut_takes (codes "from") words a.0.0 a.0.1 a.1 in
    let q = query_parts_take cat a.0.0 (up_to (codes "where") a.0.1) (from_key (codes "where") a.0.1) c.0 s t.0 t.1 c.1 c.2 in
    grind (arith, joined_again)

-- where a query fits
pub record FitsQuery (cat : Catalogue) (out : List Ref) (rels : List RelNo) (conds : List Condition) : Type 0 where
  pub parts : AreParts cat rels
  pub relations : AllByRecursion (λ (r : RelNo). IsRelation cat r.0) rels
  pub some_rels : 1 ≤ length rels
  pub some_out : 1 ≤ length out
  pub columns : AllByRecursion (FitsRef cat rels) out
  pub conds_fit : AllByRecursion (FitsCondition cat rels) conds
  pub conds_hold : AllByRecursion HoldsValue conds

pub query_fits : (cat : Catalogue) (out : List Ref) (rels : List RelNo) (conds : List Condition)
    → FitsStatement cat (Query out rels conds) → HoldsValues (Query out rels conds) → FitsQuery cat out rels conds
query_fits cat out rels conds h v = grind (arith, recursion_from_All)

query_parts_again : (cat : Catalogue) → IsKnown cat → (out : List Ref) (rels : List RelNo) (conds : List Condition) → FitsQuery cat out rels conds
    → query_of_parts cat (map (column_word cat rels) out) (map (relation_word cat) rels) (map (comparison_for cat rels) conds) ≡ Ok (Query out rels conds)
query_parts_again cat k out rels conds h =
    let p = parts_are cat k rels h.relations in
    let a = ok_along (λ i w. listed_column cat (parts_for rels) w) 0 (map (column_word cat rels) out) out (columns_again cat k rels h.parts 0 out h.columns) in
    let b = ok_along (λ i w. part_of cat w) 0 (map (relation_word cat) rels) rels (parts_again cat k rels h.relations 0) in
    let c = conditions_again cat k rels h.parts conds h.conds_fit h.conds_hold in
    rw (by_words cat (map (column_word cat rels) out) (map (relation_word cat) rels) (map (comparison_for cat rels) conds), p, a, b, c) refl

all_free_names : (cat : Catalogue) → IsKnown cat → (rels : List RelNo)
    → AllByRecursion (λ (r : RelNo). IsRelation cat r.0) rels → list_all is_free (map (relation_word cat) rels) ≡ true
all_free_names cat k [] h = refl
all_free_names cat k (r ∷ rels) h = grind (arith, name_free, all_free_names cat k rels h.1)

columns_look : (cat : Catalogue) → IsKnown cat → (rels : List RelNo) → AreParts cat rels → (out : List Ref)
    → AllByRecursion (FitsRef cat rels) out → (list_all looks_like_column (map (column_word cat rels) out) ≡ true)
    × (list_all is_free (map (column_word cat rels) out) ≡ true)
columns_look cat k rels p [] h = (refl, refl)
columns_look cat k rels p (r ∷ out) h = grind (arith, column_word_is, columns_look cat k rels p out h.1)

pub query_again : (cat : Catalogue) → IsKnown cat → (out : List Ref) (rels : List RelNo) (conds : List Condition) → FitsQuery cat out rels conds
    → query_of cat (map (column_word cat rels) out ++ Plain (codes "from") ∷
    (map (relation_word cat) rels ++ where_words cat rels conds)) ≡ Ok (Query out rels conds)
query_again cat k out rels conds h =
    let cols : List Word = map (column_word cat rels) out in
    let names : List Word = map (relation_word cat) rels in
    let looks = columns_look cat k rels h.parts out h.columns in
    let frees = all_free_names cat k rels h.relations in
    let none = frees_no_key (codes "where") names refl frees in
    let d : (look_like_columns cols && are_free names) ≡ true = both_are (look_like_columns cols) (are_free names)
    (both_are (not_empty cols) _ (not_empty_again (column_word cat rels) out h.some_out) looks.0)
    (both_are (not_empty names) _ (not_empty_again (relation_word cat) rels h.some_rels) frees) in
    rw (
      cut_again (codes "from") cols (names ++ where_words cat rels conds) (frees_no_key (codes "from") cols refl looks.1),
      before_where cat rels names conds none,
      from_where cat rels names conds none,
      d,
      form_again cat k rels h.parts (codes "where") conds h.conds_fit h.conds_hold,
    ) (query_parts_again cat k out rels conds h)
