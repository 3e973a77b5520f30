-- Rows: what is read is spelled and fits, and what is spelled and fits is read.
use Rattle.sdd_script.proofs.All.{AllByRecursion, Catalogue, FitsRow, IsRelation, IsValue, List, Ok, RelNo, Value, Word, [], ap, are_free, arith, bind_ok, both_are, columns_of, eq-eqb, eqb-true, is_free, kind_of, length, length-map, list_all, map, name_of_relation, not_empty, ok_is, refl, rel_no, relation_of, relation_word, row_words, subst, sym, true, value_word, values_of, ◌&&◌, ◌==◌, ◌∙◌, ◌∷◌, ◌≡◌, ◌≤◌}
use Rattle.sdd_script.specs.Values.{row_of}
use Rattle.sdd_script.proofs.StepLaws.{must_then, known_then}
use Rattle.sdd_script.proofs.ValueLaws.{columns_are, kinds_of, values_take, values_again, values_length}
use Rattle.sdd_script.proofs.WordLooks.{IsFine, name_fine, name_free, value_fine, value_free}
use Rattle.sdd_script.proofs.UseLaws.{IsKnown, relation_takes, relation_again}

abbrev pub FitsRowOf : Catalogue → RelNo → List Value → Type 0
FitsRowOf cat rel row = IsRelation cat rel.0 × FitsRow cat rel.0 row × AllByRecursion IsValue row

pub record IsRowOf (cat : Catalogue) (name : Word) (words : List Word) (r : RelNo × List Value) : Type 0 where
  pub spelled : name ∷ words ≡ row_words cat r.0 r.1
  pub fits : FitsRowOf cat r.0 r.1

abbrev pair_of : RelNo → List Value → RelNo × List Value
pair_of rel row = (rel, row)

pub row_takes : (cat : Catalogue) (name : Word) (words : List Word) (r : RelNo × List Value) → row_of cat name words ≡ Ok r → IsRowOf cat name words r
unfolding row_of
row_takes cat name words r e =
    let a = known_then _ (relation_of cat name) _ r e in
    let b = bind_ok (values_of (columns_of cat a.0) words) _ r a.2 in
    let c = must_then _ (length words == length (columns_of cat a.0)) _ r b.2 in
    let rel = relation_takes cat name a.0 a.1 in
    let row = values_take (columns_of cat a.0) words b.0 b.1 (eqb-true (length words) (length (columns_of cat a.0)) c.0) in
    subst (λ (x : RelNo × List Value). IsRowOf cat name words x) (ok_is (pair_of (rel_no a.0) b.0) r c.1) (record {
      spelled = cc;
      fits = (rel.there, row.same ∙ ap kinds_of (columns_are cat a.0), row.fits);
    })

pub row_again : (cat : Catalogue) → IsKnown cat → (rel : RelNo) (row : List Value) → FitsRowOf cat rel row
    → row_of cat (relation_word cat rel) (map value_word row) ≡ Ok (rel, row)
unfolding row_of
row_again cat k rel row h =
    let same : map kind_of row ≡ kinds_of (columns_of cat rel.0) = h.1 ∙ ap kinds_of (sym (columns_are cat rel.0)) in
    let a = relation_again cat k rel.0 h.0 in
    let b = values_again (columns_of cat rel.0) row same h.2 in
    let c : (length (map value_word row) == length (columns_of cat rel.0)) ≡ true =
    eq-eqb (length (map value_word row)) (length (columns_of cat rel.0))
    (values_length (columns_of cat rel.0) row same h.2) in
    rw (a, b, c) refl

-- the words of a row

all_free : (row : List Value) → AllByRecursion IsValue row → list_all is_free (map value_word row) ≡ true
all_free [] h = refl
all_free (v ∷ row) h = both_are (is_free (value_word v)) (list_all is_free (map value_word row)) (value_free v h.0) (all_free row h.1)

some_words : (row : List Value) → 1 ≤ length row → not_empty (map value_word row) ≡ true
some_words [] h = absurd (omega arith)
some_words (v ∷ row) h = refl

pub row_free : (cat : Catalogue) → IsKnown cat → (rel : RelNo) (row : List Value) → FitsRowOf cat rel row
    → (is_free (relation_word cat rel) && are_free (map value_word row)) ≡ true
row_free cat k rel row h = grind (arith, kinds_of, columns_are, values_length, length-map, name_free, some_words, all_free)

values_fine : (row : List Value) → AllByRecursion IsValue row → AllByRecursion IsFine (map value_word row)
values_fine [] h = tt
values_fine (v ∷ row) h = (value_fine v h.0, values_fine row h.1)

pub row_fine : (cat : Catalogue) → IsKnown cat → (rel : RelNo) (row : List Value) → FitsRowOf cat rel row
    → AllByRecursion IsFine (row_words cat rel row)
row_fine cat k rel row h = (name_fine (name_of_relation cat rel.0) (k.relation_name rel.0 h.0), values_fine row h.2)
