-- Conditions: what is read is spelled and fits, and what is spelled and fits is read.
use Rattle.sdd_script.proofs.All.{AllByRecursion, Answers, Bool, Catalogue, Comparison, Condition, Const, FitsCondition, Found, HoldsValue, List, None, Ok, Op, Option, Parts, Plain, RelNo, Result, Same, Some, Word, WorkRule, [], along_ok, ap, arith, bind_ok, bytes_eq-Decides, codes, column_of_use, column_word, comparison_of, cond, condition_of, condition_words, conditions_of, conditions_words, const_of, false, is_free, is_key, looks_like_column, map, names_column, ok_along, ok_is, op_in, op_of, op_word, option_map, refl, same_of, sym, true, value_of, value_word, ℕ, ◌&&◌, ◌+◌, ◌∙◌, ◌∷◌, ◌≡◌}
use Rattle.sdd_words.specs.Forms.{comparisons, joined}
use Rattle.sdd_script.proofs.StepLaws.{must_then, some_of}
use Rattle.sdd_script.proofs.ValueLaws.{value_takes, value_again, same_kind, kind_same}
use Rattle.sdd_script.proofs.WordCuts.{key_is_that, is_key_again}
use Rattle.sdd_script.proofs.WordLooks.{value_free, value_names_no_column}
use Rattle.sdd_script.proofs.UseLaws.{IsKnown}
use Rattle.sdd_script.proofs.RefLaws.{parts_for, AreParts, IsRef, ref_takes, ref_again, column_word_is, IsNaming, naming}
use Rattle.sdd_lang.specs.base.declared.restriction.Op.TheVariants as ops

-- ---- the form

-- the words of comparisons
abbrev pub compared : List ℕ → List Comparison → List Word
compared key [] = []
compared key (c ∷ cs) = Plain key ∷ c.left ∷ Plain (op_word c.op) ∷ c.right ∷ compared (codes "and") cs

abbrev pub LooksRight : Comparison → Type 0
LooksRight c = (looks_like_column c.left ≡ true) × (is_free c.right ≡ true)

op_is : (x y : Op) → some_of x ≡ some_of y → x ≡ y
op_is x y e = cc

pub list_is : {A : Type 0} (x y : List A) → some_of x ≡ some_of y → x ≡ y
list_is x y e = cc

op_bytes : (bytes : List ℕ) (op : Op) → op_in bytes ≡ Some op → bytes ≡ op_word op
op_bytes bytes op e = grind (arith, bytes_eq-Decides, op_word)

op_again : (op : Op) → op_of (Plain (op_word op)) ≡ Some op
op_again op = grind arith

record IsComparison (key : List ℕ) (k left op right : Word) (c : Comparison) : Type 0 where
  key_is : k ≡ Plain key
  left_is : left ≡ c.left
  op_is : op ≡ Plain (op_word c.op)
  right_is : right ≡ c.right
  looks : LooksRight c

comparison_some : (left right w : Word) (o : Option Op) (c : Comparison) → op_of w ≡ o
    → option_map (λ op. record { left = left; op = op; right = right }) o ≡ Some c → (left ≡ c.left)
    × (w ≡ Plain (op_word c.op)) × (right ≡ c.right)
comparison_some left right w o c p e = grind (arith, op_bytes)

comparison_if : (key : List ℕ) (k left op right : Word) (c : Comparison) (b : Bool) → (is_key key k && looks_like_column left && is_free right) ≡ b
    → cond b (option_map (λ o. record { left = left; op = o; right = right }) (op_of op)) None ≡ Some c → IsComparison key k left op right c
comparison_if key k left op right c false t e = absurd cc
comparison_if key k left op right c true t e =
    let s = comparison_some left right op (op_of op) c refl e in
    grind (arith, key_is_that)

pub record AreCompared (key : List ℕ) (ws : List Word) (cs : List Comparison) : Type 0 where
  pub spelled : ws ≡ compared key cs
  pub looks : AllByRecursion LooksRight cs

pub record IsJoined {A : Type 0} (o : Option A) (os : Option (List A)) (xs : List A) : Type 0 where
  pub head : A
  pub rest : List A
  pub first : o ≡ Some head
  pub others : os ≡ Some rest
  pub whole : head ∷ rest ≡ xs

pub joined_is : {A : Type 0} (o : Option A) (os : Option (List A)) (xs : List A) → joined o os ≡ Some xs → IsJoined o os xs
joined_is o os xs e = grind (arith, list_is)

pub comparisons_take : (key : List ℕ) (ws : List Word) (cs : List Comparison) → comparisons key ws ≡ Some cs → AreCompared key ws cs
unfolding comparisons
comparisons_take key [] cs e = rw (← list_is [] cs e) (record { spelled = refl; looks = tt })
comparisons_take key (k ∷ left ∷ op ∷ right ∷ more) cs e =
    let j = joined_is (comparison_of key k left op right) (comparisons (codes "and") more) cs e in
    let one = comparison_if key k left op right j.head _ refl j.first in
    let rest = comparisons_take (codes "and") more j.rest j.others in
    rw (← j.whole) (record { spelled = cc; looks = (one.looks, rest.looks) })
comparisons_take key (a ∷ _) cs e = absurd cc

pub comparisons_again : (key : List ℕ) (cs : List Comparison) → AllByRecursion LooksRight cs → comparisons key (compared key cs) ≡ Some cs
unfolding comparisons
comparisons_again key [] h = refl
comparisons_again key (c ∷ cs) h = grind (arith, is_key_again, op_again, (comparisons_again (codes "and") cs h.1))

-- ---- the conditions

pub record IsCondition (cat : Catalogue) (rels : List RelNo) (c : Comparison) (d : Condition) : Type 0 where
  pub spelled : c.left ∷ Plain (op_word c.op) ∷ c.right ∷ [] ≡ condition_words cat rels d
  pub fits : FitsCondition cat rels d
  pub value : HoldsValue d

same_takes : (cat : Catalogue) (rels : List RelNo) (c : Comparison) (left : Found) (d : Condition)
    → IsRef cat rels c.left left → IsNaming c.op c.right → same_of cat (parts_for rels) left c.right ≡ Ok d
    → IsCondition cat rels c d
same_takes cat rels c left d l n e = grind (arith, bind_ok, parts_for, ref_takes, must_then, same_kind, IsCondition, ok_is)

const_takes : (cat : Catalogue) (rels : List RelNo) (c : Comparison) (left : Found) (d : Condition)
    → IsRef cat rels c.left left → const_of left c.op c.right ≡ Ok d → IsCondition cat rels c d
const_takes cat rels c left d l e =
    let a = bind_ok (value_of (Some left.kind) c.right) _ d e in
    let v = value_takes left.kind c.right a.0 a.1 in
    rw (← ok_is (Const left.at c.op a.0) d a.2) (record { spelled = cc; fits = (l.fits, v.same ∙ sym l.kind); value = v.fits })

condition_if : (cat : Catalogue) (rels : List RelNo) (c : Comparison) (left : Found) (d : Condition)
    (b : Bool) → names_column c.op c.right ≡ b → IsRef cat rels c.left left
    → cond b (same_of cat (parts_for rels) left c.right) (const_of left c.op c.right) ≡ Ok d → IsCondition cat rels c d
condition_if cat rels c left d true t l e = same_takes cat rels c left d l (naming c.op c.right t) e
condition_if cat rels c left d false t l e = const_takes cat rels c left d l e

pub condition_takes : (cat : Catalogue) (rels : List RelNo) (c : Comparison) (d : Condition) → LooksRight c
    → condition_of cat (parts_for rels) c ≡ Ok d → IsCondition cat rels c d
condition_takes cat rels c d looks e =
    let a = bind_ok (column_of_use cat (parts_for rels) c.left) _ d e in
    condition_if cat rels c a.0 d (names_column c.op c.right) refl (ref_takes cat rels c.left a.0 looks.0 a.1) a.2

pub record AreConditions (cat : Catalogue) (rels : List RelNo) (key : List ℕ) (ws : List Word) (ds : List Condition) : Type 0 where
  pub spelled : ws ≡ conditions_words key cat rels ds
  pub fits : AllByRecursion (FitsCondition cat rels) ds
  pub values : AllByRecursion HoldsValue ds

abbrev reads : Catalogue → Parts → ℕ → Comparison → Result Condition WorkRule
reads cat parts i c = condition_of cat parts c

of_answers : (cat : Catalogue) (rels : List RelNo) (key : List ℕ) (i : ℕ) (cs : List Comparison)
    (ds : List Condition) → AllByRecursion LooksRight cs → Answers (reads cat (parts_for rels)) i cs ds
    → AreConditions cat rels key (compared key cs) ds
of_answers cat rels key i [] [] looks h = record { spelled = refl; fits = tt; values = tt }
of_answers cat rels key i (c ∷ cs) (d ∷ ds) looks h =
    let one = condition_takes cat rels c d looks.0 h.0 in
    let more = of_answers cat rels (codes "and") (i + 1) cs ds looks.1 h.1 in
    grind arith
of_answers cat rels key i _ _ looks h = absurd h

-- the conditions that were read, with their words
pub conditions_take : (cat : Catalogue) (rels : List RelNo) (key : List ℕ) (ws : List Word)
    (cs : List Comparison) (ds : List Condition) → comparisons key ws ≡ Some cs
    → conditions_of cat (parts_for rels) cs ≡ Ok ds → AreConditions cat rels key ws ds
conditions_take cat rels key ws cs ds form e =
    let f = comparisons_take key ws cs form in
    rw f.spelled (of_answers cat rels key 0 cs ds f.looks (along_ok (reads cat (parts_for rels)) 0 cs ds e))

-- the comparison that a condition is
abbrev pub comparison_for : Catalogue → List RelNo → Condition → Comparison
comparison_for cat rels (Const left op value) = record { left = column_word cat rels left; op = op; right = value_word value }
comparison_for cat rels (Same left right) = record { left = column_word cat rels left; op = ops.Eq; right = column_word cat rels right }

looks_again : (cat : Catalogue) → IsKnown cat → (rels : List RelNo) → AreParts cat rels → (d : Condition)
    → FitsCondition cat rels d → HoldsValue d → LooksRight (comparison_for cat rels d)
looks_again cat k rels h d fits v = grind (arith, column_word_is, value_free)

condition_again : (cat : Catalogue) → IsKnown cat → (rels : List RelNo) → AreParts cat rels
    → (d : Condition) → FitsCondition cat rels d → HoldsValue d → condition_of cat (parts_for rels)
    (comparison_for cat rels d) ≡ Ok d
condition_again cat k rels h d fits v = grind (arith, ref_again, value_names_no_column, value_again, column_word_is, kind_same)

words_same : (cat : Catalogue) (rels : List RelNo) (key : List ℕ) (ds : List Condition)
    → conditions_words key cat rels ds ≡ compared key (map (comparison_for cat rels) ds)
words_same cat rels key [] = refl
words_same cat rels key (d ∷ ds) = grind (arith, (words_same cat rels (codes "and") ds))

all_look : (cat : Catalogue) → IsKnown cat → (rels : List RelNo) → AreParts cat rels → (ds : List Condition)
    → AllByRecursion (FitsCondition cat rels) ds → AllByRecursion HoldsValue ds → AllByRecursion LooksRight
    (map (comparison_for cat rels) ds)
all_look cat k rels h [] fits v = tt
all_look cat k rels h (d ∷ ds) fits v = (looks_again cat k rels h d fits.0 v.0, all_look cat k rels h ds fits.1 v.1)

all_read : (cat : Catalogue) → IsKnown cat → (rels : List RelNo) → AreParts cat rels
    → (i : ℕ) (ds : List Condition) → AllByRecursion (FitsCondition cat rels) ds
    → AllByRecursion HoldsValue ds → Answers (reads cat (parts_for rels)) i
    (map (comparison_for cat rels) ds) ds
all_read cat k rels h i [] fits v = tt
all_read cat k rels h i (d ∷ ds) fits v = (condition_again cat k rels h d fits.0 v.0, all_read cat k rels h (i + 1) ds fits.1 v.1)

pub form_again : (cat : Catalogue) → IsKnown cat → (rels : List RelNo) → AreParts cat rels
    → (key : List ℕ) (ds : List Condition) → AllByRecursion (FitsCondition cat rels) ds
    → AllByRecursion HoldsValue ds → comparisons key (conditions_words key cat rels ds) ≡ Some
    (map (comparison_for cat rels) ds)
form_again cat k rels h key ds fits v = ap (comparisons key) (words_same cat rels key ds)
    ∙ comparisons_again key (map (comparison_for cat rels) ds) (all_look cat k rels h ds fits v)

pub conditions_again : (cat : Catalogue) → IsKnown cat → (rels : List RelNo) → AreParts cat rels
    → (ds : List Condition) → AllByRecursion (FitsCondition cat rels) ds → AllByRecursion HoldsValue ds
    → conditions_of cat (parts_for rels) (map (comparison_for cat rels) ds) ≡ Ok ds
conditions_again cat k rels h ds fits v = ok_along (reads cat (parts_for rels)) 0 (map (comparison_for cat rels) ds) ds (all_read cat k rels h 0 ds fits v)
