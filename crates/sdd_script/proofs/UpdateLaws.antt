-- Updates and deletes: what is read is spelled and fits, and what is spelled and fits is read.
use Rattle.sdd_script.proofs.All.{Add, All-from_recursion, AllByRecursion, Assign, AssignsValue, Catalogue, Comparison, Condition, Delete, FitsAssign, FitsCondition, FitsStatement, HoldsValue, HoldsValues, IsRelation, List, Ok, Plain, RelNo, Setting, Some, Stmt, To, Update, Word, [], along, arith, assign_of, bind_ok, both_hold, codes, column_word, comparisons, conditions_form, conditions_of, delete_of, from_key, is_free, is_key, length, map, name_of_relation, not_empty, ok_is, own_column, recursion_from_All, refl, rel_no, relation_of, relation_word, sets_words, settings, signed_decimal, subst, true, up_to, update_of, value_word, where_words, ◌&&◌, ◌++◌, ◌∷◌, ◌≡◌, ◌≤◌}
use Rattle.sdd_script.specs.Statements.{update_of_parts}
use Rattle.sdd_script.proofs.StepLaws.{must_then, known_then}
use Rattle.sdd_script.proofs.WordLooks.{name_free, value_free, number_free}
use Rattle.sdd_script.proofs.WordCuts.{NonePasses, joined_again, key_is_that}
use Rattle.sdd_script.proofs.UseLaws.{IsKnown, relation_takes, relation_again}
use Rattle.sdd_script.proofs.RefLaws.{AreParts, column_word_is}
use Rattle.sdd_script.proofs.ConditionLaws.{conditions_take, conditions_again, comparison_for, form_again}
use Rattle.sdd_script.proofs.AssignLaws.{assigns_take, assigns_again, setting_for}
use Rattle.sdd_script.proofs.QueryLaws.{IsStatement, update_limits, delete_limits, before_where, from_where, free_no_key}
use Rattle.sdd_script.proofs.AssignLaws as assigning

update_words : (a b : Word) (c d e f : List Word) → a ≡ b → c ≡ d → e ≡ f
    → Plain (codes "update") ∷ a ∷ Plain (codes "set") ∷ (c ++ e) ≡ Plain (codes "update") ∷ b ∷ Plain
    (codes "set") ∷ (d ++ f)
update_words a b c d e f p q r = cc

sets_some : (cat : Catalogue) (rel : RelNo) (sets : List Assign) → not_empty (sets_words cat rel sets) ≡ true → 1 ≤ length sets
sets_some cat rel [] e = absurd cc
sets_some cat rel (a ∷ sets) e = omega arith

some_sets_words : (cat : Catalogue) (rel : RelNo) (sets : List Assign) → 1 ≤ length sets → not_empty (sets_words cat rel sets) ≡ true
some_sets_words cat rel [] h = absurd (omega arith)
some_sets_words cat rel (To column value ∷ sets) h = refl
some_sets_words cat rel (Add column by ∷ sets) h = refl

-- ---- update

update_parts_take : (cat : Catalogue) (name : Word) (sets rest : List Word) (ss : List Setting)
    (cs : List Comparison) (s : Stmt) → not_empty sets ≡ true → settings sets ≡ Some ss
    → comparisons (codes "where") rest ≡ Some cs
    → update_of_parts cat name ss cs ≡ Ok s → IsStatement cat (codes "update") (name ∷ Plain (codes "set") ∷ (sets ++ rest)) s
unfolding update_of_parts
update_parts_take cat name sets rest ss cs s some set_form form e =
    let a = known_then _ (relation_of cat name) _ s e in
    let rel : RelNo = rel_no a.0 in
    let b = bind_ok (along (λ i s. assign_of cat a.0 s) 0 ss) _ s a.2 in
    let c = bind_ok (conditions_of cat (Some a.0 ∷ []) cs) _ s b.2 in
    let t = relation_takes cat name a.0 a.1 in
    let g = assigns_take cat rel sets ss b.0 set_form b.1 in
    let d = conditions_take cat (rel ∷ []) (codes "where") rest cs c.0 form c.1 in
    let some_sets : 1 ≤ length b.0 = sets_some cat rel b.0 (subst (λ (l : List Word). not_empty l ≡ true) g.spelled some) in
    subst (λ (x : Stmt). IsStatement cat (codes "update") (name ∷ Plain (codes "set") ∷ (sets ++ rest)) x) (ok_is (Update rel b.0 c.0) s c.2) (record {
      spelled = update_words name (relation_word cat rel) sets (sets_words cat rel b.0) rest (where_words cat (rel ∷ []) c.0) t.spelled g.spelled d.spelled;
      values = (All-from_recursion AssignsValue b.0 g.values, All-from_recursion HoldsValue c.0 d.values);
      fits = λ before u lim. let l = update_limits before rel b.0 c.0 u lim in (
        t.there,
        (some_sets, l.1),
        All-from_recursion (FitsAssign cat rel.0) b.0 g.fits,
        (l.0, All-from_recursion (FitsCondition cat (rel ∷ [])) c.0 d.fits),
      );
    })

pub update_takes : (cat : Catalogue) (words : List Word) (s : Stmt) → update_of cat words ≡ Ok s → IsStatement cat (codes "update") words s
update_takes cat (name ∷ key ∷ words) s e =
    let sets : List Word = up_to (codes "where") words in
    let rest : List Word = from_key (codes "where") words in
    let a = must_then _ (is_key (codes "set") key) _ s e in
    let b = must_then _ (is_free name && not_empty sets) _ s a.1 in
    let c = known_then _ (settings sets) _ s b.1 in
    let d = known_then _ (conditions_form rest) _ s c.2 in
    let u = update_parts_take cat name sets rest c.0 d.0 s (both_hold (is_free name) (not_empty sets) b.0).1 c.1 d.1 d.2 in
    grind (arith, key_is_that, joined_again)
update_takes cat _ s e = absurd cc

pub record FitsUpdate (cat : Catalogue) (rel : RelNo) (sets : List Assign) (conds : List Condition) : Type 0 where
  pub parts : AreParts cat (rel ∷ [])
  pub relation : IsRelation cat rel.0
  pub some_sets : 1 ≤ length sets
  pub sets_fit : AllByRecursion (FitsAssign cat rel.0) sets
  pub sets_hold : AllByRecursion AssignsValue sets
  pub conds_fit : AllByRecursion (FitsCondition cat (rel ∷ [])) conds
  pub conds_hold : AllByRecursion HoldsValue conds

pub one_part : (cat : Catalogue) (rel : RelNo) → IsRelation cat rel.0 → AreParts cat (rel ∷ [])
one_part cat rel h = record { there = All-from_recursion (λ (r : RelNo). IsRelation cat r.0) (rel ∷ []) (h, tt); few = omega arith }

pub update_fits : (cat : Catalogue) (rel : RelNo) (sets : List Assign) (conds : List Condition)
    → FitsStatement cat (Update rel sets conds) → HoldsValues (Update rel sets conds) → FitsUpdate cat rel sets conds
update_fits cat rel sets conds h v = grind (arith, one_part, recursion_from_All)

update_parts_again : (cat : Catalogue) → IsKnown cat → (rel : RelNo) (sets : List Assign) (conds : List Condition) → FitsUpdate cat rel sets conds
    → update_of_parts cat (relation_word cat rel) (map (setting_for cat rel) sets) (map (comparison_for cat (rel ∷ [])) conds) ≡ Ok (Update rel sets conds)
unfolding update_of_parts
update_parts_again cat k rel sets conds h =
    rw (
      relation_again cat k rel.0 h.relation,
      assigns_again cat k rel h.parts sets h.sets_fit h.sets_hold,
      conditions_again cat k (rel ∷ []) h.parts conds h.conds_fit h.conds_hold,
    ) refl

sets_not_where : (cat : Catalogue) → IsKnown cat → (rel : RelNo) → AreParts cat (rel ∷ [])
    → (sets : List Assign) → AllByRecursion (FitsAssign cat rel.0) sets → AllByRecursion AssignsValue sets
    → NonePasses (is_key (codes "where")) (sets_words cat rel sets)
sets_not_where cat k rel p [] h v = tt
sets_not_where cat k rel p (To column value ∷ sets) h v =
    let w = column_word_is cat k (rel ∷ []) (own_column column) p ((omega arith, omega arith), h.0.0) in (
      free_no_key (codes "where") (column_word cat (rel ∷ []) (own_column column)) refl w.free,
      (
        refl,
        (
          free_no_key (codes "where") (value_word value) refl (value_free value v.0),
          sets_not_where cat k rel p sets h.1 v.1,
        ),
      ),
    )
sets_not_where cat k rel p (Add column by ∷ sets) h v =
    let w = column_word_is cat k (rel ∷ []) (own_column column) p ((omega arith, omega arith), h.0.0) in (
      free_no_key (codes "where") (column_word cat (rel ∷ []) (own_column column)) refl w.free,
      (
        refl,
        (
          free_no_key (codes "where") (Plain (signed_decimal by)) refl
              (number_free by v.0),
          sets_not_where cat k rel p sets h.1 v.1,
        ),
      ),
    )

pub update_again : (cat : Catalogue) → IsKnown cat → (rel : RelNo) (sets : List Assign) (conds : List Condition) → FitsUpdate cat rel sets conds
    → update_of cat (relation_word cat rel ∷ Plain (codes "set") ∷ (sets_words cat rel sets ++ where_words cat (rel ∷ []) conds)) ≡ Ok (Update rel sets conds)
update_again cat k rel sets conds h =
    let none = sets_not_where cat k rel h.parts sets h.sets_fit h.sets_hold in
    let front : List Word = sets_words cat rel sets in
    rw (
      before_where cat (rel ∷ []) front conds none,
      from_where cat (rel ∷ []) front conds none,
      name_free (name_of_relation cat rel.0) (k.relation_name rel.0 h.relation),
      some_sets_words cat rel sets h.some_sets,
      assigning.form_again cat k rel h.parts sets h.sets_fit h.sets_hold,
      form_again cat k (rel ∷ []) h.parts (codes "where") conds h.conds_fit h.conds_hold,
    ) (update_parts_again cat k rel sets conds h)

-- ---- delete

pub delete_takes : (cat : Catalogue) (words : List Word) (s : Stmt) → delete_of cat words ≡ Ok s → IsStatement cat (codes "delete") words s
delete_takes cat [] s e = absurd cc
delete_takes cat (name ∷ rest) s e =
    let a = must_then _ (is_free name) _ s e in
    let b = known_then _ (conditions_form rest) _ s a.1 in
    let c = known_then _ (relation_of cat name) _ s b.2 in
    let d = bind_ok (conditions_of cat (Some c.0 ∷ []) b.0) _ s c.2 in
    let t = relation_takes cat name c.0 c.1 in
    let f = conditions_take cat (rel_no c.0 ∷ []) (codes "where") rest b.0 d.0 b.1 d.1 in
    rw (← ok_is (Delete (rel_no c.0) d.0) s d.2) (record {
      spelled = cc;
      values = All-from_recursion HoldsValue d.0 f.values;
      fits = λ before u lim. (t.there, (delete_limits before (rel_no c.0) d.0 u lim, All-from_recursion (FitsCondition cat (rel_no c.0 ∷ [])) d.0 f.fits));
    })

pub delete_again : (cat : Catalogue) → IsKnown cat → (rel : RelNo) (conds : List Condition)
    → FitsStatement cat (Delete rel conds) → HoldsValues (Delete rel conds)
    → delete_of cat (relation_word cat rel ∷ where_words cat (rel ∷ []) conds) ≡ Ok (Delete rel conds)
delete_again cat k rel conds h v =
    let p = one_part cat rel h.0 in
    let fits = recursion_from_All (FitsCondition cat (rel ∷ [])) conds h.1.1 in
    let hold = recursion_from_All HoldsValue conds v in
    rw (
      name_free (name_of_relation cat rel.0) (k.relation_name rel.0 h.0),
      form_again cat k (rel ∷ []) p (codes "where") conds fits hold,
      relation_again cat k rel.0 h.0,
      conditions_again cat k (rel ∷ []) p conds fits hold,
    ) refl
