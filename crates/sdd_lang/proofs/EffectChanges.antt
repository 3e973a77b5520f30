-- The changes of an effect: they ascend, each is of an item, in the write set, and of an item there is one.
use Rattle.sdd_lang.proofs.All.{All, All-from_recursion, AllByRecursion, ArePlaced, Assign, Catalogue, Change, Changed, ChangesItems, Condition, Database, Delete, Effect, FitsCondition, FitsStatement, FitsTxn, FragNo, IsChange, IsDatabase, IsEntry, IsIn, IsRelation, IsSoundCatalogue, IsStrictlySortedBy, Item, Less, LieIn, List, None, OneAnItem, Option, Put, PutsHeld, Query, RelNo, Row, Some, Stmt, Txn, Update, [], answer, ap, append-nil, arith, at_in, change_of, chosen, contains, each_image, effect, effect_from, flat_map, fragment_at, fragment_of, fragments_for, get_or, in_range, inl, inr, item_cmp, item_of, key_in, keys_of, map, meets_all, or_holds, recursion_from_All, refl, restrictions_of, sorted_tail, subst, sym, tied_itself, true, with_change, with_deletes, with_updates, write_set, written_by, ℕ, ℤ, ◌&&◌, ◌++◌, ◌+◌, ◌==◌, ◌∙◌, ◌∷◌, ◌≡◌}
use Rattle.sdd_lang.proofs.KeyRanges.{fragment_holds, key_in_range}
use Rattle.sdd_lang.proofs.Pushdown.{and_parts, parts_meet}
use Rattle.sdd_lang.proofs.ReadSetDecides.{at_has, ascending_back, each_both, lies_in_use}
use Rattle.sdd_lang.proofs.SortedEntries.{item_cmp_total, item_cmp_exact, inserted_sorted, sorted_nil, each_inserted, above_first}
use Rattle.sdd_lang.proofs.StaysDatabase.{effect_changes}
pub use Rattle.sdd_lang.proofs.SortedEntries.{each_in}

-- they ascend

abbrev Ascending : Changed → Type 0
Ascending changed = IsStrictlySortedBy item_cmp (keys_of changed)

-- changes that are made of ascending ones
pub record AreMade (changes : List Change) : Type 0 where
  pub changed : Changed
  pub are : changes ≡ map change_of changed
  pub ascend : Ascending changed

change_ascends : (cat : Catalogue) (changed : Changed) (rel : ℕ) (key : ℤ) (row : Option Row) → Ascending changed
    → Ascending (with_change cat changed rel key row)
change_ascends cat changed rel key row s = inserted_sorted item_cmp item_cmp_total changed (fragment_of cat rel key, key) row s

deletes_ascend : (cat : Catalogue) (changed : Changed) (es : Database) → Ascending changed → Ascending (with_deletes cat changed es)
deletes_ascend cat changed [] s = s
deletes_ascend cat changed (e ∷ es) s = deletes_ascend cat (with_change cat changed e.0.0 e.0.1 None) es (change_ascends cat changed e.0.0 e.0.1 None s)

updates_ascend : (cat : Catalogue) (sets : List Assign) (changed next : Changed) (es : Database) → Ascending changed
    → with_updates cat sets changed es ≡ Some next → Ascending next
updates_ascend cat sets changed next [] s e = let same : changed ≡ next = cc in subst Ascending same s
updates_ascend cat sets changed next (f ∷ es) s e =
    let rest : (row : Row) → with_updates cat sets (with_change cat changed f.0.0 f.0.1 (Some row)) es ≡ Some next → Ascending next =
    λ row. updates_ascend cat sets (with_change cat changed f.0.0 f.0.1 (Some row)) next es (change_ascends cat changed f.0.0 f.0.1 (Some row) s) in
    grind (arith, rest)

pub effect_made : (cat : Catalogue) (db : Database) (statements : List Stmt) (answers : List (List Row)) (changed : Changed) → Ascending changed
    → AreMade (effect_from cat db statements answers changed).changes
effect_made cat db [] answers changed s = record { changed = changed; are = refl; ascend = s }
effect_made cat db (Put rel row ∷ rest) answers changed s =
    effect_made cat db rest answers (with_change cat changed rel.0 (key_in cat rel.0 row) (Some row)) (change_ascends cat changed rel.0 _ (Some row) s)
effect_made cat db (Query out rels conds ∷ rest) answers changed s =
    let none : AreMade [] = record { changed = []; are = refl; ascend = sorted_nil item_cmp } in
    grind (arith, none, (effect_made cat db rest (answers ++ answer db out rels conds ∷ []) changed s))
effect_made cat db (Update rel sets conds ∷ rest) answers changed s =
    let none : AreMade [] = record { changed = []; are = refl; ascend = sorted_nil item_cmp } in
    let later : (next : Changed) → with_updates cat sets changed (chosen db rel.0 conds) ≡ Some next → AreMade (effect_from cat db rest answers next).changes =
    λ next h. effect_made cat db rest answers next (updates_ascend cat sets changed next (chosen db rel.0 conds) s h) in
    grind (arith, none, later)
effect_made cat db (Delete rel conds ∷ rest) answers changed s =
    effect_made cat db rest answers (with_deletes cat changed (chosen db rel.0 conds)) (deletes_ascend cat changed (chosen db rel.0 conds) s)

-- members

in_map : {A B : Type 0} (f : A → B) (xs : List A) (y : B) → IsIn y (map f xs) → (x : A) × IsIn x xs × (y ≡ f x)
in_map f [] y h = absurd h
in_map f (x ∷ xs) y (inl e) = (x, inl refl, e)
in_map f (x ∷ xs) y (inr h) = let r = in_map f xs y h in (r.0, inr r.1, r.2)

-- an item has one change

pub not_below_itself : (i j : Item) → i ≡ j → item_cmp i j ≡ Less → ⊥
not_below_itself i j same less = grind (arith, tied_itself, item_cmp_total)

one_entry : (es : Changed) (d e : (ℕ × ℤ) × Option Row) → Ascending es → IsIn d es → IsIn e es → d.0 ≡ e.0 → d ≡ e
one_entry [] d e sorted h k same = absurd h
one_entry (f ∷ es) d e sorted (inl a) (inl b) same = a ∙ sym b
one_entry (f ∷ es) d e sorted (inl a) (inr k) same = grind (arith, not_below_itself, above_first item_cmp f es e sorted k)
one_entry (f ∷ es) d e sorted (inr h) (inl b) same = grind (arith, not_below_itself, above_first item_cmp f es d sorted h)
one_entry (f ∷ es) d e sorted (inr h) (inr k) same = one_entry es d e (sorted_tail item_cmp f.0 (keys_of es) sorted) h k same

-- an item of a relation is of its fragment
pub entry_placed : (cat : Catalogue) → IsSoundCatalogue cat → (rel : ℕ) (key : ℤ) → IsRelation cat rel → in_range key ≡ true
    → (fragment_at cat (fragment_of cat rel key)).rel.0 ≡ rel
entry_placed cat sound rel key there held = (fragment_holds cat sound rel key there.0 there.1 (key_in_range key held)).there.rel_is

module _ (cat : Catalogue) (sound : IsSoundCatalogue cat) (txn : Txn) (fits : FitsTxn cat txn) (held : All PutsHeld txn.statements) (db : Database) (is : IsDatabase cat db) where
  -- each change is of an item
  pub changes_items : ChangesItems cat (effect cat db txn)
  changes_items = grind (arith, effect_changes, recursion_from_All)

  pub change_is : (c : Change) → IsIn c (effect cat db txn).changes → IsChange cat ((c.frag.0, c.key), c.row)
  change_is c h = each_in (λ (c : Change). IsChange cat ((c.frag.0, c.key), c.row)) (effect cat db txn).changes c changes_items h

  -- it names the fragment of its item
  pub effect_placed : (c : Change) → IsIn c (effect cat db txn).changes → fragment_of cat (item_of cat c).0 (item_of cat c).1 ≡ c.frag.0
  effect_placed c h = grind (arith, change_is, entry_placed)

  -- and of an item there is one
  pub effect_once : (c d : Change) → IsIn c (effect cat db txn).changes → IsIn d (effect cat db txn).changes → item_of cat c ≡ item_of cat d → c ≡ d
  effect_once c d h k same =
      let made = effect_made cat db txn.statements [] [] (sorted_nil item_cmp) in
      let x = in_map change_of made.changed c (subst (λ z. IsIn c z) made.are h) in
      let y = in_map change_of made.changed d (subst (λ z. IsIn d z) made.are k) in
      let frags : c.frag.0 ≡ d.frag.0 = sym (effect_placed c h) ∙ ap (λ (i : Item). fragment_of cat i.0 i.1) same ∙ effect_placed d k in
      let at : x.0.0 ≡ y.0.0 = grind arith in
      x.2 ∙ ap change_of (one_entry made.changed x.0 y.0 made.ascend x.1 y.1 at) ∙ sym y.2

  pub one_an_item : OneAnItem cat (effect cat db txn)
  one_an_item c d h k same = effect_once c d (subst (λ y. IsIn y ((effect cat db txn).changes)) h.2 (at_in ((effect cat db txn).changes) h.0 c h.1)) (subst (λ y. IsIn y ((effect cat db txn).changes)) k.2 (at_in ((effect cat db txn).changes) k.0 d k.1)) same

  pub are_placed : ArePlaced cat (effect cat db txn)
  are_placed i d within = effect_placed (get_or (effect cat db txn).changes i d) (at_in (effect cat db txn).changes i d within)

-- the write set

abbrev InSet : List ℕ → ℕ → Type 0
InSet ws f = contains ws f ≡ true

-- the fragments of a statement are among these
abbrev Written : Catalogue → List ℕ → Stmt → Type 0
Written cat ws s = AllByRecursion (InSet ws) (written_by cat s)

abbrev ChangedIn : List ℕ → (ℕ × ℤ) × Option Row → Type 0
ChangedIn ws c = InSet ws c.0.0

abbrev EntryIn : Catalogue → List ℕ → Item × Row → Type 0
EntryIn cat ws e = InSet ws (fragment_of cat e.0.0 e.0.1)

change_in : (cat : Catalogue) (ws : List ℕ) (changed : Changed) (rel : ℕ) (key : ℤ) (row : Option Row) → AllByRecursion (ChangedIn ws) changed
    → InSet ws (fragment_of cat rel key) → AllByRecursion (ChangedIn ws) (with_change cat changed rel key row)
change_in cat ws changed rel key row all h = each_inserted item_cmp item_cmp_exact (ChangedIn ws) changed (fragment_of cat rel key, key) row all h

deletes_in : (cat : Catalogue) (ws : List ℕ) (changed : Changed) (es : Database) → AllByRecursion (ChangedIn ws) changed
    → AllByRecursion (EntryIn cat ws) es → AllByRecursion (ChangedIn ws) (with_deletes cat changed es)
deletes_in cat ws changed [] all h = all
deletes_in cat ws changed (e ∷ es) all h = grind (arith, change_in, (deletes_in cat ws (with_change cat changed e.0.0 e.0.1 None) es (change_in cat ws changed e.0.0 e.0.1 None all h.0) h.1))

updates_in : (cat : Catalogue) (ws : List ℕ) (sets : List Assign) (changed next : Changed) (es : Database) → AllByRecursion (ChangedIn ws) changed
    → AllByRecursion (EntryIn cat ws) es → with_updates cat sets changed es ≡ Some next → AllByRecursion (ChangedIn ws) next
updates_in cat ws sets changed next [] all h e = let same : changed ≡ next = cc in subst (AllByRecursion (ChangedIn ws)) same all
updates_in cat ws sets changed next (f ∷ es) all h e =
    let rest : (row : Row) → with_updates cat sets (with_change cat changed f.0.0 f.0.1 (Some row)) es ≡ Some next → AllByRecursion (ChangedIn ws) next =
    λ row. updates_in cat ws sets (with_change cat changed f.0.0 f.0.1 (Some row)) next es (change_in cat ws changed f.0.0 f.0.1 (Some row) all h.0) h.1 in
    grind (arith, rest)

-- the rows that an update or a delete works on lie in its fragments
chosen_in : (cat : Catalogue) → IsSoundCatalogue cat → (ws : List ℕ) (rel : RelNo) (conds : List Condition) → IsRelation cat rel.0
    → AllByRecursion (FitsCondition cat (rel ∷ [])) conds
    → AllByRecursion (InSet ws) (map (λ (f : FragNo). f.0) (fragments_for cat rel.0 (restrictions_of 1 conds))) → (db : Database)
    → AllByRecursion (IsEntry cat) db → AllByRecursion (EntryIn cat ws) (chosen db rel.0 conds)
chosen_in cat sound ws rel conds there fits written [] all = tt
chosen_in cat sound ws rel conds there fits written (e ∷ es) all =
    let rest = chosen_in cat sound ws rel conds there fits written es all.1 in
    let here : ((e.0.0 == rel.0) && meets_all conds (e.1 ∷ [])) ≡ true → EntryIn cat ws e = λ h.
    let both = and_parts (e.0.0 == rel.0) (meets_all conds (e.1 ∷ [])) h in
    at_has (InSet ws) (map (λ (f : FragNo). f.0) (fragments_for cat rel.0 (restrictions_of 1 conds))) (fragment_of cat e.0.0 e.0.1) written
    (lies_in_use cat sound (rel ∷ []) 1 conds rel.0 refl there fits e all.0 both.0 (parts_meet conds (e.1 ∷ []) 1 both.1)) in
    grind (arith, here, rest)

abbrev EffectIn : List ℕ → Effect → Type 0
EffectIn ws e = AllByRecursion (λ (c : Change). InSet ws c.frag.0) e.changes

effect_in : (cat : Catalogue) → IsSoundCatalogue cat → (ws : List ℕ) (db : Database) → AllByRecursion (IsEntry cat) db
    → (statements : List Stmt) (answers : List (List Row)) (changed : Changed) → AllByRecursion (FitsStatement cat) statements
    → AllByRecursion (Written cat ws) statements → AllByRecursion (ChangedIn ws) changed → EffectIn ws (effect_from cat db statements answers changed)
effect_in cat sound ws db is [] answers changed fits written all =
    each_image change_of (ChangedIn ws) (λ (c : Change). InSet ws c.frag.0) (λ c h. h) changed all
effect_in cat sound ws db is (Put rel row ∷ rest) answers changed fits written all =
    effect_in cat sound ws db is rest answers (with_change cat changed rel.0 (key_in cat rel.0 row) (Some row)) fits.1 written.1
    (change_in cat ws changed rel.0 (key_in cat rel.0 row) (Some row) all written.0.0)
effect_in cat sound ws db is (Query out rels conds ∷ rest) answers changed fits written all =
    grind (arith, (effect_in cat sound ws db is rest (answers ++ answer db out rels conds ∷ []) changed fits.1 written.1 all))
effect_in cat sound ws db is (Update rel sets conds ∷ rest) answers changed fits written all =
    let of = rw append-nil at written.0 in
    let here = chosen_in cat sound ws rel conds fits.0.0 (recursion_from_All (FitsCondition cat (rel ∷ [])) conds fits.0.3.1) of db is in
    grind (arith, updates_in, (effect_in cat sound ws db is rest answers))
effect_in cat sound ws db is (Delete rel conds ∷ rest) answers changed fits written all =
    let of = rw append-nil at written.0 in
    let here = chosen_in cat sound ws rel conds fits.0.0 (recursion_from_All (FitsCondition cat (rel ∷ [])) conds fits.0.1.1) of db is in
    effect_in cat sound ws db is rest answers (with_deletes cat changed (chosen db rel.0 conds)) fits.1 written.1
    (deletes_in cat ws changed (chosen db rel.0 conds) all here)

each_contained : (xs zs : List ℕ) → ((f : ℕ) → contains xs f ≡ true → contains zs f ≡ true) → AllByRecursion (InSet zs) xs
each_contained [] zs h = tt
each_contained (x ∷ xs) zs h = grind (arith, or_holds, (each_contained xs zs (λ f k. h f (or_holds (x == f) (contains xs f) k))))

each_written : (cat : Catalogue) (ws : List ℕ) (statements : List Stmt) → AllByRecursion (InSet ws) (flat_map (written_by cat) statements)
    → AllByRecursion (Written cat ws) statements
each_written cat ws [] all = tt
each_written cat ws (s ∷ rest) all =
    let both = each_both (InSet ws) (written_by cat s) (flat_map (written_by cat) rest) all in (both.0, each_written cat ws rest both.1)

-- the changes of an effect lie in the transaction's write set
pub lie_in_write_set : (cat : Catalogue) → IsSoundCatalogue cat → (txn : Txn) → FitsTxn cat txn → (db : Database) → IsDatabase cat db
    → LieIn (write_set cat txn) (effect cat db txn)
lie_in_write_set cat sound txn fits db is =
    let ws : List ℕ = write_set cat txn in
    let written = each_written cat ws txn.statements (ascending_back (InSet ws) (flat_map (written_by cat) txn.statements) (each_contained ws ws (λ f h. h))) in
    All-from_recursion (λ (c : Change). contains ws c.frag.0 ≡ true) (effect cat db txn).changes
    (effect_in cat sound ws db (recursion_from_All (IsEntry cat) db is.entries) txn.statements [] []
    (recursion_from_All (FitsStatement cat) txn.statements fits.statements) written tt)
