-- Assignments: what is read is spelled and fits, and what is spelled and fits is read.
use Rattle.sdd_script.proofs.All.{Add, AllByRecursion, Answers, Assign, AssignsValue, BadNumber, Bool, Catalogue, FitsAssign, FitsRef, Found, IsColumn, Kind, List, None, Ok, Option, Plain, Quoted, Ref, RelNo, Result, Setting, Some, To, Word, WorkRule, [], add_of, addend_of, adds_of, along, along_ok, ap, arith, assign_of, assign_words, bind_ok, both_hold, bytes_eq, bytes_eq-Decides, codes, column_of_use, column_word, cond, eqb, false, is_free, is_of_kind, key_column, key_of, kind_at, looks_like_column, mag, map, nat_tests, ne_eqb, not, number_again, number_of, number_takes, ok_along, ok_is, option_map, own_column, refl, require_ok, sets_words, setting_of, signed_decimal, subst, sym, to_of, true, value_of, value_word, ℕ, ℤ, ◌&&◌, ◌+◌, ◌<◌, ◌==◌, ◌^◌, ◌∙◌, ◌∷◌, ◌≡◌, ◌≢◌}
use Rattle.sdd_words.specs.Forms.{settings}
use Rattle.sdd_script.proofs.StepLaws.{must_then, some_of}
use Rattle.sdd_script.proofs.ValueLaws.{value_takes, value_again, kind_int, kind_same, key_is}
use Rattle.sdd_script.proofs.WordLooks.{value_free, number_free}
use Rattle.sdd_script.proofs.UseLaws.{IsKnown}
use Rattle.sdd_script.proofs.RefLaws.{AreParts, ref_takes, ref_again, column_word_is}
use Rattle.sdd_script.proofs.ConditionLaws.{joined_is, list_is}
use Rattle.sdd_lang.specs.catalog.declared.parts.Kind.TheVariants as kinds

-- ---- the form

abbrev pub adds_word : Bool → List ℕ
adds_word true = codes "+="
adds_word false = codes "="

-- the words of settings
abbrev pub setted : List Setting → List Word
setted [] = []
setted (s ∷ ss) = s.left ∷ Plain (adds_word s.adds) ∷ s.right ∷ setted ss

abbrev pub LooksSet : Setting → Type 0
LooksSet s = (looks_like_column s.left ≡ true) × (is_free s.right ≡ true)

setting_is : (x y : Setting) → some_of x ≡ some_of y → x ≡ y
setting_is x y e = cc

adds_if : (bytes : List ℕ) (adds a b : Bool) → bytes_eq bytes (codes "=") ≡ a
    → bytes_eq bytes (codes "+=") ≡ b → cond a (Some false) (cond b (Some true) None) ≡ Some adds
    → bytes ≡ adds_word adds
adds_if bytes adds a b p q e = grind (arith, bytes_eq-Decides)

adds_take : (w : Word) (adds : Bool) → adds_of w ≡ Some adds → w ≡ Plain (adds_word adds)
adds_take (Plain bytes) adds e = ap (λ (l : List ℕ). Plain l) (adds_if bytes adds (bytes_eq bytes (codes "=")) (bytes_eq bytes (codes "+=")) refl refl e)
adds_take (Quoted text) adds e = absurd cc

record IsSetting (left op right : Word) (s : Setting) : Type 0 where
  left_is : left ≡ s.left
  op_is : op ≡ Plain (adds_word s.adds)
  right_is : right ≡ s.right
  looks : LooksSet s

setting_some : (left right w : Word) (o : Option Bool) (s : Setting) → adds_of w ≡ o
    → option_map (λ adds. record { left = left; adds = adds; right = right }) o ≡ Some s → (left ≡ s.left)
    × (w ≡ Plain (adds_word s.adds)) × (right ≡ s.right)
setting_some left right w None s p e = absurd cc
setting_some left right w (Some adds) s p e =
    let made : Setting = record { left = left; adds = adds; right = right } in
    let same : made ≡ s = setting_is made s e in
    rw (← same) (refl, adds_take w adds p, refl)

setting_if : (left op right : Word) (s : Setting) (b : Bool) → (looks_like_column left && is_free right) ≡ b
    → cond b (option_map (λ adds. record { left = left; adds = adds; right = right }) (adds_of op)) None ≡ Some s → IsSetting left op right s
setting_if left op right s false t e = absurd cc
setting_if left op right s true t e = let r = setting_some left right op (adds_of op) s refl e in grind (arith, both_hold)

pub record AreSettings (ws : List Word) (ss : List Setting) : Type 0 where
  pub spelled : ws ≡ setted ss
  pub looks : AllByRecursion LooksSet ss

pub settings_take : (ws : List Word) (ss : List Setting) → settings ws ≡ Some ss → AreSettings ws ss
unfolding settings
settings_take [] ss e = rw (← list_is [] ss e) (record { spelled = refl; looks = tt })
settings_take (left ∷ op ∷ right ∷ more) ss e =
    let j = joined_is (setting_of left op right) (settings more) ss e in
    let one = setting_if left op right j.head _ refl j.first in
    let rest = settings_take more j.rest j.others in
    rw (← j.whole) (record { spelled = cc; looks = (one.looks, rest.looks) })
settings_take (a ∷ _) ss e = absurd cc

setting_again : (s : Setting) → LooksSet s → setting_of s.left (Plain (adds_word s.adds)) s.right ≡ Some s
setting_again s h = grind arith

pub settings_again : (ss : List Setting) → AllByRecursion LooksSet ss → settings (setted ss) ≡ Some ss
unfolding settings
settings_again [] h = refl
settings_again (s ∷ ss) h = grind (arith, setting_again, (settings_again ss h.1))

-- ---- the assignments

pub record IsAssign (cat : Catalogue) (rel : RelNo) (s : Setting) (a : Assign) : Type 0 where
  pub spelled : s.left ∷ Plain (adds_word s.adds) ∷ s.right ∷ [] ≡ assign_words cat rel a
  pub fits : FitsAssign cat rel.0 a
  pub value : AssignsValue a

-- the column of an update
record IsOwn (cat : Catalogue) (rel : RelNo) (w : Word) (f : Found) : Type 0 where
  spelled : w ≡ column_word cat (rel ∷ []) (own_column f.at.column)
  column : IsColumn cat rel.0 f.at.column
  kind : kind_at cat rel.0 f.at.column ≡ f.kind

abbrev made : ℕ → ℕ → Ref
made part column = record { part = part; column = column }

own_takes : (cat : Catalogue) (rel : RelNo) (w : Word) (f : Found) → looks_like_column w ≡ true
    → column_of_use cat (Some rel.0 ∷ []) w ≡ Ok f → IsOwn cat rel w f
own_takes cat rel w f look e = let r = ref_takes cat (rel ∷ []) w f look e in grind (arith, IsOwn)

addend_takes : (w : Word) (z : ℤ) → addend_of w ≡ Ok z → (w ≡ Plain (signed_decimal z)) × (mag z < 2 ^ 63)
addend_takes (Plain bytes) z e =
    let a = require_ok BadNumber (number_of bytes) z e in
    let n = number_takes bytes z a in
    (ap (λ (l : List ℕ). Plain l) n.0, n.1)
addend_takes (Quoted text) z e = absurd cc

assign_if : (cat : Catalogue) (rel : RelNo) (left op right : Word) (adds : Bool) (f : Found) (a : Assign)
    → IsOwn cat rel left f → f.at.column ≢ key_column cat rel.0 → op ≡ Plain (adds_word adds)
    → cond adds (add_of f right) (to_of f right) ≡ Ok a
    → (left ∷ op ∷ right ∷ [] ≡ assign_words cat rel a) × FitsAssign cat rel.0 a × AssignsValue a
assign_if cat rel left op right true f a own other is e =
    let b = must_then _ (is_of_kind (Some f.kind) kinds.Int) _ a e in
    let c = bind_ok (addend_of right) _ a b.1 in
    let n = addend_takes right c.0 c.1 in
    rw (← ok_is (Add f.at.column c.0) a c.2) (cc, (own.column, other, own.kind ∙ sym (kind_int f.kind b.0)), n.1)
assign_if cat rel left op right false f a own other is e =
    let c = bind_ok (value_of (Some f.kind) right) _ a e in
    let v = value_takes f.kind right c.0 c.1 in
    rw (← ok_is (To f.at.column c.0) a c.2) (cc, (own.column, other, v.same ∙ sym own.kind), v.fits)

pub assign_takes : (cat : Catalogue) (rel : RelNo) (s : Setting) (a : Assign) → LooksSet s → assign_of cat rel.0 s ≡ Ok a → IsAssign cat rel s a
assign_takes cat rel s a looks e =
    let b = bind_ok (column_of_use cat (Some rel.0 ∷ []) s.left) _ a e in
    let own = own_takes cat rel s.left b.0 looks.0 b.1 in
    let c = must_then _ (not (b.0.at.column == key_of cat rel.0)) _ a b.2 in
    let other : b.0.at.column ≢ key_column cat rel.0 = (grind (arith, nat_tests, key_is)) in
    let r = assign_if cat rel s.left (Plain (adds_word s.adds)) s.right s.adds b.0 a own other refl c.1 in
    record { spelled = r.0; fits = r.1; value = r.2 }

pub record AreAssigns (cat : Catalogue) (rel : RelNo) (ws : List Word) (sets : List Assign) : Type 0 where
  pub spelled : ws ≡ sets_words cat rel sets
  pub fits : AllByRecursion (FitsAssign cat rel.0) sets
  pub values : AllByRecursion AssignsValue sets

abbrev reads : Catalogue → ℕ → ℕ → Setting → Result Assign WorkRule
reads cat rel i s = assign_of cat rel s

of_answers : (cat : Catalogue) (rel : RelNo) (i : ℕ) (ss : List Setting) (sets : List Assign)
    → AllByRecursion LooksSet ss → Answers (reads cat rel.0) i ss sets → AreAssigns cat rel (setted ss) sets
of_answers cat rel i [] [] looks h = record { spelled = refl; fits = tt; values = tt }
of_answers cat rel i (s ∷ ss) (a ∷ sets) looks h =
    let one = assign_takes cat rel s a looks.0 h.0 in
    let more = of_answers cat rel (i + 1) ss sets looks.1 h.1 in
    grind arith
of_answers cat rel i _ _ looks h = absurd h

pub assigns_take : (cat : Catalogue) (rel : RelNo) (ws : List Word) (ss : List Setting) (sets : List Assign)
    → settings ws ≡ Some ss → along (reads cat rel.0) 0 ss ≡ Ok sets → AreAssigns cat rel ws sets
assigns_take cat rel ws ss sets form e =
    let f = settings_take ws ss form in rw f.spelled (of_answers cat rel 0 ss sets f.looks (along_ok (reads cat rel.0) 0 ss sets e))

-- the setting that an assignment is
abbrev pub setting_for : Catalogue → RelNo → Assign → Setting
setting_for cat rel (To column value) = record { left = column_word cat (rel ∷ []) (own_column column); adds = false; right = value_word value }
setting_for cat rel (Add column by) = record { left = column_word cat (rel ∷ []) (own_column column); adds = true; right = Plain (signed_decimal by) }

own_fits : (cat : Catalogue) (rel : RelNo) (column : ℕ) → IsColumn cat rel.0 column → FitsRef cat (rel ∷ []) (own_column column)
own_fits cat rel column h = ((omega arith, omega arith), h)

looks_again : (cat : Catalogue) → IsKnown cat → (rel : RelNo) → AreParts cat (rel ∷ []) → (a : Assign)
    → FitsAssign cat rel.0 a → AssignsValue a → LooksSet (setting_for cat rel a)
looks_again cat k rel h (To column value) fits v = (
  (column_word_is cat k (rel ∷ []) (own_column column) h (own_fits cat rel column fits.0)).looks,
  value_free value v,
)
looks_again cat k rel h (Add column by) fits v = (
  (column_word_is cat k (rel ∷ []) (own_column column) h (own_fits cat rel column fits.0)).looks,
  number_free by v,
)

other_column : (cat : Catalogue) (rel column : ℕ) → column ≢ key_column cat rel → not (column == key_of cat rel) ≡ true
other_column cat rel column other = let e : eqb column (key_of cat rel) ≡ false = ne_eqb column (key_of cat rel) (λ p. other (p ∙ key_is cat rel)) in rw e refl

assign_again : (cat : Catalogue) → IsKnown cat → (rel : RelNo) → AreParts cat (rel ∷ []) → (a : Assign)
    → FitsAssign cat rel.0 a → AssignsValue a → assign_of cat rel.0 (setting_for cat rel a) ≡ Ok a
assign_again cat k rel h (To column value) fits v =
    rw (
      ref_again cat k (rel ∷ []) (own_column column) h (own_fits cat rel column fits.0),
      other_column cat rel.0 column fits.1,
      subst (λ (x : Kind). value_of (Some x) (value_word value) ≡ Ok value) fits.2 (value_again value v),
    ) refl
assign_again cat k rel h (Add column by) fits v =
    rw (
      ref_again cat k (rel ∷ []) (own_column column) h (own_fits cat rel column fits.0),
      other_column cat rel.0 column fits.1,
      subst (λ (x : Kind). is_of_kind (Some x) kinds.Int ≡ true) (sym fits.2) (kind_same kinds.Int),
      number_again by v,
    ) refl

words_same : (cat : Catalogue) (rel : RelNo) (sets : List Assign) → sets_words cat rel sets ≡ setted (map (setting_for cat rel) sets)
words_same cat rel [] = refl
words_same cat rel (a ∷ sets) = grind (arith, (words_same cat rel sets))

all_look : (cat : Catalogue) → IsKnown cat → (rel : RelNo) → AreParts cat (rel ∷ []) → (sets : List Assign)
    → AllByRecursion (FitsAssign cat rel.0) sets → AllByRecursion AssignsValue sets
    → AllByRecursion LooksSet (map (setting_for cat rel) sets)
all_look cat k rel h [] fits v = tt
all_look cat k rel h (a ∷ sets) fits v = (looks_again cat k rel h a fits.0 v.0, all_look cat k rel h sets fits.1 v.1)

all_read : (cat : Catalogue) → IsKnown cat → (rel : RelNo) → AreParts cat (rel ∷ [])
    → (i : ℕ) (sets : List Assign) → AllByRecursion (FitsAssign cat rel.0) sets
    → AllByRecursion AssignsValue sets → Answers (reads cat rel.0) i (map (setting_for cat rel) sets) sets
all_read cat k rel h i [] fits v = tt
all_read cat k rel h i (a ∷ sets) fits v = (assign_again cat k rel h a fits.0 v.0, all_read cat k rel h (i + 1) sets fits.1 v.1)

pub form_again : (cat : Catalogue) → IsKnown cat → (rel : RelNo) → AreParts cat (rel ∷ [])
    → (sets : List Assign) → AllByRecursion (FitsAssign cat rel.0) sets → AllByRecursion AssignsValue sets
    → settings (sets_words cat rel sets) ≡ Some (map (setting_for cat rel) sets)
form_again cat k rel h sets fits v =
    ap settings (words_same cat rel sets) ∙ settings_again (map (setting_for cat rel) sets) (all_look cat k rel h sets fits v)

pub assigns_again : (cat : Catalogue) → IsKnown cat → (rel : RelNo) → AreParts cat (rel ∷ [])
    → (sets : List Assign) → AllByRecursion (FitsAssign cat rel.0) sets → AllByRecursion AssignsValue sets
    → along (reads cat rel.0) 0 (map (setting_for cat rel) sets) ≡ Ok sets
assigns_again cat k rel h sets fits v = ok_along (reads cat rel.0) 0 (map (setting_for cat rel) sets) sets (all_read cat k rel h 0 sets fits v)
