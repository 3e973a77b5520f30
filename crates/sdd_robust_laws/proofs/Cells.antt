-- What stands in a column of a row once some runs have ended: what the last of them that touched it left.
use Rattle.sdd_robust_laws.proofs.All.{Bool, Catalogue, Change, Contains, Contains-cases, Contains-here, Contains-later, Contains-nil, Database, Effect, IsStrictlySortedBy, Item, List, Option, Row, Untouched, Value, after_changes, ap, arith, cases_Bool, changed_at, false, false≢true, inl, inr, item_cmp, item_of, keys_of, refl, row_at, some_change, subst, sym, true, untouched_at, ℕ, [], ◌<◌, ◌∙◌, ◌∷◌, ◌≡◌, ◌≤◌, ◌⊎◌}
use Rattle.sdd_robust_laws.proofs.ReadColumns.{cell}
use Rattle.sdd_robust_laws.proofs.Rows.{ChangesOnce}

-- touch n item k tells whether run n may change the column of the row
pub data IsCell (cat : Catalogue) (first : Database) (effects : ℕ → Effect) (end : ℕ → ℕ) (touch : ℕ → Item → ℕ → Bool) (done : List ℕ) (item : Item) (k : ℕ)
    (v : Option Value) : Type 0 where
  touched : (n : ℕ) → Contains done n → touch n item k ≡ true → (c : Change) → Contains (effects n).changes c → item_of cat c ≡ item → cell c.row k ≡ v
      → ((m : ℕ) → Contains done m → touch m item k ≡ true → (d : Change) → Contains (effects m).changes d → item_of cat d ≡ item → end m ≤ end n)
      → IsCell cat first effects end touch done item k v
  untouched : ((m : ℕ) → Contains done m → touch m item k ≡ true → Untouched cat (effects m).changes item) → cell (row_at first item) k ≡ v
      → IsCell cat first effects end touch done item k v

module _ (cat : Catalogue) (first : Database) (effects : ℕ → Effect) (end : ℕ → ℕ) (touch : ℕ → Item → ℕ → Bool) where
  abbrev pub AreCells : List ℕ → Database → Type 0
  AreCells done db = (item : Item) (k : ℕ) → IsCell cat first effects end touch done item k (cell (row_at db item) k)

  pub at_first : AreCells [] first
  at_first item k = untouched (λ m h. absurd (Contains-nil m h)) refl

  -- with one more, which leaves what it doesn't touch
  module _ (done : List ℕ) (x : ℕ) (db : Database) (ascends : IsStrictlySortedBy item_cmp (keys_of db)) (once : ChangesOnce cat first effects end x)
      (leaves : (c : Change) → Contains (effects x).changes c → (k : ℕ) → touch x (item_of cat c) k ≡ false → cell c.row k ≡ cell (row_at db (item_of cat c)) k)
      (later : (m : ℕ) → Contains done m → (d c : Change) → Contains (effects m).changes d → Contains (effects x).changes c → item_of cat d ≡ item_of cat c → end m < end x) where
    abbrev after : Database
    after = after_changes cat db (effects x).changes

    row_is : (item : Item) (c : Change) → Contains (effects x).changes c → item_of cat c ≡ item → row_at after item ≡ c.row
    row_is item c h of = sym (ap (row_at after) of) ∙ changed_at cat db (effects x).changes c ascends once h

    by_own : (item : Item) (k : ℕ) (c : Change) → Contains (effects x).changes c → item_of cat c ≡ item → touch x item k ≡ true
        → IsCell cat first effects end touch (x ∷ done) item k (cell (row_at after item) k)
    by_own item k c h of t =
        touched x (Contains-here x done) t c h of (ap (λ o. cell o k) (sym (row_is item c h of)))
        (λ m j u d l e. elim (Contains-cases x done m j) [
          | inl same ↦ (let s : end m ≡ end x = ap end same in omega arith)
          | inr old ↦ (let s = later m old d c l h (e ∙ sym of) in omega arith)
        ])

    -- what x doesn't touch, or doesn't change, is as it was
    by_others : (item : Item) (k : ℕ) → (touch x item k ≡ true → Untouched cat (effects x).changes item) → cell (row_at db item) k ≡ cell (row_at after item) k
        → IsCell cat first effects end touch done item k (cell (row_at db item) k) → IsCell cat first effects end touch (x ∷ done) item k (cell (row_at after item) k)
    by_others item k none same (touched n h t c j of row last) =
        touched n (Contains-later x done n h) t c j of (row ∙ same)
        (λ m i u d l e. elim (Contains-cases x done m i) [
          | inl is ↦ absurd (none (subst (λ z. touch z item k ≡ true) is u) d (subst (λ z. Contains (effects z).changes d) is l) e)
          | inr old ↦ last m old u d l e
        ])
    by_others item k none same (untouched un row) =
        untouched
        (λ m i u. elim (Contains-cases x done m i) [
          | inl is ↦ subst (λ z. Untouched cat (effects z).changes item) (sym is) (none (subst (λ z. touch z item k ≡ true) is u))
          | inr old ↦ un m old u
        ])
        (row ∙ same)

    pub one_more : AreCells done db → AreCells (x ∷ done) after
    one_more cells item k =
        elim (some_change cat (effects x).changes item) [
          | inl c ↦ elim (cases_Bool (touch x item k)) [
            | inl t ↦ by_own item k c.0 c.1 c.2 t
            | inr f ↦
                let left = leaves c.0 c.1 k (subst (λ i. touch x i k ≡ false) (sym c.2) f) in
                by_others item k (λ t. absurd (false≢true (sym f ∙ t)))
                (sym (subst (λ i. cell c.0.row k ≡ cell (row_at db i) k) c.2 left) ∙ ap (λ o. cell o k) (sym (row_is item c.0 c.1 c.2))) (cells item k)
          ]
          | inr un ↦ by_others item k (λ t. un) (ap (λ o. cell o k) (sym (untouched_at cat db (effects x).changes item ascends un))) (cells item k)
        ]

  -- one value, where the same runs touched it
  module _ (item : Item) (k : ℕ) (some others : List ℕ) (once : (n : ℕ) → Contains some n → ChangesOnce cat first effects end n)
      (one_end : (m n : ℕ) → Contains some m → Contains others n → end m ≡ end n → m ≡ n)
      (there : (n : ℕ) → Contains some n → touch n item k ≡ true → (c : Change) → Contains (effects n).changes c → item_of cat c ≡ item → Contains others n)
      (back : (n : ℕ) → Contains others n → touch n item k ≡ true → (c : Change) → Contains (effects n).changes c → item_of cat c ≡ item → Contains some n) where
    pub same_cell : (v w : Option Value) → IsCell cat first effects end touch some item k v → IsCell cat first effects end touch others item k w → v ≡ w
    same_cell v w (touched n h t c j of row last) (touched m i u d l to other next) =
        let a = last m (back m i u d l to) u d l to in
        let b = next n (there n h t c j of) t c j of in
        let same : n ≡ m = one_end n m h i (omega arith) in
        let one : c ≡ d = once n h c d j (subst (λ z. Contains (effects z).changes d) (sym same) l) (of ∙ sym to) in
        sym row ∙ ap (λ (x : Change). cell x.row k) one ∙ other
    same_cell v w (touched n h t c j of row last) (untouched un other) = absurd (un n (there n h t c j of) t c j of)
    same_cell v w (untouched un row) (touched m i u d l to other next) = absurd (un m (back m i u d l to) u d l to)
    same_cell v w (untouched un row) (untouched none other) = sym row ∙ other
