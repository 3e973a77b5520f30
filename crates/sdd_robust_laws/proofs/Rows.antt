-- Which row stands at an item once some runs have ended: what the last of them that changed it left.
use Rattle.sdd_robust_laws.proofs.All.{Catalogue, Change, Contains, Contains-cases, Contains-here, Contains-later, Contains-nil, Database, Effect, IsStrictlySortedBy, IsDatabase, Item, List, Option, Row, Untouched, at_entry, entry_at, item_cmp_exact, item_cmp_total, same_members, after_changes, ap, arith, changed_at, inl, inr, item_cmp, item_of, keys_of, refl, row_at, some_change, subst, sym, untouched_at, ℕ, [], ◌<◌, ◌∙◌, ◌∷◌, ◌≡◌, ◌≤◌, ◌⊎◌}

-- databases with the same row at each item are the same
pub same_database : (cat : Catalogue) (a b : Database) → IsDatabase cat a → IsDatabase cat b → ((item : Item) → row_at a item ≡ row_at b item) → a ≡ b
same_database cat a b p q same =
    same_members item_cmp item_cmp_total item_cmp_exact a b p.ascends q.ascends
    (λ e h. entry_at item_cmp item_cmp_total item_cmp_exact b e.0 e.1 (sym (same e.0) ∙ at_entry item_cmp item_cmp_total item_cmp_exact a e.0 e.1 p.ascends h))
    (λ e h. entry_at item_cmp item_cmp_total item_cmp_exact a e.0 e.1 (same e.0 ∙ at_entry item_cmp item_cmp_total item_cmp_exact b e.0 e.1 q.ascends h))

-- the row of the run that ended last of those that changed the item, and where none did the first one
pub data IsRow (cat : Catalogue) (first : Database) (effects : ℕ → Effect) (end : ℕ → ℕ) (done : List ℕ) (item : Item) (v : Option Row) : Type 0 where
  changed : (n : ℕ) → Contains done n → (c : Change) → Contains (effects n).changes c → item_of cat c ≡ item → c.row ≡ v
      → ((m : ℕ) → Contains done m → (d : Change) → Contains (effects m).changes d → item_of cat d ≡ item → end m ≤ end n)
      → IsRow cat first effects end done item v
  unchanged : ((m : ℕ) → Contains done m → Untouched cat (effects m).changes item) → row_at first item ≡ v → IsRow cat first effects end done item v

module _ (cat : Catalogue) (first : Database) (effects : ℕ → Effect) (end : ℕ → ℕ) where
  abbrev pub AreRows : List ℕ → Database → Type 0
  AreRows done db = (item : Item) → IsRow cat first effects end done item (row_at db item)

  -- of an item a run has one change
  abbrev pub ChangesOnce : ℕ → Type 0
  ChangesOnce n = (c d : Change) → Contains (effects n).changes c → Contains (effects n).changes d → item_of cat c ≡ item_of cat d → c ≡ d

  pub at_first : AreRows [] first
  at_first item = unchanged (λ m h. absurd (Contains-nil m h)) refl

  -- with one more, which ended after those that changed what it changes
  module _ (done : List ℕ) (x : ℕ) (db : Database) (ascends : IsStrictlySortedBy item_cmp (keys_of db)) (once : ChangesOnce x)
      (later : (m : ℕ) → Contains done m → (d c : Change) → Contains (effects m).changes d → Contains (effects x).changes c → item_of cat d ≡ item_of cat c → end m < end x) where
    abbrev after : Database
    after = after_changes cat db (effects x).changes

    by_own : (item : Item) (c : Change) → Contains (effects x).changes c → item_of cat c ≡ item
        → IsRow cat first effects end (x ∷ done) item (row_at after item)
    by_own item c h of =
        changed x (Contains-here x done) c h of
        (sym (changed_at cat db (effects x).changes c ascends once h) ∙ ap (row_at after) of)
        (λ m k d l e. elim (Contains-cases x done m k) [
          | inl same ↦ (let t : end m ≡ end x = ap end same in omega arith)
          | inr old ↦ (let t = later m old d c l h (e ∙ sym of) in omega arith)
        ])

    by_others : (item : Item) → Untouched cat (effects x).changes item → IsRow cat first effects end done item (row_at db item)
        → IsRow cat first effects end (x ∷ done) item (row_at after item)
    by_others item none (changed n h c k of row last) =
        changed n (Contains-later x done n h) c k of (row ∙ sym (untouched_at cat db (effects x).changes item ascends none))
        (λ m j d l e. elim (Contains-cases x done m j) [
          | inl same ↦ absurd (none d (subst (λ z. Contains (effects z).changes d) same l) e)
          | inr old ↦ last m old d l e
        ])
    by_others item none (unchanged un row) =
        unchanged
        (λ m j. elim (Contains-cases x done m j) [
          | inl same ↦ subst (λ z. Untouched cat (effects z).changes item) (sym same) none
          | inr old ↦ un m old
        ])
        (row ∙ sym (untouched_at cat db (effects x).changes item ascends none))

    pub one_more : AreRows done db → AreRows (x ∷ done) after
    one_more rows item =
        elim (some_change cat (effects x).changes item) [
          | inl c ↦ by_own item c.0 c.1 c.2
          | inr none ↦ by_others item none (rows item)
        ]

  -- one row, where the same runs changed the item
  module _ (item : Item) (some others : List ℕ) (once : (n : ℕ) → Contains some n → ChangesOnce n)
      (one_end : (m n : ℕ) → Contains some m → Contains others n → end m ≡ end n → m ≡ n)
      (there : (n : ℕ) → Contains some n → (c : Change) → Contains (effects n).changes c → item_of cat c ≡ item → Contains others n)
      (back : (n : ℕ) → Contains others n → (c : Change) → Contains (effects n).changes c → item_of cat c ≡ item → Contains some n) where
    pub same_row : (v w : Option Row) → IsRow cat first effects end some item v → IsRow cat first effects end others item w → v ≡ w
    same_row v w (changed n h c k of row last) (changed m j d l to other next) =
        let n_there = there n h c k of in
        let m_back = back m j d l to in
        let a = last m m_back d l to in
        let b = next n n_there c k of in
        let same : n ≡ m = one_end n m h j (omega arith) in
        let one : c ≡ d = once n h c d k (subst (λ z. Contains (effects z).changes d) (sym same) l) (of ∙ sym to) in
        sym row ∙ ap (λ (x : Change). x.row) one ∙ other
    same_row v w (changed n h c k of row last) (unchanged un other) = absurd (un n (there n h c k of) c k of)
    same_row v w (unchanged un row) (changed m j d l to other next) = absurd (un m (back m j d l to) d l to)
    same_row v w (unchanged un row) (unchanged none other) = sym row ∙ other
