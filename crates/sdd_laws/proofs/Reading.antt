-- Where attempts read: at modules that have copies of what they read.
use Rattle.sdd_laws.proofs.All.{AreEras, Attempt, Catalogue, Eras, History, IsAttempt, IsClass, IsCovered, IsFragment, IsModule, IsOfSubmit, IsSoundCatalogue, IsThere, KeepsStarts, List, Option, Some, Txn, ap, arith, ascending_back, at_member, cases_lt, catalogue_at, contains, covered, event_at, fragments_in, has_copy, inl, inr, is_some, module_of, nat_tests, read_in_era, read_set, read_set_there, reads, reads_at, recursion_from_All, served_read, sym, true, unwrap_or, uses_in_era, uses_of, ℕ, ◌∙◌, ◌≡◌, ◌≤◌}
use Rattle.sdd_laws.proofs.Copied.{some_copy}
use Rattle.sdd_laws.proofs.CatalogueAt.{era_is}

-- a fragment is read at a module that has a copy of it
pub record IsReadAt (cat : Catalogue) (class f : ℕ) : Type 0 where
  pub fragment : IsFragment cat f
  pub read : reads_at cat class f ≡ Some (module_of cat class f)
  pub is_module : IsModule cat (module_of cat class f)
  pub copy : has_copy cat (module_of cat class f) f ≡ true

some_module : (o : Option ℕ) → is_some o ≡ true → o ≡ Some (unwrap_or o 0)
some_module o e = grind arith

module _ (cat : Catalogue) (sound : IsSoundCatalogue cat) where
  served : (class f : ℕ) → IsClass cat class → IsFragment cat f → is_some (reads_at cat class f) ≡ true
      → IsReadAt cat class f
  served class f c there e =
      let at = some_module (reads_at cat class f) e in
      let s = served_read cat class f (module_of cat class f) sound c there.0 there.1 at in
      record { fragment = there; read = at; is_module = (s.module_from, s.module_to); copy = s.copy }

  -- class 0 reads every fragment
  read_by_none : (f : ℕ) → IsFragment cat f → IsReadAt cat 0 f
  read_by_none f there = served 0 f (omega arith) there (ap is_some (some_copy cat sound f there.0 there.1).1)

  module _ (eras : Eras) (are : AreEras cat eras) (txns : List Txn) (h : History) (starts : KeepsStarts cat eras txns h) where
    -- the catalogue in force when an attempt's transaction was submitted
    abbrev pub catalogue_of_event : (a : Attempt) → IsOfSubmit cat eras txns h a → Catalogue
    catalogue_of_event a s = catalogue_at cat eras (event_at h s.place)

    pub class_covers : (a : Attempt) (s : IsOfSubmit cat eras txns h a) → 1 ≤ a.class → IsCovered (catalogue_of_event a s) s.txn a.class
    class_covers a s l = covered (catalogue_of_event a s) s.txn a.class s.class_is l

    fragment_there : (a : Attempt) → IsOfSubmit cat eras txns h a → (f : ℕ) → reads a f ≡ true → IsFragment cat f
    fragment_there a s f r =
        let each =
        ascending_back (IsThere cat) (fragments_in (uses_of cat s.txn))
        (recursion_from_All (IsThere cat) (read_set cat s.txn) (read_set_there cat s.txn)) in
        grind (arith, at_member)

    -- what an attempt of a class reads, the class reads in its era
    pub read_at_event : (a : Attempt) (s : IsOfSubmit cat eras txns h a) (f : ℕ) → 1 ≤ a.class → reads a f ≡ true
        → is_some (reads_at (catalogue_of_event a s) a.class f) ≡ true
    read_at_event a s f l r =
        let uses = uses_in_era cat (catalogue_of_event a s) (era_is cat eras are (event_at h s.place)) s.txn in
        (class_covers a s l).reads f (ap (λ u. contains (fragments_in u) f) (uses ∙ sym s.uses_are) ∙ r)

    pub reads_there : (a : Attempt) (f : ℕ) → IsAttempt h a → reads a f ≡ true → IsReadAt cat a.class f
    reads_there a f p r =
        let s = starts.submitted a p in
        let there = fragment_there a s f r in
        elim (cases_lt 0 a.class) [
          | inl l ↦
              let era = catalogue_of_event a s in
              let is_era = era_is cat eras are (event_at h s.place) in
              let class = (class_covers a s l).class in
              let in_era = read_at_event a s f l r in
              grind (arith, nat_tests, read_in_era, served, is_some)
          | inr l ↦
              grind (arith, IsReadAt, read_by_none)
        ]
