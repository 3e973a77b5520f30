-- No word of a report holds a newline, where no value does.
use Rattle.sdd_verified.proofs.All.{All, AllByRecursion, Catalogue, Class, Fragment, HasNoNewline, Int, IsName, List, Queued, Row, Site, Txn, TxnNo, Underway, Value, Waits, Why, [], arith, class_time, codes, flat_map, fragment_name, in_range, module_word, names_of, no_newline-append, refl, rules, site_word, slice_get, spaced, true, value_bytes, why_words, ℕ, ℤ, ◌++◌, ◌-◌, ◌∷◌, ◌≡◌}
use Rattle.sdd_verified.proofs.ReportLines.{class_time_line, module_line, named_by, number_line, spaced_line, txn_line}
use Rattle.sdd_verified.proofs.ValuesKept.{Holds}

-- lines of values, where no value holds a newline

abbrev pub IsClean : Value → Type 0
IsClean v = HasNoNewline (value_bytes v)

pub ints_clean : (n : ℤ) → in_range n ≡ true → IsClean (Int n)
ints_clean n fits = grind (arith, number_line)

pub values_line : (row : Row) → Holds IsClean ints_clean row → HasNoNewline (flat_map (λ v. 32 ∷ value_bytes v) row)
values_line [] h = tt
values_line (v ∷ row) h =
    no_newline-append (32 ∷ value_bytes v) (flat_map (λ v. 32 ∷ value_bytes v) row) (spaced_line (value_bytes v) h.0) (values_line row h.1)

module _ (cat : Catalogue) (txns : List Txn) (classes_named : All (λ (k : Class). IsName k.name) cat.classes)
    (fragments_named : All (λ (f : Fragment). IsName f.name) cat.fragments)
    (txns_named : All (λ (t : Txn). IsName t.name) txns) where
  -- names

  pub names_are : (order : List TxnNo) → AllByRecursion HasNoNewline (names_of txns order)
  names_are [] = tt
  names_are (n ∷ order) = (txn_line cat txns classes_named txns_named n.0, names_are order)

  pub spaced_names : (names : List (List ℕ)) → AllByRecursion HasNoNewline names → HasNoNewline (flat_map spaced names)
  spaced_names [] h = tt
  spaced_names (name ∷ names) h = no_newline-append (spaced name) (flat_map spaced names) (spaced_line name h.0) (spaced_names names h.1)

  -- what is waited for, and what is copied

  pub site_line : (site : Site) → HasNoNewline (site_word site)
  site_line site = grind (arith, number_line)

  pub why_line : (why : Why) → HasNoNewline (why_words cat why)
  why_line (Queued class place) =
      no_newline-append (codes "queued") (class_time cat class.0 place) (search rules) (class_time_line cat txns classes_named txns_named class.0 place)
  why_line (Waits waiting) =
      no_newline-append (codes "waits") (spaced (module_word waiting.dm.0) ++ class_time cat waiting.class.0 waiting.time.0) (search rules)
      (no_newline-append (spaced (module_word waiting.dm.0)) (class_time cat waiting.class.0 waiting.time.0)
      (module_line cat txns classes_named txns_named waiting.dm.0) (class_time_line cat txns classes_named txns_named waiting.class.0 waiting.time.0))
  why_line (Underway site) =
      no_newline-append (codes "underway") (spaced (site_word site)) (search rules) (spaced_line (site_word site) (site_line site))

  pub fragment_line : (f : ℕ) → HasNoNewline (fragment_name cat f)
  fragment_line f = named_by (λ (p : Fragment). p.name) cat.fragments (f - 1) (slice_get cat.fragments (f - 1)) refl fragments_named
