-- Classes that a workload may declare break no rule after those before them.
use Rattle.sdd_lists.proofs.All.{All, AllByRecursion, Bool, CatRule, Catalogue, ClassPart, DuplicateName, IsFragment, IsFrom1To, IsValidClass, IsValidRead, List, MAX_CLASSES, MAX_READS, Parts, ReadPart, Text, TooMany, UnknownName, [], any_none, ap, apart_before, append_assoc, arith, class_rules, false, faults_of_class, found_from, found_in, has_name, is_from_1_to, length, length-append, map, map-append, map-id, nat_le, nat_lt, nat_tests, not, part_names, parts_of, read_names, read_rules, recursion_from_All, refl, repeats, subst, sym, true, two_empty, when, write_rules, ℕ, ◌++◌, ◌+◌, ◌<◌, ◌∙◌, ◌∷◌, ◌≡◌, ◌≤◌}
use Rattle.sdd_lists.proofs.Fragments.{is_copied, is_named}
use Rattle.sdd_script.specs.catalog.declared.fault.Part.TheVariants.{Class}
use Rattle.sdd_script.specs.catalog.declared.fault.Counted.TheVariants as counted

-- a rule that isn't broken tells nothing
kept : (b : Bool) (rule : CatRule) → b ≡ false → when b rule ≡ []
kept b rule e = ap (λ t. when t rule) e

kept_so : (b : Bool) (rule : CatRule) → b ≡ true → when (not b) rule ≡ []
kept_so b rule e = ap (λ t. when (not t) rule) e

four_empty : {A : Type 0} (a b c d : List A) → a ≡ [] → b ≡ [] → c ≡ [] → d ≡ [] → a ++ b ++ c ++ d ≡ []
four_empty a b c d no_a no_b no_c no_d = rw (no_a, no_b, no_c, no_d) refl

six_empty : {A : Type 0} (a b c d e f : List A) → a ≡ [] → b ≡ [] → c ≡ [] → d ≡ [] → e ≡ [] → f ≡ []
    → a ++ b ++ c ++ d ++ e ++ f ≡ []
six_empty a b c d e f no_a no_b no_c no_d no_e no_f = rw (no_a, no_b, no_c, no_d, no_e, no_f) refl

is_within : (most n : ℕ) → IsFrom1To most n → is_from_1_to most n ≡ true
is_within most n within = grind (arith, nat_le)

-- Nothing is found at members of different names, of which there are few, where nothing is found at one whose name is new.
none_found : {A B : Type 0} (f : List A → A → List B) (name : A → Text) (P : A → Type 0) (most : ℕ)
    → ((before : List A) (x : A) → P x → has_name (map name before) (name x) ≡ false → length before < most → f before x ≡ [])
    → (before xs : List A) → AllByRecursion P xs → repeats (map name before ++ map name xs) ≡ false
    → length before + length xs ≤ most → found_from f before xs ≡ []
none_found f name P most at before [] all once few = refl
none_found f name P most at before (x ∷ xs) all once few =
    let here : f before x ≡ [] = at before x all.0 (any_none _ _ (apart_before (map name before) (name x) (map name xs) once)) (omega (arith, few)) in
    let names : map name (before ++ x ∷ []) ++ map name xs ≡ map name before ++ name x ∷ map name xs =
    ap (λ (l : List Text). l ++ map name xs) (map-append name before (x ∷ [])) ∙ append_assoc (map name before) (name x ∷ []) (map name xs) in
    let rest : found_from f (before ++ x ∷ []) xs ≡ [] =
    none_found f name P most at (before ++ x ∷ []) xs all.1
    (subst (λ (l : List Text). repeats l ≡ false) (sym names) once)
    (omega (arith, few, length-append before (x ∷ []))) in
    two_empty (f before x) (found_from f (before ++ x ∷ []) xs) here rest

module _ (cat : Catalogue) where
  abbrev Own : Parts
  Own = parts_of cat

  -- what a class reads

  reads_fine : (reads : List ReadPart) → All (IsValidRead cat) reads → repeats (read_names reads) ≡ false
      → found_in (read_rules Own) reads ≡ []
  reads_fine reads valid once =
      none_found (read_rules Own) (λ (r : ReadPart). r.fragment) (IsValidRead cat) (length reads)
      (λ before r fine new few. (grind (arith, four_empty, Own, kept_so, is_named, is_within, kept, is_copied)))
      [] reads (recursion_from_All (IsValidRead cat) reads valid) once (omega arith)

  -- what a class writes

  write_fine : (before : List Text) (name : Text) → IsFragment cat name → has_name (map (λ (n : Text). n) before) name ≡ false
      → write_rules Own before name ≡ []
  write_fine before name there new = grind (arith, two_empty, Own, kept_so, is_named, kept, map-id)

  writes_fine : (writes : List Text) → All (IsFragment cat) writes → repeats writes ≡ false
      → found_in (write_rules Own) writes ≡ []
  writes_fine writes there once =
      none_found (write_rules Own) (λ (n : Text). n) (IsFragment cat) (length writes)
      (λ before name fine new few. write_fine before name fine new)
      [] writes (recursion_from_All (IsFragment cat) writes there)
      (subst (λ (l : List Text). repeats l ≡ false) (sym (map-id writes)) once) (omega arith)

  -- a class

  class_fine : (before : List ClassPart) (c : ClassPart) → IsValidClass cat c → has_name (part_names before) c.name ≡ false
      → length before < MAX_CLASSES → class_rules Own before c ≡ []
  class_fine before c valid new few =
      let reads : length c.reads ≤ MAX_READS = valid.few_reads in
      let few_reads : nat_lt MAX_READS (length c.reads) ≡ false = grind (arith, nat_tests) in
      six_empty (when (nat_le MAX_CLASSES (length before)) (TooMany counted.Class))
      (when (has_name (part_names before) c.name) DuplicateName)
      (when (not (is_from_1_to Own.tms c.tm)) UnknownName)
      (when (nat_lt MAX_READS (length c.reads)) (TooMany counted.Read))
      (found_in (read_rules Own) c.reads)
      (found_in (write_rules Own) c.writes)
      (kept _ (TooMany counted.Class) (grind (arith, nat_tests)))
      (kept _ DuplicateName new)
      (kept_so _ UnknownName (is_within cat.tms c.tm valid.module_is_there))
      (kept _ (TooMany counted.Read) few_reads)
      (reads_fine c.reads valid.reads valid.reads_once)
      (writes_fine c.writes valid.writes valid.writes_once)

  -- classes after others break no rule
  pub classes_fine : (before classes : List ClassPart) → AllByRecursion (IsValidClass cat) classes
      → repeats (part_names before ++ part_names classes) ≡ false → length before + length classes ≤ MAX_CLASSES
      → found_from (faults_of_class Own) before classes ≡ []
  classes_fine before classes valid once few = grind (arith, none_found, Own, class_fine)
