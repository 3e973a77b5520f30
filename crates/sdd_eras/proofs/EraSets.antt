-- The sets of a class in an era, and of its transactions.
use Rattle.sdd_eras.proofs.All.{Catalogue, Class, Condition, IsClassOf, IsEraOf, List, RelNo, Stmt, Txn, [], and_parts, ap, arith, ascending, ascending_back, class_at, class_for, contains, covers, each_in_range, flat_map, fragments_in, is_some, length, list_all, list_any, ne_eqb, option_map, part_uses, read_set, reads_at, refl, statement_uses, true, unwrap_or, uses_from, uses_of, write_set, writes, written_by, ℕ, ◌&&◌, ◌+◌, ◌<◌, ◌==◌, ◌∙◌, ◌∷◌, ◌≡◌, ◌≤◌}
use Rattle.sdd_eras.proofs.Lists.{each_passes, at_member, first_passes, first_has}

-- a catalogue with other classes
abbrev pub with_classes : Catalogue → List Class → Catalogue
with_classes cat classes = record cat { classes = classes }

-- has the same uses, whatever its classes
part_same : (cat : Catalogue) (classes : List Class) (before : ℕ) (conds : List Condition) (part : ℕ) (rels : List RelNo)
    → part_uses (with_classes cat classes) before conds part rels ≡ part_uses cat before conds part rels
part_same cat classes before conds part [] = refl
part_same cat classes before conds part (rel ∷ rels) = grind (arith, (part_same cat classes before conds (part + 1) rels))

uses_same : (cat : Catalogue) (classes : List Class) (before : ℕ) (statements : List Stmt)
    → uses_from (with_classes cat classes) before statements ≡ uses_from cat before statements
uses_same cat classes before [] = refl
uses_same cat classes before (s ∷ rest) = grind (arith, with_classes, part_same, (uses_same cat classes (before + length (statement_uses cat before s)) rest))

all_written_same : (cat : Catalogue) (classes : List Class) (statements : List Stmt)
    → flat_map (written_by (with_classes cat classes)) statements ≡ flat_map (written_by cat) statements
all_written_same cat classes [] = refl
all_written_same cat classes (s ∷ rest) = grind (arith, flat_map, with_classes, part_same, (all_written_same cat classes rest))

-- a catalogue is one of its own
pub era_of_itself : (cat : Catalogue) → IsEraOf cat cat
era_of_itself cat = grind arith

-- an era differs in its classes alone
pub era_is : (cat era : Catalogue) → IsEraOf cat era → era ≡ with_classes cat era.classes
era_is cat era h = grind arith

pub uses_in_era : (cat era : Catalogue) → IsEraOf cat era → (txn : Txn) → uses_of era txn ≡ uses_of cat txn
uses_in_era cat era h txn = ap (λ c. uses_of c txn) (era_is cat era h) ∙ uses_same cat era.classes 0 txn.statements

pub write_set_in_era : (cat era : Catalogue) → IsEraOf cat era → (txn : Txn) → write_set era txn ≡ write_set cat txn
write_set_in_era cat era h txn =
    ap (λ c. write_set c txn) (era_is cat era h) ∙ ap ascending (all_written_same cat era.classes txn.statements)

-- a class covers a transaction
pub record IsCovered (cat : Catalogue) (txn : Txn) (n : ℕ) : Type 0 where
  pub class : IsClassOf cat n
  pub reads : (f : ℕ) → contains (fragments_in (uses_of cat txn)) f ≡ true → is_some (reads_at cat n f) ≡ true
  pub writes : (f : ℕ) → contains (write_set cat txn) f ≡ true → writes cat n f ≡ true

covered_by : (cat : Catalogue) (txn : Txn) (n : ℕ) → (1 ≤ n) × (n < 1 + length cat.classes)
    → covers cat txn n ≡ true → IsCovered cat txn n
covered_by cat txn n l e =
    let parts = and_parts ((class_at cat n).tm.0 == txn.tm.0)
    (list_all (λ f. is_some (reads_at cat n f)) (read_set cat txn) && list_all (writes cat n) (write_set cat txn)) e in
    let sets = and_parts (list_all (λ f. is_some (reads_at cat n f)) (read_set cat txn)) (list_all (writes cat n) (write_set cat txn)) parts.1 in
    let read =
    ascending_back (λ f. is_some (reads_at cat n f) ≡ true) (fragments_in (uses_of cat txn))
    (each_passes (λ f. is_some (reads_at cat n f)) (read_set cat txn) sets.0) in
    record {
      class = record { from = l.0; to = omega (arith, l.1) };
      reads = λ f c. at_member (λ g. is_some (reads_at cat n g) ≡ true) (fragments_in (uses_of cat txn)) f read c;
      writes = λ f c.
          at_member (λ g. writes cat n g ≡ true) (write_set cat txn) f (each_passes (writes cat n) (write_set cat txn) sets.1) c;
    }

pub covered : (cat : Catalogue) (txn : Txn) (n : ℕ) → n ≡ class_for cat txn → 1 ≤ n → IsCovered cat txn n
covered cat txn n e l = grind (arith, unwrap_or, IsCovered, covered_by, first_has, each_in_range, first_passes)

-- where a class reads a fragment in an era, it reads it there in the whole catalogue
pub read_in_era : (cat era : Catalogue) → IsEraOf cat era → (n f : ℕ) → IsClassOf era n
    → is_some (reads_at era n f) ≡ true → reads_at era n f ≡ reads_at cat n f
read_in_era cat era h n f c e = grind (arith, ne_eqb, option_map, is_some)

-- what a class writes in an era it writes in the whole catalogue
written_in_era : (cat era : Catalogue) → IsEraOf cat era → (n f : ℕ) → IsClassOf era n
    → writes era n f ≡ true → writes cat n f ≡ true
written_in_era cat era h n f c e = grind (arith, ne_eqb, list_any)

-- a class that covers a transaction in an era covers it in the whole catalogue
pub covered_in_era : (cat era : Catalogue) → IsEraOf cat era → (txn : Txn) (n : ℕ)
    → IsCovered era txn n → IsCovered cat txn n
covered_in_era cat era h txn n c =
    let few = h.classes in
    let below = c.class.to in
    record {
      class = record { from = c.class.from; to = omega arith };
      reads = grind (arith, is_some, reads_at, contains, fragments_in, uses_in_era, read_in_era);
      writes = λ f there.
          written_in_era cat era h n f c.class
          (c.writes f (ap (λ fs. contains fs f) (write_set_in_era cat era h txn) ∙ there));
    }
