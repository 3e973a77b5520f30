-- In every catalogue each number is found by its name.
use Rattle.sdd_script.proofs.All.{All-get_or, AreNamed, Bool, Catalogue, Column, ColumnPart, Int, IsColumn, IsName, IsNamed, IsRelation, IsSoundCatalogue, IsWhole, List, None, ReadsAgain, ReadsSpelling, Relation, RelationPart, Some, [], ap, arith, both_empty, bytes_eq, bytes_eq-Decides, column_named, column_part, columns_of, cond, empty_of_map, false, faults_of_relation, found_one, get_or, get_or-map, is_name, length, length-map, map, map-map, name_of_column, name_of_relation, nat_lt as ltb, no_faults, not, number_of_place, option_map_or, parts_of, position, prefix_len, refl, relation_at, relation_named, relation_names, relation_part, relation_rules, repeats, rules, slice_get, subst, suc, sym, take, true, unbroken, unfound_at, zero, ℕ, ◌-◌, ◌<◌, ◌∙◌, ◌∷◌, ◌≡◌, ◌≤◌}
use Rattle.sdd_script.proofs.Marks.{position-map}
use Rattle.sdd_script.proofs.UseLaws.{IsKnown}
use Rattle.sdd_script.proofs.NamePlaces.{turned, place_of_name}
use Rattle.sdd_script.proofs.ValueLaws.{columns_are, name_is}
use Rattle.sdd_script.proofs.WholeLaws.{read_again}
use Rattle.sdd_lang.specs.All.{Parts, number_of}
use Rattle.sdd_script.proofs.ReadingLaws as reading

no_column : Column
no_column = record { name = []; kind = Int }

abbrev no_relation : Relation
no_relation = record { name = []; columns = []; key = 0 }

abbrev no_part : RelationPart
no_part = relation_part no_relation

-- ---- relations

part_at : (cat : Catalogue) (rel : ℕ) → IsRelation cat rel → get_or (parts_of cat).relations (rel - 1) no_part ≡ relation_part (relation_at cat rel)
part_at cat rel h = get_or-map relation_part cat.relations (rel - 1) no_relation no_part (omega (arith, h.0, h.1))

named_number : (cat : Catalogue) → IsSoundCatalogue cat → (rel : ℕ) → IsRelation cat rel
    → number_of (name_of_relation cat rel) (relation_names (parts_of cat).relations) ≡ rel
named_number cat s rel h =
    let to : rel ≤ length (parts_of cat).relations = omega (arith, h.1, length-map cat.relations relation_part) in
    number_of_place (parts_of cat) s.valid (name_of_relation cat rel) rel no_part h.0 to (name_is cat rel
    ∙ ap (λ (r : RelationPart). r.name) (sym (part_at cat rel h)))

one_relation : (cat : Catalogue) → IsSoundCatalogue cat → (a b : ℕ) → IsRelation cat a → IsRelation cat b → name_of_relation cat a ≡ name_of_relation cat b
    → a ≡ b
one_relation cat s a b h k e = sym (named_number cat s a h)
    ∙ ap (λ (n : List ℕ). number_of n (relation_names (parts_of cat).relations)) e ∙ named_number cat s b k

relation_found : (cat : Catalogue) → IsSoundCatalogue cat → (rel : ℕ) → IsRelation cat rel → relation_named cat (name_of_relation cat rel) ≡ Some rel
relation_found cat s rel h =
    let name : List ℕ = name_of_relation cat rel in
    found_one (λ r. bytes_eq (name_of_relation cat r) name) rel (length cat.relations) h.0 h.1 ((bytes_eq-Decides name name).1 refl)
    (λ g from to e. one_relation cat s g rel (from, to) h ((bytes_eq-Decides (name_of_relation cat g) name).0 e))

-- ---- columns

abbrev names_of : List Column → List (List ℕ)
names_of columns = map (λ (c : Column). c.name) columns

differ : (cat : Catalogue) → IsSoundCatalogue cat → (rel : ℕ) → IsRelation cat rel → repeats (names_of (relation_at cat rel).columns) ≡ false
differ cat s rel h =
    let parts : Parts = parts_of cat in
    let lt : rel - 1 < length parts.relations = omega (arith, h.0, h.1, length-map cat.relations relation_part) in
    let rules : relation_rules (take (rel - 1) parts.relations)
    (get_or parts.relations (rel - 1) no_part) ≡ [] =
    empty_of_map _ _ (unfound_at faults_of_relation parts.relations (no_faults parts s.valid).relations
    (rel - 1) no_part lt) in
    let at : repeats (map (λ (c : ColumnPart). c.name)
    (get_or parts.relations (rel - 1) no_part).columns) ≡ false =
    (let a = both_empty _ _ rules in let b = both_empty _ _ a.0 in unbroken _ _ b.1) in
    let same : map (λ (c : ColumnPart). c.name) (get_or parts.relations (rel - 1) no_part).columns ≡ names_of (relation_at cat rel).columns =
    ap (λ (r : RelationPart). map (λ (c : ColumnPart). c.name) r.columns) (part_at cat rel h)
    ∙ map-map (λ (c : ColumnPart). c.name) column_part (relation_at cat rel).columns in
    subst (λ (l : List (List ℕ)). repeats l ≡ false) same at

prefix_same : {A : Type 0} (p q : A → Bool) (xs : List A) → ((x : A) → p x ≡ q x) → prefix_len p xs ≡ prefix_len q xs
prefix_same p q xs h = grind arith

position_same : {A : Type 0} (p q : A → Bool) (xs : List A) → ((x : A) → p x ≡ q x) → position p xs ≡ position q xs
position_same p q xs h = ap (λ (n : ℕ). cond (ltb n (length xs)) (Some n) None) (prefix_same (λ y. not (p y)) (λ y. not (q y)) xs (λ x. ap not (h x)))

column_at : (columns : List Column) (i : ℕ) → i < length columns → option_map_or (λ (c : Column). c.name)
    (slice_get columns i) [] ≡ get_or (names_of columns) i []
column_at [] i lt = absurd (omega arith)
column_at (c ∷ columns) zero lt = refl
column_at (c ∷ columns) (suc i) lt = column_at columns i (omega arith)

column_name_is : (columns : List Column) (column : ℕ) → 1 ≤ column → column ≤ length columns
    → name_of_column columns column ≡ get_or (names_of columns) (column - 1) []
column_name_is columns column from to = column_at columns (column - 1) (omega (arith, from, to))

column_found : (cat : Catalogue) → IsSoundCatalogue cat → (rel column : ℕ) → IsRelation cat rel
    → IsColumn cat rel column → column_named (columns_of cat rel)
    (name_of_column (columns_of cat rel) column) ≡ Some (column - 1)
column_found cat s rel column h k =
    let columns : List Column = (relation_at cat rel).columns in
    let name : List ℕ = name_of_column columns column in
    let lt : column - 1 < length (names_of columns) = omega (arith, k.0, k.1, length-map columns (λ (c : Column). c.name)) in
    let is : name ≡ get_or (names_of columns) (column - 1) [] = column_name_is columns column k.0 k.1 in
    ap (λ (l : List Column). column_named l (name_of_column l column)) (columns_are cat rel)
    ∙ position_same (λ (c : Column). bytes_eq c.name name) (λ (c : Column). bytes_eq name c.name) columns (λ c. turned c.name name)
    ∙ sym (position-map (bytes_eq name) (λ (c : Column). c.name) columns)
    ∙ ap (λ (n : List ℕ). position (bytes_eq n) (names_of columns)) is
    ∙ place_of_name (names_of columns) (column - 1) (differ cat s rel h) lt

-- ---- names

column_named_so : (cat : Catalogue) → AreNamed cat → (rel column : ℕ) → IsRelation cat rel
    → IsColumn cat rel column → is_name (name_of_column (columns_of cat rel) column) ≡ true
column_named_so cat n rel column h k =
    let columns : List Column = (relation_at cat rel).columns in
    let lt : column - 1 < length columns = omega (arith, k.0, k.1) in
    let named : is_name (get_or columns (column - 1) no_column).name ≡ true =
    All-get_or (λ (c : Column). IsName c.name) columns (column - 1) no_column lt
    (All-get_or IsNamed cat.relations (rel - 1) no_relation (omega (arith, h.0, h.1)) n.relations).columns in
    let same : name_of_column (columns_of cat rel) column ≡ (get_or columns (column - 1) no_column).name =
    ap (λ (l : List Column). name_of_column l column) (columns_are cat rel)
    ∙ column_name_is columns column k.0 k.1 ∙ get_or-map (λ (c : Column). c.name) columns
    (column - 1) no_column [] lt in
    subst (λ (l : List ℕ). is_name l ≡ true) (sym same) named

some_columns : (cat : Catalogue) → IsWhole cat → (rel : ℕ) → IsRelation cat rel → 1 ≤ length (columns_of cat rel)
some_columns cat w rel h = grind (arith, columns_are)

pub known : (cat : Catalogue) → IsSoundCatalogue cat → IsWhole cat → AreNamed cat → IsKnown cat
known cat s w n = record {
  relation = relation_found cat s;
  column = column_found cat s;
  relation_name = λ rel h. subst (λ (l : List ℕ). is_name l ≡ true) (sym (name_is cat rel))
      (All-get_or IsNamed cat.relations (rel - 1) no_relation (omega (arith, h.0, h.1)) n.relations).name;
  column_name = column_named_so cat n;
  some_column = some_columns cat w;
  few_tms = w.few_tms;
  few_dms = w.few_dms;
}

-- ---- the laws

pub reads_again : (cat : Catalogue) → IsSoundCatalogue cat → IsWhole cat → AreNamed cat → ReadsAgain cat
reads_again cat s w n = read_again cat (known cat s w n)

pub reads_spelling : (cat : Catalogue) → IsSoundCatalogue cat → IsWhole cat → ReadsSpelling cat
reads_spelling cat s w = reading.reads_spelling cat s w
