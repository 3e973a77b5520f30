-- Every relation has so few columns that each has a number.
use Rattle.sdd_script.proofs.All.{Catalogue, IsSoundCatalogue, Relation, RelationPart, Some, ap, arith, column_part, columns_of, get_or, get_or-map, get_or_from_slice_get, have_numbers, length, length-map, map, no_relation, parts_of, relation_part, slice_get, slice_get_within, subst, ℕ, ◌-◌, ◌<◌, ◌^◌, ◌∙◌, ◌≡◌}

few_of : (cat : Catalogue) → IsSoundCatalogue cat → (k : ℕ) (r : Relation) → slice_get cat.relations k ≡ Some r → length r.columns < 2 ^ 32 - 1
few_of cat sound k r e =
    let within : k < length cat.relations = slice_get_within cat.relations k r e in
    let many : length (map relation_part cat.relations) ≡ length cat.relations = length-map cat.relations relation_part in
    let few : length (get_or (map relation_part cat.relations) k no_relation).columns < 2 ^ 32 - 1 =
    have_numbers (parts_of cat) sound.valid k no_relation (omega arith) in
    let at : get_or (map relation_part cat.relations) k no_relation ≡ relation_part r =
    get_or-map relation_part cat.relations k r no_relation within ∙ ap relation_part (get_or_from_slice_get cat.relations k r r e) in
    let same : length (relation_part r).columns ≡ length r.columns = length-map r.columns column_part in
    let there : length (relation_part r).columns < 2 ^ 32 - 1 = subst (λ (p : RelationPart). length p.columns < 2 ^ 32 - 1) at few in
    omega arith

pub few_columns : (cat : Catalogue) (rel : ℕ) → IsSoundCatalogue cat → length (columns_of cat rel) < 2 ^ 32 - 1
few_columns cat rel sound = (grind (arith, few_of))
