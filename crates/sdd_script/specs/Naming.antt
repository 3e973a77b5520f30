-- Relations, columns, fragments and classes by their names. Columns are placed from 0 here, all others numbered from 1.
use Rattle.std.specs.Prelude.{ℕ, ◌-◌, List, [], length, map, find, slice_get, Option, None, Result, Err}
use Rattle.std.specs.Option.{option_map, option_map_or}
use Rattle.std.specs.List.{position}
use Rattle.std.specs.Str.{bytes_eq}
use Rattle.sdd_lang.specs.All.{Catalogue, Class, Column, Kind, Relation, class_at, fragment_at, numbers_to, require}
use Rattle.sdd_words.specs.Names.{name_in}
use Rattle.sdd_words.specs.Words.{Word, Plain, Quoted}
use Rattle.sdd_script.specs.declared.fault.WorkRule.{WorkRule}
use Rattle.sdd_script.specs.declared.fault.WorkRule.TheVariants.{UnknownName}

-- the relation with a number, if it is there
abbrev pub relation_if : Catalogue → ℕ → Option Relation
relation_if cat rel = slice_get cat.relations (rel - 1)

abbrev pub columns_of : Catalogue → ℕ → List Column
columns_of cat rel = option_map_or (λ (r : Relation). r.columns) (relation_if cat rel) []

-- the number of the column that holds a relation's key
abbrev pub key_of : Catalogue → ℕ → ℕ
key_of cat rel = option_map_or (λ (r : Relation). r.key) (relation_if cat rel) 0

abbrev pub name_of_relation : Catalogue → ℕ → List ℕ
name_of_relation cat rel = option_map_or (λ (r : Relation). r.name) (relation_if cat rel) []

-- the number of the first relation with a name
abbrev pub relation_named : Catalogue → List ℕ → Option ℕ
relation_named cat name = find (λ rel. bytes_eq (name_of_relation cat rel) name) (numbers_to (length cat.relations))

-- a text is no name
abbrev pub relation_of : Catalogue → Word → Option ℕ
relation_of cat (Plain name) = relation_named cat name
relation_of cat (Quoted text) = None

-- the place of the first column with a name
abbrev pub column_named : List Column → List ℕ → Option ℕ
column_named columns name = position (λ (c : Column). bytes_eq c.name name) columns

-- the kind of the column at a place, none past the last
abbrev pub kind_of_place : List Column → ℕ → Option Kind
kind_of_place columns place = option_map (λ (c : Column). c.kind) (slice_get columns place)

-- a new name; a text is none
abbrev pub name_of : Word → Result (List ℕ) WorkRule
name_of (Plain bytes) = require UnknownName (name_in bytes)
name_of (Quoted text) = Err UnknownName

abbrev pub name_of_fragment : Catalogue → ℕ → List ℕ
name_of_fragment cat frag = (fragment_at cat frag).name

-- the number of the first fragment with a name
abbrev pub fragment_named : Catalogue → List ℕ → Option ℕ
fragment_named cat name = find (λ frag. bytes_eq (name_of_fragment cat frag) name) (numbers_to (length cat.fragments))

abbrev pub name_of_class : Catalogue → ℕ → List ℕ
name_of_class cat class = (class_at cat class).name

-- the names of the catalogue's classes
abbrev pub class_names : Catalogue → List (List ℕ)
class_names cat = map (λ (c : Class). c.name) cat.classes
