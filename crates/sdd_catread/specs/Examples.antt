-- Worked: which fault comes first, and what absence means.
use Rattle.std.specs.Prelude.{pos, ◌≡◌, [], ◌∷◌, codes, Ok, Err, refl}
use Rattle.std.specs.Str.{is_utf8, chars}
use Rattle.toml.proofs.OnLiterals.{toml_on_literals}
use Rattle.toml.specs.Data.{Data, string, integer, array, table, no_items, item, Members, no_members, member}
use Rattle.sdd_catalog.specs.Rules.{faults_of, least_key, greatest_key}
use Rattle.sdd_catalog.specs.declared.fault.CatRule.TheVariants.{NotToml, MissingField, WrongKind, UnknownField}
use Rattle.sdd_catalog.specs.declared.fault.Part.TheVariants.{Relation, Fragment}
use Rattle.sdd_catread.specs.Faults.{broken, numbered_location}
use Rattle.sdd_catread.specs.Form.{top, fragment_at, relation_at, parts_at}
use Rattle.sdd_catread.specs.Reading.{parts_in, catalogue_in}

-- a file with these fields beside `tms = 1` and `dms = 1`, in the order of their names
abbrev file : Data → Data → Members
file class relation = member (codes "class") class (member (codes "dms") (integer (pos 1)) (member (codes "relation") relation (member (codes "tms") (integer (pos 1)) no_members)))

-- a field that isn't listed comes before one that is absent
unlisted_first : parts_at (member (codes "x") (integer (pos 1)) no_members) ≡ Err (broken top UnknownField)
unfolding parts_at
unlisted_first = refl

-- that `class` is no array of tables comes before what is in a relation's table
shape_first : parts_at (file (integer (pos 5)) (array (item (table no_members) no_items))) ≡ Err (broken top WrongKind)
unfolding parts_at
shape_first = refl

-- the second relation has no name
second_relation : parts_at (file (array no_items)
    (array (item (table (member (codes "columns") (array no_items)
    (member (codes "key") (string (codes "a")) (member (codes "name") (string (codes "r")) no_members))))
    (item (table no_members) no_items)))) ≡ Err (broken (numbered_location Relation 2) MissingField)
unfolding parts_at relation_at
second_relation = refl

-- a fragment without bounds has every key
no_bounds : fragment_at (numbered_location Fragment 1)
    (table (member (codes "copies") (array (item (integer (pos 1)) no_items))
    (member (codes "name") (string (codes "f")) (member (codes "relation") (string (codes "r")) no_members))))
    ≡ Ok (record { name = codes "f"; relation = codes "r"; from = least_key; to = greatest_key; copies = 1 ∷ [] })
unfolding fragment_at
no_bounds = refl

-- an empty file is TOML, and has no `tms`
empty_file : catalogue_in [] ≡ Err (broken top MissingField)
unfolding catalogue_in parts_in parts_at is_utf8 chars toml_on_literals
empty_file = refl

-- modules alone make a catalogue
modules_alone : catalogue_in (codes "tms = 1\ndms = 2\n") ≡ Ok (record { tms = 1; dms = 2; relations = []; fragments = []; classes = [] })
unfolding catalogue_in parts_in parts_at faults_of is_utf8 chars toml_on_literals
modules_alone = refl

-- half a line isn't TOML
half_a_line : catalogue_in (codes "tms = ") ≡ Err (broken top NotToml)
unfolding catalogue_in parts_in parts_at is_utf8 chars toml_on_literals
half_a_line = refl
