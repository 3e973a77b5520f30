-- What the values and fields of a catalogue's tables are. A reading is given the location of its fault.
use Rattle.std.specs.Prelude.{ℕ, ℤ, pos, ◌^◌, nat_lt, Bool, true, ◌&&◌, if◌then◌else◌, List, [], ◌∷◌, codes, Option, Some, None, is_some, Result, Ok, Err}
use Rattle.std.specs.List.{list_any, list_all}
use Rattle.std.specs.Str.{bytes_eq}
use Rattle.toml.specs.Data.{Data, string, integer, array, table, Items, no_items, item, Members, no_members, member, as_table}
use Rattle.sdd_base.specs.Name.{is_name}
use Rattle.sdd_catalog.specs.declared.fault.CatFault.{CatFault}
use Rattle.sdd_catalog.specs.declared.fault.CatRule.TheVariants.{WrongKind, MissingField, UnknownField}
use Rattle.sdd_catalog.specs.declared.parts.Kind.{Kind}
use Rattle.sdd_catalog.specs.declared.parts.Kind.TheVariants.{Int, Text}
use Rattle.sdd_catread.specs.declared.location.Location.{Location}
use Rattle.sdd_base.specs.Readings.{◌>>=◌}
use Rattle.sdd_catread.specs.Faults.{broken}

-- tables

abbrev pub table_of : Location → Data → Result Members CatFault
table_of location (table ms) = Ok ms
table_of location d = Err (broken location WrongKind)

abbrev pub is_listed : List (List ℕ) → List ℕ → Bool
is_listed names key = list_any (bytes_eq key) names

-- whether each field of a table is listed
abbrev pub has_only : List (List ℕ) → Members → Bool
has_only names no_members = true
has_only names (member key value rest) = is_listed names key && has_only names rest

-- the table, where each of its fields is listed
abbrev pub only : Location → List (List ℕ) → Members → Result Members CatFault
only location names ms = if has_only names ms then Ok ms else Err (broken location UnknownField)

-- a field that may not be absent
abbrev pub present : Location → Option Data → Result Data CatFault
present location None = Err (broken location MissingField)
present location (Some d) = Ok d

-- numbers

-- a whole number from 0 to 4294967295
abbrev pub whole_of : Location → Data → Result ℕ CatFault
whole_of location (integer (pos n)) = if nat_lt n (2 ^ 32) then Ok n else Err (broken location WrongKind)
whole_of location d = Err (broken location WrongKind)

-- a whole number that a key may be
abbrev pub key_of : Location → Data → Result ℤ CatFault
key_of location (integer z) = Ok z
key_of location d = Err (broken location WrongKind)

abbrev pub key_or : Location → ℤ → Option Data → Result ℤ CatFault
key_or location absent None = Ok absent
key_or location absent (Some d) = key_of location d

-- words

abbrev pub name_in : Location → List ℕ → Result (List ℕ) CatFault
name_in location text = if is_name text then Ok text else Err (broken location WrongKind)

abbrev pub name_of : Location → Data → Result (List ℕ) CatFault
name_of location (string text) = name_in location text
name_of location d = Err (broken location WrongKind)

abbrev pub kind_in : Location → List ℕ → Result Kind CatFault
kind_in location word =
    if bytes_eq word (codes "int") then Ok Int
    else if bytes_eq word (codes "text") then Ok Text
    else Err (broken location WrongKind)

abbrev pub kind_of : Location → Data → Result Kind CatFault
kind_of location (string word) = kind_in location word
kind_of location d = Err (broken location WrongKind)

-- arrays

abbrev pub listed : Items → List Data
listed no_items = []
listed (item d ds) = d ∷ listed ds

abbrev pub elements_of : Location → Data → Result (List Data) CatFault
elements_of location (array ds) = Ok (listed ds)
elements_of location d = Err (broken location WrongKind)

abbrev pub is_table : Data → Bool
is_table d = is_some (as_table d)

abbrev pub all_tables : List Data → Bool
all_tables ds = list_all is_table ds

abbrev pub array_of_tables : Location → Data → Result (List Data) CatFault
array_of_tables location d = elements_of location d >>= (λ ds. if all_tables ds then Ok ds else Err (broken location WrongKind))

abbrev pub tables_or_none : Location → Option Data → Result (List Data) CatFault
tables_or_none location None = Ok []
tables_or_none location (Some d) = array_of_tables location d
