-- The form of a catalogue's tables. In a table first comes whether it has a field that isn't listed, then its fields in the listed order.
use Rattle.std.specs.Prelude.{List, [], ◌∷◌, codes, Option, Some, None, Result, Ok}
use Rattle.toml.specs.Data.{Data, Members, get_member}
use Rattle.sdd_catalog.specs.Rules.{least_key, greatest_key}
use Rattle.sdd_catalog.specs.declared.fault.CatFault.{CatFault}
use Rattle.sdd_catalog.specs.declared.fault.Part.TheVariants.{Top, Relation, Fragment, Class}
use Rattle.sdd_catalog.specs.declared.parts.Parts.{Parts}
use Rattle.sdd_catalog.specs.declared.parts.RelationPart.{RelationPart}
use Rattle.sdd_catalog.specs.declared.parts.ColumnPart.{ColumnPart}
use Rattle.sdd_catalog.specs.declared.parts.FragmentPart.{FragmentPart}
use Rattle.sdd_catalog.specs.declared.parts.ClassPart.{ClassPart}
use Rattle.sdd_catalog.specs.declared.parts.ReadPart.{ReadPart}
use Rattle.sdd_catread.specs.declared.location.Location.{Location}
use Rattle.sdd_base.specs.Readings.{◌>>=◌, along}
use Rattle.sdd_catread.specs.Faults.{numbered, numbered_location}
use Rattle.sdd_catread.specs.Values.{table_of, only, present, whole_of, key_or, name_of, kind_of, elements_of, tables_or_none}

-- an array, its elements in order, all at one location
abbrev pub list_of : {A : Type 0} → (Location → Data → Result A CatFault) → Location → Data → Result (List A) CatFault
list_of f location d = elements_of location d >>= along (λ _. f location) 1

abbrev pub list_or_none : {A : Type 0} → (Location → Data → Result A CatFault) → Location → Option Data → Result (List A) CatFault
list_or_none f location None = Ok []
list_or_none f location (Some d) = list_of f location d

unfoldable pub column_at : Location → Data → Result ColumnPart CatFault
column_at location d = do
  ms ← table_of location d
  ms ← only location (codes "name" ∷ codes "kind" ∷ []) ms
  name ← present location (get_member (codes "name") ms)
  name ← name_of location name
  kind ← present location (get_member (codes "kind") ms)
  kind ← kind_of location kind
  Ok (record { name = name; kind = kind })

unfoldable pub relation_at : Location → Data → Result RelationPart CatFault
relation_at location d = do
  ms ← table_of location d
  ms ← only location (codes "name" ∷ codes "columns" ∷ codes "key" ∷ []) ms
  name ← present location (get_member (codes "name") ms)
  name ← name_of location name
  columns ← present location (get_member (codes "columns") ms)
  columns ← list_of column_at location columns
  key ← present location (get_member (codes "key") ms)
  key ← name_of location key
  Ok (record { name = name; columns = columns; key = key })

unfoldable pub fragment_at : Location → Data → Result FragmentPart CatFault
fragment_at location d = do
  ms ← table_of location d
  ms ← only location (codes "name" ∷ codes "relation" ∷ codes "from" ∷ codes "to" ∷ codes "copies" ∷ []) ms
  name ← present location (get_member (codes "name") ms)
  name ← name_of location name
  relation ← present location (get_member (codes "relation") ms)
  relation ← name_of location relation
  from ← key_or location least_key (get_member (codes "from") ms)
  to ← key_or location greatest_key (get_member (codes "to") ms)
  copies ← present location (get_member (codes "copies") ms)
  copies ← list_of whole_of location copies
  Ok (record { name = name; relation = relation; from = from; to = to; copies = copies })

unfoldable pub read_at : Location → Data → Result ReadPart CatFault
read_at location d = do
  ms ← table_of location d
  ms ← only location (codes "fragment" ∷ codes "at" ∷ []) ms
  fragment ← present location (get_member (codes "fragment") ms)
  fragment ← name_of location fragment
  at ← present location (get_member (codes "at") ms)
  at ← whole_of location at
  Ok (record { fragment = fragment; at = at })

unfoldable pub class_at : Location → Data → Result ClassPart CatFault
class_at location d = do
  ms ← table_of location d
  ms ← only location (codes "name" ∷ codes "tm" ∷ codes "reads" ∷ codes "writes" ∷ []) ms
  name ← present location (get_member (codes "name") ms)
  name ← name_of location name
  tm ← present location (get_member (codes "tm") ms)
  tm ← whole_of location tm
  reads ← list_or_none read_at location (get_member (codes "reads") ms)
  writes ← list_or_none name_of location (get_member (codes "writes") ms)
  Ok (record { name = name; tm = tm; reads = reads; writes = writes })

-- the location of the faults that are of no relation, fragment or class
abbrev pub top : Location
top = numbered_location Top 0

-- the whole file: the table at the top by itself, and then each relation, fragment and class
unfoldable pub parts_at : Members → Result Parts CatFault
parts_at ms = do
  ms ← only top (codes "tms" ∷ codes "dms" ∷ codes "relation" ∷ codes "fragment" ∷ codes "class" ∷ []) ms
  tms ← present top (get_member (codes "tms") ms)
  tms ← whole_of top tms
  dms ← present top (get_member (codes "dms") ms)
  dms ← whole_of top dms
  relations ← tables_or_none top (get_member (codes "relation") ms)
  fragments ← tables_or_none top (get_member (codes "fragment") ms)
  classes ← tables_or_none top (get_member (codes "class") ms)
  relations ← numbered relation_at Relation relations
  fragments ← numbered fragment_at Fragment fragments
  classes ← numbered class_at Class classes
  Ok (record { tms = tms; dms = dms; relations = relations; fragments = fragments; classes = classes })
