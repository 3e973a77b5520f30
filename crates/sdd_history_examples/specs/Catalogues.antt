-- The catalogues of the worked histories, with names.
use Rattle.std.specs.Prelude.{ℕ, ◌+◌, List, [], ◌∷◌, map}
use Rattle.std.specs.List.{enumerate_from}
use Rattle.sdd_laws.specs.All.{Catalogue, Class, Column, Eras, Fragment, Read, Relation, Text, dm_no, frag_no, tm_no, with_classes}
use Rattle.sdd_laws.specs.links.Examples as examples

-- relations, columns, fragments and classes are named a, b, c and so on

abbrev letter : ℕ → Text
letter n = (97 + n) ∷ []

abbrev named_column : ℕ × Column → Column
named_column p = record p.1 { name = letter p.0 }

abbrev named_relation : ℕ × Relation → Relation
named_relation p = record p.1 { name = letter p.0; columns = map named_column (enumerate_from 0 p.1.columns) }

abbrev named_fragment : ℕ × Fragment → Fragment
named_fragment p = record p.1 { name = letter p.0 }

abbrev named_class : ℕ × Class → Class
named_class p = record p.1 { name = letter p.0 }

abbrev pub named : Catalogue → Catalogue
named cat =
    record cat {
      relations = map named_relation (enumerate_from 0 cat.relations);
      fragments = map named_fragment (enumerate_from 0 cat.fragments);
      classes = map named_class (enumerate_from 0 cat.classes);
    }

-- those of the histories whose orders stand with the definition of the serial order

abbrev pub bridge : Catalogue
bridge = named examples.bridge

abbrev pub one_reader : Catalogue
one_reader = named examples.one_reader

abbrev pub crossing : Catalogue
crossing = named examples.crossing

-- one catalogue from the beginning
abbrev pub one_era : Catalogue → Eras
one_era cat = (0, cat) ∷ []

-- classes of module 1, which write the low keys, or read them

abbrev writer : List Read → Class
writer reads = record { name = []; tm = tm_no 1; reads = reads; writes = frag_no 1 ∷ [] }

abbrev low_read : List Read
low_read = record { fragment = frag_no 1; at = dm_no 1 } ∷ []

abbrev reader : Class
reader = record { name = []; tm = tm_no 1; reads = low_read; writes = [] }

abbrev pub one_class : Catalogue
one_class = named (with_classes 1 (writer low_read ∷ []))

abbrev pub one_writer : Catalogue
one_writer = named (with_classes 1 (writer [] ∷ []))

-- a class and a further one, and the list in which the first is retired

abbrev pub both_classes : Catalogue
both_classes = named (with_classes 1 (writer low_read ∷ reader ∷ []))

abbrev pub second_class_list : Catalogue
second_class_list = named (with_classes 1 (record { name = []; tm = tm_no 1; reads = []; writes = [] } ∷ reader ∷ []))

-- the second is in force from event 5
abbrev pub two_eras : Eras
two_eras = (0, one_class) ∷ (5, second_class_list) ∷ []
