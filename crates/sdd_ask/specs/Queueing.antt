-- Which classes keep an attempt from its end: those for which its class waits, and those that keep its reads behind its own
-- writes.
use Rattle.std.specs.Prelude.{ℕ, ◌==◌, ◌&&◌, ◌||◌, Bool, length, nat_le}
use Rattle.std.specs.List.{list_any, range_with_len}
use Rattle.sdd_catalog.specs.Catalogue.{Catalogue, class_at}
use Rattle.sdd_ask.specs.Flags.{Relation}
use Rattle.sdd_ask.specs.declared.flags.TheConstants.{WIDTH}

-- the number is one of a class
abbrev pub is_class : Catalogue → ℕ → Bool
is_class cat c = nat_le 1 c && nat_le c (length cat.classes)

-- the two read at one module
abbrev pub read_at_one : Catalogue → Relation
read_at_one cat c r = list_any (λ own. list_any (λ other. other.at.0 == own.at.0) (class_at cat r).reads) (class_at cat c).reads

abbrev pub meets : Catalogue → Relation
meets cat c r = is_class cat c && (is_class cat r && read_at_one cat c r)

-- some class that reads where class c does waits for both
abbrev pub is_queued : Catalogue → Relation → Relation
is_queued cat waits c j = list_any (λ r. waits r c && (waits r j && meets cat c r)) (range_with_len 0 WIDTH)

-- an attempt of class c ends only once class j has passed
abbrev pub awaits : Catalogue → Relation → Relation
awaits cat waits c j = waits c j || is_queued cat waits c j
