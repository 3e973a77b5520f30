-- Sets of fragments, as flags by the fragments' numbers.
use Rattle.std.specs.Prelude.{ℕ, Bool, false, List, length, filter, fold, slice_index_or}
use Rattle.std.specs.Ordering.{nat_cmp}
use Rattle.std.specs.BTreeSet.{insert_key}
use Rattle.sdd_catalog.specs.Catalogue.{Catalogue, numbers_to}

-- whether the flag of a number is set
abbrev pub has : List Bool → ℕ → Bool
has flags f = slice_index_or flags f false

-- the catalogue's fragments whose flags are set, ascending
abbrev pub members : Catalogue → List Bool → List ℕ
members cat flags = filter (has flags) (numbers_to (length cat.fragments))

-- ascending numbers, with more of them
abbrev pub put_all : List ℕ → List ℕ → List ℕ
put_all numbers more = fold (λ ks k. insert_key nat_cmp ks k) numbers more
