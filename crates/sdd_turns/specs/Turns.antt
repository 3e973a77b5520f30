-- Orders of submitted transactions in which each may stand after those before it. The number of a transaction is its place
-- among those submitted, counted from 1, and their classes are listed in that order.
use Rattle.std.specs.Prelude.{ℕ, nat_lt, ◌-◌, ◌==◌, ◌&&◌, ◌||◌, not, Bool, true, List, [], ◌∷◌, Option, Some, None, slice_index_or}
use Rattle.std.specs.List.{list_all}
use Rattle.sdd_base.specs.declared.number.TxnNo.{TxnNo}

-- the class of a submitted transaction by its place among them, counted from 1
abbrev pub class_of : List ℕ → TxnNo → ℕ
class_of classes number = slice_index_or classes (number.0 - 1) 0

-- whether a transaction may stand somewhere after another, of the classes of submitted transactions: it is another one, and
-- where it has the other's class it was submitted later
abbrev pub may_follow : List ℕ → TxnNo → TxnNo → Bool
may_follow classes first later =
    not (first.0 == later.0) && (not (class_of classes first == class_of classes later) || nat_lt first.0 later.0)

-- whether each transaction of an order may stand after all that stand before it
abbrev pub is_in_turn : List ℕ → List TxnNo → Bool
is_in_turn classes [] = true
is_in_turn classes (first ∷ order) = list_all (may_follow classes first) order && is_in_turn classes order

-- whether a number may stand after the last one of its class
abbrev pub allows : Option ℕ → ℕ → Bool
allows None number = true
allows (Some last) number = nat_lt last number
