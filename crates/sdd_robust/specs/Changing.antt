-- What the transactions of a workload may change, in lists by relation, and whether a pivot may miss some of it.
use Rattle.std.specs.Prelude.{ℕ, ◌-◌, ◌==◌, ◌≡◌, ◌&&◌, Bool, true, false, List, [], ◌∷◌, filter, map, min, not, pos, refl}
use Rattle.std.specs.List.{flat_map, list_any, range_with_len}
use Rattle.sdd_robust_laws.specs.Accesses.{are_apart, changes_for, meets, reads_from}
use Rattle.sdd_robust_laws.specs.AccessExamples.{changes_of as changing, reads_of as reading}
use Rattle.sdd_robust_laws.specs.declared.access.Access.{Access}
use Rattle.sdd_robust.specs.declared.changing.Changing.{Changing}
use Rattle.sdd_robust.specs.declared.changing.TheConstants.{LISTS}
use Rattle.sdd_robust.specs.declared.member.Member.{Member}

-- whether a transaction may miss, by this access, what another one changes that may run while it does, and both commit
abbrev pub misses_by : List Member → List Access → Access → Bool
misses_by all pivot read = list_any (λ m. reads_from read m.accesses && not (are_apart pivot m.accesses)) all

-- whether it may by one of its accesses
abbrev pub misses_one : List Member → List Access → Bool
misses_one all pivot = list_any (misses_by all pivot) pivot

-- whether some transaction may read what one changes
abbrev pub is_read_by_one : List Member → List Access → Bool
is_read_by_one all pivot = list_any (λ m. list_any (λ change. changes_for change m.accesses) pivot) all

-- the list in which the changes of a relation stand: all relations from the last number on share the last one
abbrev pub list_of : ℕ → ℕ
list_of rel = min rel (LISTS - 1)

-- the changes of a transaction that stand in a list, each with the transaction
abbrev pub changes_of : ℕ → Member → List (Access × Member)
changes_of list m = map (λ x. (x, m)) (filter (λ x. x.changes && (list_of x.rel.0 == list)) m.accesses)

abbrev pub changes_in : List Member → ℕ → List (Access × Member)
changes_in all list = flat_map (changes_of list) all

-- all lists
abbrev pub lists_of : List Member → List (List (Access × Member))
lists_of all = map (changes_in all) (range_with_len 0 LISTS)

-- changes as they are held
abbrev pub held : List Changing → List (Access × Member)
held changes = map (λ c. (c.change, c.member.now)) changes

-- whether a pivot that reads by this access may miss the change
abbrev pub is_missed : List Access → Access → Access × Member → Bool
is_missed pivot read change = meets read change.0 && not (are_apart pivot change.1.accesses)

-- Two transactions that each read the row that the other changes, and one that reads row 1 and changes it.

abbrev one : Member
one = record { place = 0; accesses = reading (pos 1) (pos 1) 2 ∷ changing (pos 2) (pos 2) 2 true ∷ [] }

abbrev other : Member
other = record { place = 1; accesses = reading (pos 2) (pos 2) 2 ∷ changing (pos 1) (pos 1) 2 true ∷ [] }

abbrev both : Member
both = record { place = 2; accesses = reading (pos 1) (pos 1) 2 ∷ changing (pos 1) (pos 1) 2 true ∷ [] }

-- one may miss what the other changes
pub misses_the_other : misses_one (one ∷ other ∷ []) one.accesses ≡ true
misses_the_other = refl

-- but nothing among its own runs
pub misses_no_own : misses_one (one ∷ []) one.accesses ≡ false
misses_no_own = refl

-- nor does one that changes the row itself: the two can't run at once
pub misses_none_apart : misses_one (other ∷ both ∷ []) both.accesses ≡ false
misses_none_apart = refl

-- the changes of relation 1 stand in list 1, in the order of the transactions
pub in_its_list : changes_in (one ∷ other ∷ []) 1 ≡ (changing (pos 2) (pos 2) 2 true, one) ∷ (changing (pos 1) (pos 1) 2 true, other) ∷ []
in_its_list = refl

pub in_no_other_list : changes_in (one ∷ other ∷ []) 2 ≡ []
in_no_other_list = refl

pub in_the_last_list : list_of 70 ≡ 64
in_the_last_list = refl
