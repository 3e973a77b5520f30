-- From the test by links beside the pivot to what is dangerous, and back.
use Rattle.std.proofs.Common.{Bool, Contains, List, ap, false, filter, inl, inr, not, refl, slice_index_or as get_or, subst, sym, take, true, length, ℕ, ◌&&◌, ◌<◌, ◌≡◌, ◌≤◌, ◌⊎◌}
use Rattle.std.proofs.lemmas.Bool.{and_from, and_parts}
use Rattle.std.proofs.lemmas.List.Folds.{Any-from_list_any, list_any-from_Any}
use Rattle.sdd_links.proofs.Members.{Contains-filter, Contains-from_filter, Contains-from_map, Contains-map}
use Rattle.sdd_robust_laws.specs.Accesses.{are_apart, are_of_one_row, changes_for, reads_from}
use Rattle.sdd_robust_laws.specs.Shown.{AreLinked, IsBeside, IsDangerous}
use Rattle.sdd_robust_laws.specs.Shown.AreLinked.{further as links_further, itself as links_itself}
use Rattle.sdd_robust_laws.specs.declared.access.Access.{Access}
use Rattle.sdd_robust.specs.Changing.{misses_by}
use Rattle.sdd_robust.specs.Leading.{Leads}
use Rattle.sdd_robust.specs.Leading.Leads.{further, itself}
use Rattle.std.specs.Borrow.{Bor}
use Rattle.sdd_robust.specs.Members.{StandFor, kinds, lent}
use Rattle.sdd_robust.specs.Pivots.{Closes, IsPivot, beside, may_miss}
use Rattle.sdd_robust.specs.PlaceSets.{Lacks}
use Rattle.sdd_robust.specs.declared.member.Member.{Member}
use Rattle.sdd_robust.proofs.Flooding.{leads_first}
use Rattle.sdd_robust.proofs.Rests.{LeadNowhere}
use Rattle.sdd_robust.proofs.Steps.{each_all}

abbrev is_beside : List Access → Member → Bool
is_beside pivot m = not (are_apart pivot m.accesses)

not_true : (b : Bool) → not b ≡ true → b ≡ false
not_true true e = sym e
not_true false e = refl

-- those beside the pivot are those that the filter keeps

from_filter : (all : List Member) (pivot c : List Access) → Contains (kinds (beside pivot all)) c → IsBeside (kinds all) pivot c
from_filter all pivot c h =
    let m = Contains-from_map (λ (m : Member). m.accesses) (filter (is_beside pivot) all) c h in
    let f = Contains-from_filter (is_beside pivot) all m.0 m.1 in
    record {
      there = subst (Contains (kinds all)) (sym m.2) (Contains-map (λ (m : Member). m.accesses) all m.0 f.0);
      may_both = subst (λ z. are_apart pivot z ≡ false) (sym m.2) (not_true _ f.1);
    }

to_filter : (all : List Member) (pivot c : List Access) → IsBeside (kinds all) pivot c → Contains (kinds (beside pivot all)) c
to_filter all pivot c b =
    let m = Contains-from_map (λ (m : Member). m.accesses) all c b.there in
    subst (Contains (kinds (beside pivot all))) (sym m.2)
    (Contains-map (λ (m : Member). m.accesses) (filter (is_beside pivot) all) m.0
    (Contains-filter (is_beside pivot) all m.0 (ap not (subst (λ z. are_apart pivot z ≡ false) m.2 b.may_both)) m.1))

to_linked : (all : List Member) (pivot c a : List Access) → Leads (kinds (beside pivot all)) c a → AreLinked (kinds all) pivot c a
to_linked all pivot _ _ (itself c there) = links_itself c (from_filter all pivot c there)
to_linked all pivot _ _ (further c d a there e rest) =
    links_further c d a (from_filter all pivot c there) e (to_linked all pivot d a rest)

from_linked : (all : List Member) (pivot c a : List Access) → AreLinked (kinds all) pivot c a → Leads (kinds (beside pivot all)) c a
from_linked all pivot _ _ (links_itself c there) = itself c (to_filter all pivot c there)
from_linked all pivot _ _ (links_further c d a there e rest) =
    further c d a (to_filter all pivot c there) e (from_linked all pivot d a rest)

-- a dangerous pivot is one by some access that it reads by
pub closes : (all : List Member) (pivot : List Access) → (d : IsDangerous (kinds all) pivot)
    → Closes (kinds (beside pivot all)) pivot d.read d.missed d.missing
closes all pivot d = record {
  leads = from_linked all pivot d.missed d.missing d.linked;
  missed = d.reads;
  missing = list_any-from_Any (λ change. changes_for change d.missing && not (are_of_one_row d.read change)) pivot (
    d.of_change.0,
    d.change,
    d.of_change.1,
    d.of_change.2,
    and_from _ _ d.changes (ap not d.differ),
  );
}

pub dangerous : (all : List Member) (pivot : List Access) (read : Access) (c a : List Access) → Contains pivot read
    → Closes (kinds (beside pivot all)) pivot read c a → IsDangerous (kinds all) pivot
dangerous all pivot read c a there is =
    let change = Any-from_list_any (λ change. changes_for change a && not (are_of_one_row read change)) pivot is.missing in
    let both = and_parts _ _ change.4 in
    record {
      missed = c;
      missing = a;
      linked = to_linked all pivot c a is.leads;
      read = read;
      change = change.1;
      of_read = there;
      of_change = (change.0, change.2, change.3);
      reads = is.missed;
      changes = both.0;
      differ = not_true _ both.1;
    }

-- it is no pivot by an access that misses no change
not_so : (b : Bool) → false ≡ b → b ≡ true → ⊥
not_so b none is = cc

pub none_missed_by : (all few : List Member) → StandFor all few → (pivot : List Access) (read : Access) → false ≡ misses_by all pivot read
    → (c a : List Access) → Closes (kinds (beside pivot few)) pivot read c a → ⊥
none_missed_by all few stand pivot read none c a is =
    let m = Contains-from_map (λ (m : Member). m.accesses) (beside pivot few) c (leads_first (kinds (beside pivot few)) c a is.leads) in
    let f = Contains-from_filter (is_beside pivot) few m.0 m.1 in
    let there = stand.there m.0 f.0 in
    not_so (misses_by all pivot read) none
    (list_any-from_Any (λ (m : Member). reads_from read m.accesses && not (are_apart pivot m.accesses)) all (
      there.0,
      m.0,
      there.1,
      there.2,
      and_from _ _ (subst (λ z. reads_from read z ≡ true) m.2 is.missed) f.1,
    ))

-- nor by one from which conflicts lead nowhere, that isn't missed, or that can't run while it does

abbrev pub ClosesNone : List Member → List Access → Access → Member → Type 0
ClosesNone few pivot read m =
    not (are_apart pivot m.accesses) ≡ true → (a : List Access) → Closes (kinds (beside pivot few)) pivot read m.accesses a → ⊥

pub no_start : (few : List Member) (pivot : List Access) (read : Access) (left : List ℕ) (place : ℕ) (m : Member)
    → LeadNowhere few pivot read left → place < length few → get_or few place m ≡ m
    → Lacks left place ⊎ ((reads_from read m.accesses && not (are_apart pivot m.accesses)) ≡ false) → ClosesNone few pivot read m
no_start few pivot read left place m nowhere l is (inl lacks) b a closes =
    nowhere m (place, l, is) b lacks a closes.leads closes.missing
no_start few pivot read left place m nowhere l is (inr none) b a closes = not_so _ (sym none) (and_from _ _ closes.missed b)

-- nor where by none of them it is one
pub all_close_none : (few : List Member) (pivot : List Access) (read : Access) (n : ℕ) → length few ≤ n
    → ((m : Member) → Contains (take n few) m → ClosesNone few pivot read m)
    → (c a : List Access) → Closes (kinds (beside pivot few)) pivot read c a → ⊥
all_close_none few pivot read n l none c a is =
    let m = Contains-from_map (λ (m : Member). m.accesses) (beside pivot few) c (leads_first (kinds (beside pivot few)) c a is.leads) in
    let f = Contains-from_filter (is_beside pivot) few m.0 m.1 in
    each_all (ClosesNone few pivot read) few n l none m.0 f.0 f.1 a (subst (λ z. Closes (kinds (beside pivot few)) pivot read z a) m.2 is)

-- one that may run while the pivot does is beside it
pub start_beside : (few : List Member) (pivot : List Access) (read : Access) (place : ℕ) (m : Member) → place < length few
    → get_or few place m ≡ m → (reads_from read m.accesses && not (are_apart pivot m.accesses)) ≡ true
    → Contains (beside pivot few) m × (reads_from read m.accesses ≡ true)
start_beside few pivot read place m l is both =
    let parts = and_parts _ _ both in (Contains-filter (is_beside pivot) few m parts.1 (place, l, is), parts.0)

-- what is found is a pivot
pub is_pivot : (all : List Member) (pivot p m a : Member) (read : Access) → Contains all pivot → Contains pivot.accesses read → p ≡ pivot
    → Contains (beside pivot.accesses all) m → Contains (beside pivot.accesses all) a
    → Closes (kinds (beside pivot.accesses all)) pivot.accesses read m.accesses a.accesses → IsPivot all p m a
unfolding dangerous
is_pivot all pivot p m a read there reads same of_m of_a is =
    subst (λ z. IsPivot all z m a) (sym same) (record {
      pivot_there = there;
      missed_there = (Contains-from_filter (is_beside pivot.accesses) all m of_m).0;
      missing_there = (Contains-from_filter (is_beside pivot.accesses) all a of_a).0;
      dangerous = dangerous all pivot.accesses read m.accesses a.accesses reads is;
      missed_is = refl;
      missing_is = refl;
    })

-- and where none is found, there is none
pub no_pivot_of : (all : List Member) (pivot : Member) (n : ℕ) → length pivot.accesses ≤ n
    → ((read : Access) → Contains (take n pivot.accesses) read
    → (c a : List Access) → Closes (kinds (beside pivot.accesses all)) pivot.accesses read c a → ⊥)
    → IsDangerous (kinds all) pivot.accesses → ⊥
no_pivot_of all pivot n l none d =
    each_all (λ read. (c a : List Access) → Closes (kinds (beside pivot.accesses all)) pivot.accesses read c a → ⊥) pivot.accesses n l none
    d.read d.of_read d.missed d.missing (closes all pivot.accesses d)

-- none of those that are reached may miss a change of the pivot
clash : (pivot : List Access) (read : Access) (a : List Access) (m : Member) → a ≡ m.accesses → may_miss m.accesses pivot read ≡ false
    → may_miss a pivot read ≡ true → ⊥
clash pivot read a m e p q = cc

pub none_missing : (given items : List (Bor Member)) (pivot : List Access) (read : Access) (n : ℕ) → given ≡ items → length (lent given) ≤ n
    → ((m : Member) → Contains (take n (lent given)) m → may_miss m.accesses pivot read ≡ false)
    → (a : List Access) → Contains (kinds (lent items)) a → may_miss a pivot read ≡ true → ⊥
none_missing given items pivot read n e l none a there =
    let m = Contains-from_map (λ (m : Member). m.accesses) (lent items) a there in
    clash pivot read a m.0 m.2
    (each_all (λ (m : Member). may_miss m.accesses pivot read ≡ false) (lent given) n l none m.0 (subst (λ z. Contains (lent z) m.0) (sym e) m.1))
