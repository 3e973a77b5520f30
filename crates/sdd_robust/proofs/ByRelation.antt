-- Changes by relation, and what follows where a pivot misses none, or none is missed of it.
use Rattle.std.proofs.Common.{Bool, Global, List, Vec, [], ap, arith, cond, false, filter, length, map, not, refl, slice_index_or as get_or, subst, sym, true, int_le, ℕ, ◌&&◌, ◌++◌, ◌+◌, ◌<◌, ◌==◌, ◌||◌, ◌∙◌, ◌∷◌, ◌≡◌}
use Rattle.std.proofs.Math.ListN.{get_or-map}
use Rattle.std.proofs.lemmas.Bool.{and_from, eqb-false, ne_eqb}
use Rattle.std.proofs.lemmas.List.{length-map, map-append}
use Rattle.std.proofs.lemmas.List.Folds.{list_any-append, list_any-from_Any}
use Rattle.std.proofs.lemmas.List.FromFn.{get_or-map-range_with_len, length-map-range_with_len, map-range_with_len_more}
use Rattle.std.specs.List.{list_any, range_with_len}
use Rattle.sdd_links.proofs.Members.{Contains-from_map}
use Rattle.sdd_robust_laws.specs.Accesses.{are_apart, changes_for, columns_meet, meets, reads_from}
use Rattle.sdd_robust_laws.specs.Shown.{AreLinked, IsBeside, IsDangerous}
use Rattle.sdd_robust_laws.specs.Shown.AreLinked.{further, itself}
use Rattle.sdd_robust_laws.specs.declared.access.Access.{Access}
use Rattle.sdd_robust.specs.Changing.{changes_in, changes_of, held, is_missed, is_read_by_one, list_of, misses_by, misses_one}
use Rattle.sdd_robust.specs.Members.{kinds}
use Rattle.sdd_robust.specs.declared.changing.Changing.{Changing}
use Rattle.sdd_robust.specs.declared.member.Member.{Member}

-- An access meets none of another relation, so it is enough to look at the list of its own.

other_number : (a b : ℕ) → (list_of b == list_of a) ≡ false → (a == b) ≡ false
other_number a b e = ne_eqb a b (λ same. eqb-false (list_of b) (list_of a) e (ap list_of (sym same)))

other_list : (read y : Access) → (list_of y.rel.0 == list_of read.rel.0) ≡ false → meets read y ≡ false
other_list read y e =
    ap (λ b. (b && (int_le read.least y.greatest && int_le y.least read.greatest)) && columns_meet read.column y.column)
    (other_number read.rel.0 y.rel.0 e)

any_kept : {X Y : Type 0} (f : Y → Bool) (g : X → Y) (x : X) (xs : List X) (b : Bool)
    → list_any f (map g (cond b (x ∷ xs) xs)) ≡ cond b (f (g x) || list_any f (map g xs)) (list_any f (map g xs))
any_kept f g x xs true = refl
any_kept f g x xs false = refl

one_more : (changes same meets free any rest : Bool) → (same ≡ false → meets ≡ false) → rest ≡ (any && free)
    → cond (changes && same) ((meets && free) || rest) rest ≡ (((changes && meets) || any) && free)
one_more false same meets free any rest none e = e
one_more true false meets free any rest none e = subst (λ z. rest ≡ ((z || any) && free)) (sym (none refl)) e
one_more true true false free any rest none e = e
one_more true true true true any rest none e = refl
one_more true true true false true rest none e = e
one_more true true true false false rest none e = e

of_accesses : (pivot : List Access) (read : Access) (m : Member) (ys : List Access)
    → list_any (is_missed pivot read) (map (λ x. (x, m)) (filter (λ x. x.changes && (list_of x.rel.0 == list_of read.rel.0)) ys))
    ≡ (list_any (λ y. y.changes && meets read y) ys && not (are_apart pivot m.accesses))
of_accesses pivot read m [] = refl
of_accesses pivot read m (y ∷ ys) =
    any_kept (is_missed pivot read) (λ (x : Access). (x, m)) y
    (filter (λ (x : Access). x.changes && (list_of x.rel.0 == list_of read.rel.0)) ys) (y.changes && (list_of y.rel.0 == list_of read.rel.0))
    ∙ one_more y.changes (list_of y.rel.0 == list_of read.rel.0) (meets read y) (not (are_apart pivot m.accesses))
    (list_any (λ y. y.changes && meets read y) ys) _ (other_list read y) (of_accesses pivot read m ys)

of_members : (pivot : List Access) (read : Access) (all : List Member)
    → list_any (is_missed pivot read) (changes_in all (list_of read.rel.0))
    ≡ list_any (λ m. list_any (λ y. y.changes && meets read y) m.accesses && not (are_apart pivot m.accesses)) all
of_members pivot read [] = refl
of_members pivot read (m ∷ all) =
    list_any-append (is_missed pivot read) (changes_of (list_of read.rel.0) m) (changes_in all (list_of read.rel.0))
    ∙ ap (λ b. b || list_any (is_missed pivot read) (changes_in all (list_of read.rel.0))) (of_accesses pivot read m m.accesses)
    ∙ ap (λ b. (list_any (λ y. y.changes && meets read y) m.accesses && not (are_apart pivot m.accesses)) || b) (of_members pivot read all)

pub no_read : (pivot : List Access) (read : Access) (all : List Member) → read.reads ≡ false → misses_by all pivot read ≡ false
no_read pivot read [] none = refl
no_read pivot read (m ∷ all) none =
    ap (λ b. ((b && list_any (λ y. y.changes && meets read y) m.accesses) && not (are_apart pivot m.accesses)) || misses_by all pivot read) none
    ∙ no_read pivot read all none

by_read : (pivot : List Access) (read : Access) (all : List Member) → read.reads ≡ true
    → list_any (λ m. list_any (λ y. y.changes && meets read y) m.accesses && not (are_apart pivot m.accesses)) all ≡ misses_by all pivot read
by_read pivot read [] is = refl
by_read pivot read (m ∷ all) is =
    ap (λ b. ((b && list_any (λ y. y.changes && meets read y) m.accesses) && not (are_apart pivot m.accesses))
    || list_any (λ m. list_any (λ y. y.changes && meets read y) m.accesses && not (are_apart pivot m.accesses)) all) (sym is)
    ∙ ap (λ b. (reads_from read m.accesses && not (are_apart pivot m.accesses)) || b) (by_read pivot read all is)

any_held : (pivot : List Access) (read : Access) (changes : List Changing)
    → list_any (λ c. is_missed pivot read (c.change, c.member.now)) changes ≡ list_any (is_missed pivot read) (held changes)
any_held pivot read [] = refl
any_held pivot read (c ∷ changes) = ap (λ b. is_missed pivot read (c.change, c.member.now) || b) (any_held pivot read changes)

pub by_list : (pivot : List Access) (read : Access) (all : List Member) (changes : List Changing) → read.reads ≡ true
    → held changes ≡ changes_in all (list_of read.rel.0)
    → list_any (λ c. is_missed pivot read (c.change, c.member.now)) changes ≡ misses_by all pivot read
by_list pivot read all changes is e =
    any_held pivot read changes ∙ ap (list_any (is_missed pivot read)) e ∙ of_members pivot read all ∙ by_read pivot read all is

-- the lists that are held are those of the definition

abbrev pub held_in : Vec Changing Global → List (Access × Member)
held_in list = held list.items

pub as_many : (f : ℕ → List (Access × Member)) (lists : List (Vec Changing Global)) (n : ℕ) → map held_in lists ≡ map f (range_with_len 0 n)
    → length lists ≡ n
as_many f lists n e = sym (length-map lists held_in) ∙ ap length e ∙ length-map-range_with_len f 0 n

pub list_at : (f : ℕ → List (Access × Member)) (lists : List (Vec Changing Global)) (n i : ℕ) (d v : Vec Changing Global)
    → map held_in lists ≡ map f (range_with_len 0 n) → i < n → v ≡ get_or lists i d → held v.items ≡ f i
list_at f lists n i d v e l is =
    ap held_in is ∙ sym (get_or-map held_in lists i d) ∙ ap (λ z. get_or z i (held_in d)) e
    ∙ get_or-map-range_with_len f 0 n i i (held_in d) l (omega arith)

-- one list more
pub list_more : (f : ℕ → List (Access × Member)) (lists more : List (Vec Changing Global)) (n : ℕ) (v : Vec Changing Global)
    → map held_in lists ≡ map f (range_with_len 0 n) → more ≡ lists ++ v ∷ [] → held v.items ≡ f n
    → map held_in more ≡ map f (range_with_len 0 (n + 1))
list_more f lists more n v e p is =
    ap (map held_in) p ∙ map-append held_in lists (v ∷ []) ∙ ap (λ z. z ++ held_in v ∷ []) e
    ∙ ap (λ z. map f (range_with_len 0 n) ++ z ∷ []) is ∙ sym (map-range_with_len_more f 0 n n (omega arith))

-- A pivot may miss a change, and some transaction may read what it changes.

first_beside : (all : List (List Access)) (pivot c a : List Access) → AreLinked all pivot c a → IsBeside all pivot c
first_beside all pivot _ _ (itself c is) = is
first_beside all pivot _ _ (further c d a is e rest) = is

last_beside : (all : List (List Access)) (pivot c a : List Access) → AreLinked all pivot c a → IsBeside all pivot a
last_beside all pivot _ _ (itself c is) = is
last_beside all pivot _ _ (further c d a is e rest) = last_beside all pivot d a rest

misses : (all : List Member) (pivot : List Access) → IsDangerous (kinds all) pivot → misses_one all pivot ≡ true
misses all pivot d =
    let beside = first_beside (kinds all) pivot d.missed d.missing d.linked in
    let m = Contains-from_map (λ (m : Member). m.accesses) all d.missed beside.there in
    list_any-from_Any (misses_by all pivot) pivot (
      d.of_read.0,
      d.read,
      d.of_read.1,
      d.of_read.2,
      list_any-from_Any (λ (m : Member). reads_from d.read m.accesses && not (are_apart pivot m.accesses)) all (
        m.1.0,
        m.0,
        m.1.1,
        m.1.2,
        and_from _ _ (subst (λ z. reads_from d.read z ≡ true) m.2 d.reads) (ap not (subst (λ z. are_apart pivot z ≡ false) m.2 beside.may_both)),
      ),
    )

is_read : (all : List Member) (pivot : List Access) → IsDangerous (kinds all) pivot → is_read_by_one all pivot ≡ true
is_read all pivot d =
    let beside = last_beside (kinds all) pivot d.missed d.missing d.linked in
    let m = Contains-from_map (λ (m : Member). m.accesses) all d.missing beside.there in
    list_any-from_Any (λ (m : Member). list_any (λ change. changes_for change m.accesses) pivot) all (
      m.1.0,
      m.0,
      m.1.1,
      m.1.2,
      list_any-from_Any (λ change. changes_for change m.0.accesses) pivot (
        d.of_change.0,
        d.change,
        d.of_change.1,
        d.of_change.2,
        subst (λ z. changes_for d.change z ≡ true) m.2 d.changes,
      ),
    )

clash : (b : Bool) → false ≡ b → b ≡ true → ⊥
clash b none is = cc

pub none_missed : (all : List Member) (pivot : List Access) → false ≡ misses_one all pivot → IsDangerous (kinds all) pivot → ⊥
none_missed all pivot none d = clash (misses_one all pivot) none (misses all pivot d)

pub none_reads : (all : List Member) (pivot : List Access) → false ≡ is_read_by_one all pivot → IsDangerous (kinds all) pivot → ⊥
none_reads all pivot none d = clash (is_read_by_one all pivot) none (is_read all pivot d)
