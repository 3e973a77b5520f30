-- Times and messages below a height, in lists.
use Rattle.sdd_obligations.proofs.All.{AllLe, AllLow, Bool, Cond, FragNo, IsLow, List, Msg, None, Option, Some, Write, [], arith, cons_option, filter_map, fold, greatest, if◌then◌else◌, le_up, map, or_zero, raised, refl, slice_get, subst, suc, times_of, top, write_time, zero, ℕ, ◌++◌, ◌∷◌, ◌≡◌, ◌≤◌}

pub low_up : (h k : ℕ) (m : Msg) → h ≤ k → IsLow h m → IsLow k m
low_up h k m l i = le_up (top h) (top k) (times_of m) (omega arith) i

pub all_low_up : (h k : ℕ) (ms : List Msg) → h ≤ k → AllLow h ms → AllLow k ms
all_low_up h k [] l i = tt
all_low_up h k (m ∷ ms) l i = (low_up h k m l i.0, all_low_up h k ms l i.1)

pub all_low_join : (h : ℕ) (xs ys : List Msg) → AllLow h xs → AllLow h ys → AllLow h (xs ++ ys)
all_low_join h [] ys i j = j
all_low_join h (x ∷ xs) ys i j = (i.0, all_low_join h xs ys i.1 j)

pub low_at : (h : ℕ) (ms : List Msg) (k : ℕ) (m : Msg) → AllLow h ms → slice_get ms k ≡ Some m → IsLow h m
low_at h [] k m i e = cc
low_at h (x ∷ ms) zero m i e = let p : x ≡ m = cc in subst (IsLow h) p i.0
low_at h (x ∷ ms) (suc k) m i e = low_at h ms k m i.1 e

pub all_low_of : (h : ℕ) (ms : List Msg) → ((k : ℕ) (m : Msg) → slice_get ms k ≡ Some m → IsLow h m) → AllLow h ms
all_low_of h [] f = tt
all_low_of h (m ∷ ms) f = (f 0 m refl, all_low_of h ms (λ k x e. f (suc k) x e))

pub low_one : (h : ℕ) (c : Bool) (m : Msg) → IsLow h m → AllLow h (if c then m ∷ [] else [])
low_one h c m i = grind arith

-- of a list of conditions

abbrev pub IsEarlyCond : ℕ → Option Cond → Type 0
IsEarlyCond k None = Unit {0}
IsEarlyCond k (Some d) = d.time.0 ≤ k

cons_cond : (k : ℕ) (o : Option Cond) (ds : List Cond) → IsEarlyCond k o → AllLe k (map (λ (d : Cond). d.time.0) ds)
    → AllLe k (map (λ (d : Cond). d.time.0) (cons_option o ds))
cons_cond k o ds i h = grind arith

pub conds_le : (k : ℕ) (f : ℕ → Option Cond) (cs : List ℕ) → ((c : ℕ) → IsEarlyCond k (f c)) → AllLe k (map (λ (d : Cond). d.time.0) (filter_map f cs))
conds_le k f [] h = tt
conds_le k f (c ∷ cs) h = cons_cond k (f c) (filter_map f cs) (h c) (conds_le k f cs h)

pub conds_all_le : (k : ℕ) (f : ℕ → Cond) (cs : List ℕ) → ((c : ℕ) → (f c).time.0 ≤ k) → AllLe k (map (λ (d : Cond). d.time.0) (map f cs))
conds_all_le k f [] h = tt
conds_all_le k f (c ∷ cs) h = (h c, conds_all_le k f cs h)

pub cond_le_at : (k : ℕ) (ds : List Cond) (n : ℕ) (d : Cond) → AllLe k (map (λ (d : Cond). d.time.0) ds) → slice_get ds n ≡ Some d → d.time.0 ≤ k
cond_le_at k [] n d h e = cc
cond_le_at k (x ∷ ds) zero d h e = let p : x ≡ d = cc in subst (λ (y : Cond). y.time.0 ≤ k) p h.0
cond_le_at k (x ∷ ds) (suc n) d h e = cond_le_at k ds n d h.1 e

-- the greatest of the times of WRITEs

fold_le : (k : ℕ) (o : Option ℕ) (ns : List ℕ) → or_zero o ≤ k → AllLe k ns → or_zero (fold raised o ns) ≤ k
fold_le k o [] i h = i
fold_le k o (n ∷ ns) i h = fold_le k (raised o n) ns (grind arith) h.1

pub greatest_le : (k : ℕ) (ns : List ℕ) → AllLe k ns → or_zero (greatest ns) ≤ k
greatest_le k ns h = fold_le k None ns (omega arith) h

pub write_times_le : (h : ℕ) (frags : List FragNo) (ms : List Msg) → AllLow h ms → AllLe (top h) (filter_map (write_time frags) ms)
write_times_le h frags [] i = tt
write_times_le h frags (Write ts class txn changes ∷ ms) i = grind (arith, filter_map, (write_times_le h frags ms i.1))
write_times_le h frags (_ ∷ ms) i = write_times_le h frags ms i.1
