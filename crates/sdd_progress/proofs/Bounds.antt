-- The time at which a class list is put in force is after every clock of a transaction module.
use Rattle.sdd_progress.proofs.All.{Input, IsSoundCatalogue, List, Log, Some, T, [], arith, bound_at, class_at, false, fold, greatest_bound, home, length, map, max, numbers_to, positive, range_at, refl, served, slice_get, subst, suc, tm_no, zero, ℕ, ◌*◌, ◌+◌, ◌-◌, ◌/◌, ◌<◌, ◌==◌, ◌∷◌, ◌≡◌, ◌≤◌}

-- the greatest bound is none below that of a module

fold_max_ge : (f : ℕ → ℕ) (ns : List ℕ) (a : ℕ) → a ≤ fold max a (map f ns)
fold_max_ge f [] a = omega arith
fold_max_ge f (n ∷ ns) a = let i = fold_max_ge f ns (max a (f n)) in let m : a ≤ max a (f n) = omega arith in omega (arith, i, m)

fold_max_has : (f : ℕ → ℕ) (ns : List ℕ) (a k n : ℕ) → slice_get ns k ≡ Some n → f n ≤ fold max a (map f ns)
fold_max_has f [] a k n e = cc
fold_max_has f (x ∷ ns) a zero n e = grind (arith, fold_max_ge)
fold_max_has f (x ∷ ns) a (suc k) n e = fold_max_has f ns (max a (f x)) k n e

pub bound_within : (g : Input) (log : Log) (n : ℕ) → 1 ≤ n → n ≤ g.catalogue.tms → bound_at g log n ≤ greatest_bound g log
bound_within g log n l m =
    let r = range_at 1 g.catalogue.tms (n - 1) (omega (arith, l, m)) in
    let same : 1 + (n - 1) ≡ n = omega (arith, l) in
    fold_max_has (bound_at g log) (numbers_to g.catalogue.tms) 0 (n - 1) n (subst (λ x. slice_get (numbers_to g.catalogue.tms) (n - 1) ≡ Some x) same r)

pub max_ge : (a b : ℕ) → b ≤ max a b
max_ge a b = omega arith

pub rise_by : (tb tm gb u ub ts nx us ny : ℕ) → tb + 1 ≤ tm → ts ≡ (tb + 1) * 64 + nx → nx ≤ 16 → tm * 64 + 63 ≤ gb → gb / 64 ≤ u → u ≤ ub
    → us ≡ (ub + 1) * 64 + ny → ts < us
rise_by tb tm gb u ub ts nx us ny a b c d e f g = omega (arith, a, b, c, d, e, f, g)

-- a declared class is run at a module that is there
pub record IsAtT (g : Input) (c : ℕ) : Type 0 where
  pub t : ℕ
  pub from : 1 ≤ t
  pub to : t ≤ g.catalogue.tms
  pub home_is : home g.catalogue c ≡ T (tm_no t)

pub at_t : (g : Input) (c : ℕ) → IsSoundCatalogue g.catalogue → (c == 0) ≡ false → c ≤ length g.catalogue.classes → IsAtT g c
at_t g c sound z l =
    let s = served g.catalogue sound c (positive c z) l in
    record { t = (class_at g.catalogue c).tm.0; from = s.module_from; to = s.module_to; home_is = rw z refl }
