-- One timestamp, one Start: of whatever classes.
use Rattle.sdd_obligations.proofs.All.{Bool, Catalogue, Did, Does, Input, IsReadOf, IsServedClass, IsSoundCatalogue, Log, Queued, Records, Setting, Site, Some, T, U, ap, append_assoc, arith, at_number, class_at, clock, clock_grows, clock_number, compare, false, head_of, home, inl, inr, length, local_grows, local_of, next_stamp, number_of, own_act, queue, refl, same_head, setting_of, sound_classes, sound_whole, start_at, subst, suc, sym, tm_no, true, zero, ℕ, ◌*◌, ◌++◌, ◌+◌, ◌==◌, ◌∙◌, ◌∷◌, ◌≡◌, ◌≤◌, ◌⊎◌}
use Rattle.sdd_invariants.specs.site_module.SiteLog as site

-- in one site's log

behind : (s : Setting) (c : ℕ) (z b1 b2 : site.Log) (q : Queued) → next_stamp s b1 ≡ next_stamp s b2 → b2 ≡ z ++ Did (start_at s c b1 q) ∷ b1 → ⊥
behind s c z b1 b2 q e f = grind (arith, clock_grows, start_at, clock_number)

abbrev class_recorded : site.Entry → ℕ
class_recorded (Did (Records k r sends)) = k
class_recorded _ = 0

pub one_start_of_all : (s : Setting) (c k : ℕ) (l1 l2 b1 b2 : site.Log) (q1 q2 : Queued) → next_stamp s b1 ≡ next_stamp s b2
    → l1 ++ Did (start_at s c b1 q1) ∷ b1 ≡ l2 ++ Did (start_at s k b2 q2) ∷ b2 → (b1 ≡ b2) × (c ≡ k)
one_start_of_all s c k l1 l2 b1 b2 q1 q2 e f = elim (compare l1 l2 (Did (start_at s c b1 q1)) (Did (start_at s k b2 q2)) b1 b2 f) [
  | inl r ↦ (r.0, ap class_recorded r.1)
  | inr r ↦ grind (arith, behind)
]

-- a Start of a transaction in the log of a site that runs its class
pub record StartAt (g : Input) (c : ℕ) (log : Log) (at : Site) (t : ℕ) (q : Queued) : Type 0 where
  pub later : site.Log
  pub before : site.Log
  pub is : local_of g at log ≡ later ++ Did (start_at (setting_of g at) c before q) ∷ before
  pub head_is : head_of (queue (setting_of g at) c before) ≡ Some q
  pub ts_is : t ≡ next_stamp (setting_of g at) before

pub start_here : (g : Input) (c : ℕ) (log : Log) (n k t : ℕ) (r : IsReadOf g log c n k t) → StartAt g c log (home g.catalogue c) t r.queued
start_here g c log n k t r =
    let at : Site = home g.catalogue c in
    let x = local_grows g at r.later (Does at (start_at (setting_of g at) c (local_of g at r.before) r.queued) ∷ r.before) in
    record {
      later = x.0;
      before = local_of g at r.before;
      is = ap (local_of g at) r.is ∙ x.1 ∙ ap (λ l. x.0 ++ l) (own_act g at (start_at (setting_of g at) c (local_of g at r.before) r.queued) r.before);
      head_is = r.head_is;
      ts_is = r.ts_is;
    }

-- earlier in the log, so later too
abbrev pub read_later : (g : Input) (c : ℕ) (front log : Log) (n k t : ℕ) → IsReadOf g log c n k t → IsReadOf g (front ++ log) c n k t
read_later g c front log n k t r = record {
  later = front ++ r.later;
  before = r.before;
  queued = r.queued;
  is = ap (λ l. front ++ l) r.is ∙ sym (append_assoc front r.later _);
  idle = r.idle;
  head_is = r.head_is;
  number_is = r.number_is;
  try_is = r.try_is;
  ts_is = r.ts_is;
}

-- the sites of classes have different numbers

pub record IsHomeT (cat : Catalogue) (c : ℕ) : Type 0 where
  pub number : ℕ
  pub is : home cat c ≡ T (tm_no number)
  pub from : 1 ≤ number
  pub to : number ≤ 16

home_if : (cat : Catalogue) → IsSoundCatalogue cat → (c : ℕ) (b : Bool) → (c == 0) ≡ b → c ≤ length cat.classes → (home cat c ≡ U) ⊎ IsHomeT cat c
home_if cat sound c true e l = inl (rw e refl)
home_if cat sound c false e l =
    let there : IsServedClass cat (class_at cat c) = at_number (IsServedClass cat) cat.classes c _ (sound_classes cat sound) (above c e) l in
    let few = (sound_whole cat sound).few_tms in
    let high = there.module_to in
    inr (record { number = (class_at cat c).tm.0; is = rw e refl; from = there.module_from; to = omega arith })
  where
    above : (c : ℕ) → (c == 0) ≡ false → 1 ≤ c
    above zero e = cc
    above (suc c) e = omega arith

pub home_is : (cat : Catalogue) → IsSoundCatalogue cat → (c : ℕ) → c ≤ length cat.classes → (home cat c ≡ U) ⊎ IsHomeT cat c
home_is cat sound c l = home_if cat sound c (c == 0) refl l

pub small_home : (cat : Catalogue) → IsSoundCatalogue cat → (c : ℕ) → c ≤ length cat.classes → number_of (home cat c) ≤ 63
small_home cat sound c l = grind (arith, home_is)

numbers_alike : (j k m n : ℕ) → m ≤ 63 → n ≤ 63 → suc j * 64 + m ≡ suc k * 64 + n → m ≡ n
numbers_alike j k m n a b e = omega arith

-- two Starts with one timestamp are one, whatever their classes
pub one_start : (g : Input) → IsSoundCatalogue g.catalogue → (c k : ℕ) (log : Log) (t : ℕ) (q1 q2 : Queued)
    → c ≤ length g.catalogue.classes → k ≤ length g.catalogue.classes
    → StartAt g c log (home g.catalogue c) t q1 → StartAt g k log (home g.catalogue k) t q2 → (c ≡ k) × (q1 ≡ q2)
one_start g sound c k log t q1 q2 lc lk x y =
    let at : Site = home g.catalogue c in
    let s : Setting = setting_of g at in
    let alike : number_of at ≡ number_of (home g.catalogue k) =
    numbers_alike (clock at x.before).ticks (clock (home g.catalogue k) y.before).ticks (number_of at)
    (number_of (home g.catalogue k)) (small_home g.catalogue sound c lc) (small_home g.catalogue sound k lk)
    (sym (let n = clock_number s.site x.before in omega arith) ∙ sym x.ts_is ∙ y.ts_is ∙ (let n = clock_number (setting_of g (home g.catalogue k)).site y.before in omega arith)) in
    let z : StartAt g k log at t q2 = subst (λ a. StartAt g k log a t q2) (sym (grind (arith, home_is))) y in
    let r = one_start_of_all s c k x.later z.later x.before z.before q1 q2 (sym x.ts_is ∙ z.ts_is) (sym x.is ∙ z.is) in
    (r.1, same_head s c x.before z.before q1 q2 r.0 x.head_is (ap (λ j. head_of (queue s j z.before)) r.1 ∙ z.head_is))

-- and none has the timestamp that a site draws next
pub drawn_already : (g : Input) → IsSoundCatalogue g.catalogue → (c k : ℕ) (log : Log) (q : Queued) → c ≤ length g.catalogue.classes → k ≤ length g.catalogue.classes
    → StartAt g k log (home g.catalogue k) (next_stamp (setting_of g (home g.catalogue c)) (local_of g (home g.catalogue c) log)) q → ⊥
drawn_already g sound c k log q lc lk y =
    let at : Site = home g.catalogue c in
    let s : Setting = setting_of g at in
    let alike : number_of at ≡ number_of (home g.catalogue k) =
    numbers_alike (clock at (local_of g at log)).ticks (clock (home g.catalogue k) y.before).ticks
    (number_of at) (number_of (home g.catalogue k)) (small_home g.catalogue sound c lc) (small_home g.catalogue sound k lk)
    (sym (let n = clock_number s.site (local_of g at log) in omega arith) ∙ y.ts_is ∙ (let n = clock_number (setting_of g (home g.catalogue k)).site y.before in omega arith)) in
    let z : StartAt g k log at (next_stamp s (local_of g at log)) q =
    subst (λ a. StartAt g k log a (next_stamp s (local_of g at log)) q) (sym (grind (arith, home_is))) y in
    behind s k z.later z.before (local_of g at log) q (sym z.ts_is) z.is
