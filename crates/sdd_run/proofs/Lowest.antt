-- The lowest: of numbers, of a range's items that pass a test, and of the modules at which a READ waits.
use Rattle.sdd_run.proofs.All.{AllByRecursion, Bool, List, None, Option, Some, Waiting, [], ap, arith, best_of, cond, cons_option, contains, dec_le, either, eq-eqb, eqb-true, false, filter_map, find, fold, inl, inr, is_empty, is_lower, lower, lowest, map, min, nat_lt, nat_tests, or_left, or_right, range_with_len, refl, subst, suc, sym, true, true_or_false, zero, ℕ, ◌+◌, ◌<◌, ◌==◌, ◌∙◌, ◌∷◌, ◌≡◌, ◌≤◌, ◌⊎◌}

-- the lowest of some numbers is one of them, and none of them is lower

pub record IsLowestOf (ns : List ℕ) (d : ℕ) : Type 0 where
  pub there : contains ns d ≡ true
  pub least : (e : ℕ) → e < d → contains ns e ≡ false

lowest_behind : (m : ℕ) (ns : List ℕ) → (d : ℕ) × (fold lower (Some m) ns ≡ Some d) × ((d ≡ m) ⊎ (contains ns d ≡ true))
lowest_behind m [] = (m, refl, inl refl)
lowest_behind m (n ∷ ns) = grind (arith, dec_le, or_left, eq-eqb, or_right, (lowest_behind (min m n) ns))

least_behind : (m : ℕ) (ns : List ℕ) (d : ℕ) → fold lower (Some m) ns ≡ Some d → (d ≤ m) × ((e : ℕ) → contains ns e ≡ true → d ≤ e)
least_behind m [] d h = let p : m ≡ d = cc in (omega (arith, p), λ e i. cc)
least_behind m (n ∷ ns) d h =
    let i = least_behind (min m n) ns d h in
    let l = i.0 in
    (omega (arith, l), λ e j. elim (either (n == e) (contains ns e) j) [ inl p ↦ (let q = eqb-true n e p in omega (arith, l, q)) | inr q ↦ i.1 e q ])

pub lowest_of : (ns : List ℕ) → is_empty ns ≡ false → (d : ℕ) × (lowest ns ≡ Some d) × IsLowestOf ns d
lowest_of [] e = cc
lowest_of (n ∷ ns) e =
    let i = lowest_behind n ns in
    let l = least_behind n ns i.0 i.1 in
    let up = l.0 in (
      i.0,
      i.1,
      record {
        there = elim i.2 [ inl p ↦ or_left (n == i.0) (contains ns i.0) (eq-eqb n i.0 (sym p)) | inr q ↦ or_right (n == i.0) (contains ns i.0) q ];
        least = λ x less. elim (true_or_false (contains (n ∷ ns) x)) [
          | inr q ↦ q
          | inl q ↦ elim (either (n == x) (contains ns x) q) [
            | inl p ↦ (let s = eqb-true n x p in absurd (omega (arith, s, up, less)))
            | inr p ↦ (let s = l.1 x p in absurd (omega (arith, s, less)))
          ]
        ];
      },
    )

-- the first item of a range that passes a test

pub record IsFirstIn {A : Type 0} (f : ℕ → A) (p : A → Bool) (lo len : ℕ) (x : A) : Type 0 where
  pub number : ℕ
  pub from : lo ≤ number
  pub to : number < lo + len
  pub is : f number ≡ x
  pub passes : p (f number) ≡ true
  pub none_lower : (s : ℕ) → lo ≤ s → s < number → p (f s) ≡ false

pub first_in : {A : Type 0} (f : ℕ → A) (p : A → Bool) (lo len : ℕ) (x : A) → find p (map f (range_with_len lo len)) ≡ Some x → IsFirstIn f p lo len x
first_in f p lo zero x e = cc
first_in {A = A} f p lo (suc len) x e =
    elim (p (f lo)) as (λ b. p (f lo) ≡ b → cond b (Some (f lo)) (find p (map f (range_with_len (lo + 1) len))) ≡ Some x → IsFirstIn f p lo (suc len) x) [
      | true ↦ λ q h. record {
        number = lo;
        from = omega arith;
        to = omega arith;
        is = cc;
        passes = q;
        none_lower = λ s l m. absurd (omega (arith, l, m));
      }
      | false ↦ λ q h.
          let i = first_in f p (lo + 1) len x h in
          let low = i.from in
          let high = i.to in
          record {
            number = i.number;
            from = omega (arith, low);
            to = omega (arith, high);
            is = i.is;
            passes = i.passes;
            none_lower = λ s l m. elim (dec_le (lo + 1) s) [
              | yes k ↦ i.none_lower s k m
              | no k ↦ (let same : lo ≡ s = omega (arith, l, k) in subst (λ n. p (f n) ≡ false) same q)
            ];
          }
    ] refl e

-- where each waits at the module that it is asked of, the first of those that wait is at the lowest module

abbrev pub IsOwn : (ℕ → Option Waiting) → Type 0
IsOwn f = (d : ℕ) (w : Waiting) → f d ≡ Some w → w.dm.0 ≡ d

abbrev AreAbove : ℕ → List Waiting → Type 0
AreAbove n ws = AllByRecursion (λ (w : Waiting). n ≤ w.dm.0) ws

above_lower : (n : ℕ) (ws : List Waiting) → AreAbove (n + 1) ws → AreAbove n ws
above_lower n [] h = tt
above_lower n (w ∷ ws) h = let l = h.0 in (omega (arith, l), above_lower n ws h.1)

all_above : (f : ℕ → Option Waiting) (lo len : ℕ) → IsOwn f → AreAbove lo (filter_map f (range_with_len lo len))
all_above f lo zero own = tt
all_above f lo (suc len) own =
    let rest = above_lower lo (filter_map f (range_with_len (lo + 1) len)) (all_above f (lo + 1) len own) in
    elim (f lo) as (λ o. f lo ≡ o → AreAbove lo (cons_option o (filter_map f (range_with_len (lo + 1) len)))) [
      | None ↦ λ e. rest
      | Some w ↦ λ e. (let same = own lo w e in omega (arith, same), rest)
    ] refl

pub record IsLeastWait (f : ℕ → Option Waiting) (lo len : ℕ) (w : Waiting) (ws : List Waiting) : Type 0 where
  pub from : lo ≤ w.dm.0
  pub to : w.dm.0 < lo + len
  pub is : f w.dm.0 ≡ Some w
  pub none_lower : (e : ℕ) → lo ≤ e → e < w.dm.0 → f e ≡ None
  pub others : AreAbove (w.dm.0 + 1) ws

pub least_wait : (f : ℕ → Option Waiting) (lo len : ℕ) (w : Waiting) (ws : List Waiting) → IsOwn f
    → filter_map f (range_with_len lo len) ≡ w ∷ ws → IsLeastWait f lo len w ws
least_wait f lo zero w ws own e = cc
least_wait f lo (suc len) w ws own e =
    let rest : List Waiting = filter_map f (range_with_len (lo + 1) len) in
    elim (f lo) as (λ o. f lo ≡ o → cons_option o rest ≡ w ∷ ws → IsLeastWait f lo (suc len) w ws) [
      | None ↦ λ p q.
          let i = least_wait f (lo + 1) len w ws own q in
          let low = i.from in
          let high = i.to in
          record {
            from = omega (arith, low);
            to = omega (arith, high);
            is = i.is;
            none_lower = λ s l m. elim (dec_le (lo + 1) s) [
              | yes k ↦ i.none_lower s k m
              | no k ↦ (let same : lo ≡ s = omega (arith, l, k) in subst (λ n. f n ≡ None) same p)
            ];
            others = i.others;
          }
      | Some y ↦ λ p q.
          let first : y ≡ w = cc in
          let more : rest ≡ ws = cc in
          let here : w.dm.0 ≡ lo = ap (λ (z : Waiting). z.dm.0) (sym first) ∙ own lo y p in
          record {
            from = omega (arith, here);
            to = omega (arith, here);
            is = ap f here ∙ p ∙ ap Some first;
            none_lower = λ s l m. absurd (omega (arith, here, l, m));
            others = subst (λ n. AreAbove (n + 1) ws) (sym here) (subst (AreAbove (lo + 1)) more (all_above f (lo + 1) len own));
          }
    ] refl e

pub none_waits : (f : ℕ → Option Waiting) (lo len : ℕ) → filter_map f (range_with_len lo len) ≡ [] → (e : ℕ) → lo ≤ e → e < lo + len → f e ≡ None
none_waits f lo zero h e l m = absurd (omega (arith, l, m))
none_waits f lo (suc len) h e l m =
    elim (f lo) as (λ o. f lo ≡ o → cons_option o (filter_map f (range_with_len (lo + 1) len)) ≡ [] → f e ≡ None) [
      | None ↦ λ p q. elim (dec_le (lo + 1) e) [
        | yes k ↦ none_waits f (lo + 1) len q e k (omega (arith, m))
        | no k ↦ (let same : lo ≡ e = omega (arith, l, k) in subst (λ n. f n ≡ None) same p)
      ]
      | Some y ↦ λ p q. cc
    ] refl h

not_lower : (a b : ℕ) → b + 1 ≤ a → nat_lt a b ≡ false
not_lower a b l = grind (arith, nat_tests)

pub best_is_first : (w : Waiting) (ws : List Waiting) → AreAbove (w.dm.0 + 1) ws → best_of is_lower w ws ≡ w
best_is_first w [] h = refl
best_is_first w (x ∷ ws) h =
    ap (λ b. best_of is_lower (cond b x w) ws) (not_lower x.dm.0 w.dm.0 h.0) ∙ best_is_first w ws h.1
