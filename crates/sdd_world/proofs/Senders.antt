-- The sender whose message is taken out of a mailbox is the first, in the order of sites, of whom one is kept.
use Rattle.sdd_world.proofs.All.{AtEach, D, HasSenders, Input, IsBefore, IsFirst, IsLinkOf, IsLowest, IsSender, IsSiteOf, List, Mailbox, Msg, Site, Some, T, U, [], ap, append_assoc, arith, cases_lt, dm_no, false, inl, inr, is_link, kept_from, le-leb, map, numbered, place_of, range_with_len, refl, sites, subst, suc, sym, tm_no, true, zero, ℕ, ◌++◌, ◌+◌, ◌<◌, ◌∙◌, ◌∷◌, ◌≡◌, ◌≤◌}
use Rattle.sdd_world.proofs.Placing.{d_place, in_range, sender_is, t_place}

-- a list is cut before a member, and P holds of each before it
record Cut (xs : List Site) (at : Site) (P : Site → Type 0) : Type 0 where
  before : List Site
  after : List Site
  parts : xs ≡ before ++ at ∷ after
  lower : AtEach P before

module _ (P : Site → Type 0) (f : ℕ → Site) where
  -- of numbered sites P holds of those with lower numbers
  cut_range : (m a k : ℕ) → a ≤ k → k < a + m → ((j : ℕ) → a ≤ j → j < k → P (f j)) → Cut (map f (range_with_len a m)) (f k) P
  cut_range zero a k l u h = absurd (omega arith)
  cut_range (suc m) a k l u h =
      elim (cases_lt a k) [
        | inl p ↦
            (let c : Cut (map f (range_with_len (a + 1) m)) (f k) P = cut_range m (a + 1) k (omega arith) (omega arith) (λ j x y. h j (omega arith) y) in
            record { before = f a ∷ c.before; after = c.after; parts = ap (λ z. f a ∷ z) c.parts; lower = (h a (omega arith) (omega arith), c.lower) })
        | inr p ↦
            (let same : a ≡ k = omega arith in
            record { before = []; after = map f (range_with_len (a + 1) m); parts = ap (λ z. f z ∷ map f (range_with_len (a + 1) m)) same; lower = tt })
      ]

  -- P holds of all of them
  all_range : (m a k : ℕ) → a + m ≤ k → ((j : ℕ) → a ≤ j → j < k → P (f j)) → AtEach P (map f (range_with_len a m))
  all_range zero a k u h = tt
  all_range (suc m) a k u h = (h a (omega arith) (omega arith), all_range m (a + 1) k (omega arith) (λ j x y. h j (omega arith) y))

each_append : (P : Site → Type 0) (xs ys : List Site) → AtEach P xs → AtEach P ys → AtEach P (xs ++ ys)
each_append P [] ys h k = k
each_append P (x ∷ xs) ys h k = (h.0, each_append P xs ys h.1 k)

abbrev tm_sites : ℕ → List Site
tm_sites tms = map (λ n. T (tm_no n)) (range_with_len 1 tms)

abbrev dm_sites : ℕ → List Site
dm_sites dms = map (λ n. D (dm_no n)) (range_with_len 1 dms)

cut_t : (P : Site → Type 0) (tms dms k : ℕ) → 1 ≤ k → k ≤ tms → P U → ((j : ℕ) → 1 ≤ j → j < k → P (T (tm_no j))) → Cut (sites tms dms) (T (tm_no k)) P
cut_t P tms dms k l u first h =
    let c : Cut (tm_sites tms) (T (tm_no k)) P = cut_range P (λ n. T (tm_no n)) tms 1 k l (omega arith) h in
    record {
      before = U ∷ c.before;
      after = c.after ++ dm_sites dms;
      parts = ap (λ z. U ∷ (z ++ dm_sites dms)) c.parts ∙ ap (λ z. U ∷ z) (append_assoc c.before (T (tm_no k) ∷ c.after) (dm_sites dms));
      lower = (first, c.lower);
    }

cut_d : (P : Site → Type 0) (tms dms k : ℕ) → 1 ≤ k → k ≤ dms → P U → ((j : ℕ) → 1 ≤ j → j < suc tms → P (T (tm_no j)))
    → ((j : ℕ) → 1 ≤ j → j < k → P (D (dm_no j))) → Cut (sites tms dms) (D (dm_no k)) P
cut_d P tms dms k l u first h i =
    let c : Cut (dm_sites dms) (D (dm_no k)) P = cut_range P (λ n. D (dm_no n)) dms 1 k l (omega arith) i in
    record {
      before = U ∷ (tm_sites tms ++ c.before);
      after = c.after;
      parts = ap (λ z. U ∷ (tm_sites tms ++ z)) c.parts ∙ ap (λ z. U ∷ z) (sym (append_assoc (tm_sites tms) c.before (D (dm_no k) ∷ c.after)));
      lower = (first, each_append P (tm_sites tms) c.before (all_range P (λ n. T (tm_no n)) tms 1 (suc tms) (omega arith) h) c.lower);
    }

-- the order of places is that of sites

t_there : (tms j : ℕ) → 1 ≤ j → j ≤ tms → place_of tms (T (tm_no j)) ≡ Some j
t_there tms j l u = t_place tms j (in_range j tms l u)

d_there : (tms j : ℕ) → 1 ≤ j → place_of tms (D (dm_no j)) ≡ Some (tms + j)
d_there tms j l = d_place tms j (le-leb 1 j l)

ordered : (tms j k : ℕ) (x y : Site) → place_of tms x ≡ Some j → place_of tms y ≡ Some k → j < k → IsBefore (place_of tms x) (place_of tms y)
ordered tms j k x y e f l = subst (λ o. IsBefore o (place_of tms y)) (sym e) (subst (λ o. IsBefore (Some j) o) (sym f) l)

module _ (g : Input) (at : Site) (b : Mailbox Msg) (h : HasSenders g at b) where
  none_lower : (from x : Site) → IsLowest b from → IsBefore (place_of g.catalogue.tms x) (place_of g.catalogue.tms from) → kept_from b x ≡ []
  none_lower from x low i = low x (subst (λ n. IsBefore (place_of n x) (place_of n from)) (sym h.tms) i)

  cut_at : (from : Site) → IsSiteOf g from → IsLowest b from → Cut (sites g.catalogue.tms g.catalogue.dms) from (λ x. kept_from b x ≡ [])
  cut_at U here low = record { before = []; after = tm_sites g.catalogue.tms ++ dm_sites g.catalogue.dms; parts = refl; lower = tt }
  cut_at (T n) here low =
      let r = numbered n.0 g.catalogue.tms here in
      let u : n.0 ≤ g.catalogue.tms = r.1 in
      let own = t_there g.catalogue.tms n.0 r.0 r.1 in
      cut_t (λ x. kept_from b x ≡ []) g.catalogue.tms g.catalogue.dms n.0 r.0 r.1
      (none_lower (T n) U low (ordered g.catalogue.tms 0 n.0 U (T n) refl own r.0))
      (λ j l k. none_lower (T n) (T (tm_no j)) low (ordered g.catalogue.tms j n.0 (T (tm_no j)) (T n) (t_there g.catalogue.tms j l (omega arith)) own k))
  cut_at (D n) here low =
      let r = numbered n.0 g.catalogue.dms here in
      let l1 : 1 ≤ n.0 = r.0 in
      let own = d_there g.catalogue.tms n.0 r.0 in
      cut_d (λ x. kept_from b x ≡ []) g.catalogue.tms g.catalogue.dms n.0 r.0 r.1
      (none_lower (D n) U low (ordered g.catalogue.tms 0 (g.catalogue.tms + n.0) U (D n) refl own (omega arith)))
      (λ j l k. none_lower (D n) (T (tm_no j)) low
      (ordered g.catalogue.tms j (g.catalogue.tms + n.0) (T (tm_no j)) (D n) (t_there g.catalogue.tms j l (omega arith)) own (omega arith)))
      (λ j l k. none_lower (D n) (D (dm_no j)) low
      (ordered g.catalogue.tms (g.catalogue.tms + j) (g.catalogue.tms + n.0) (D (dm_no j)) (D n) (d_there g.catalogue.tms j l) own (omega arith)))

  -- of whom one is kept is linked with the module
  kept_linked : (from : Site) (m : Msg) (rest : List Msg) → kept_from b from ≡ m ∷ rest → IsLinkOf g from at
  kept_linked from m rest k = elim (is_link g.catalogue.tms g.catalogue.dms from at) as (λ c. is_link g.catalogue.tms g.catalogue.dms from at ≡ c → c ≡ true) [
    | true ↦ λ p. refl
    | false ↦ λ p. (let none : [] ≡ m ∷ rest = sym (h.linked from p) ∙ k in cc)
  ] refl

  pub first_taken : (from : Site) (m : Msg) (rest : List Msg) → IsSender b from → IsLowest b from → kept_from b from ≡ m ∷ rest
      → IsFirst g (kept_from b) from at m rest
  first_taken from m rest s low k =
      let c : Cut (sites g.catalogue.tms g.catalogue.dms) from (λ x. kept_from b x ≡ []) = cut_at from (sender_is g at b from h s) low in
      record { linked = kept_linked from m rest k; before = c.before; after = c.after; parts = c.parts; earlier = c.lower; here = k }
