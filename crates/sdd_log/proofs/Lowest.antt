-- The first of several messages: of one site alone, or of senders in their order.
use Rattle.sdd_log.proofs.All.{AtEach, D, Input, IsFirst, IsLinkOf, List, Msg, Site, T, TakesAway, U, [], ap, append_assoc, arith, false, from_one, inl, inr, link_parts, map, range_with_len, refl, same_here, same_site, sites, suc, sym, tm_no, zero, ℕ, ◌++◌, ◌+◌, ◌<◌, ◌∙◌, ◌∷◌, ◌≡◌, ◌≤◌}
use Rattle.sdd_log.proofs.FirstHand.{each_weaker, here_or_later, listed, Split, split}

-- of one site

one_other : (a x : Site) (messages : List Msg) → same_site x a ≡ false → from_one a messages x ≡ []
one_other a x messages e = rw e refl

pub first_of_one : (g : Input) (a b : Site) (m : Msg) (rest : List Msg) → IsLinkOf g a b → IsFirst g (from_one a (m ∷ rest)) a b m rest
first_of_one g a b m rest l =
    let s : Split (sites g.catalogue.tms g.catalogue.dms) a = split (sites g.catalogue.tms g.catalogue.dms) a
    (listed g.catalogue.tms g.catalogue.dms a (link_parts g.catalogue.tms g.catalogue.dms a b l).from) in
    record {
      linked = l;
      before = s.before;
      after = s.after;
      parts = s.parts;
      earlier = each_weaker (λ x. same_site x a ≡ false) (λ x. from_one a (m ∷ rest) x ≡ []) s.before (λ x e. one_other a x (m ∷ rest) e) s.others;
      here = (rw (same_here a) refl);
    }

pub takes_of_one : (a : Site) (m : Msg) (rest : List Msg) → TakesAway (from_one a (m ∷ rest)) (from_one a rest) a rest
takes_of_one a m rest = record { here = (rw (same_here a) refl); others = λ x e. one_other a x rest e ∙ sym (one_other a x (m ∷ rest) e) }

pub none_of_one : (a x : Site) → from_one a [] x ≡ []
none_of_one a x = (grind arith)

-- the sites before a T in the order of sites are U and the T with lower numbers

pub record Cut (xs : List Site) (at : Site) (P : Site → Type 0) : Type 0 where
  pub before : List Site
  pub after : List Site
  pub parts : xs ≡ before ++ at ∷ after
  pub lower : AtEach P before

cut_range : (P : Site → Type 0) (m a k : ℕ) → a ≤ k → k < a + m → ((j : ℕ) → a ≤ j → j < k → P (T (tm_no j)))
    → Cut (map (λ n. T (tm_no n)) (range_with_len a m)) (T (tm_no k)) P
cut_range P zero a k l u h = absurd (omega arith)
cut_range P (suc m) a k l u h =
    elim (here_or_later a k l) as (λ _. Cut (T (tm_no a) ∷ map (λ n. T (tm_no n)) (range_with_len (a + 1) m)) (T (tm_no k)) P) [
      | inl p ↦ record {
        before = [];
        after = map (λ n. T (tm_no n)) (range_with_len (a + 1) m);
        parts = ap (λ z. T (tm_no z) ∷ map (λ n. T (tm_no n)) (range_with_len (a + 1) m)) p;
        lower = tt;
      }
      | inr q ↦
          let c : Cut (map (λ n. T (tm_no n)) (range_with_len (a + 1) m)) (T (tm_no k)) P = cut_range P m (a + 1) k q (omega arith)
          (λ j x y. h j (omega arith) y) in
          record {
            before = T (tm_no a) ∷ c.before;
            after = c.after;
            parts = ap (λ z. T (tm_no a) ∷ z) c.parts;
            lower = (h a (omega arith) (omega arith), c.lower);
          }
    ]

-- U and each T before the one with this number
pub cut_at_t : (P : Site → Type 0) (tms dms k : ℕ) → 1 ≤ k → k ≤ tms → P U → ((j : ℕ) → 1 ≤ j → j < k → P (T (tm_no j))) → Cut (sites tms dms) (T (tm_no k)) P
cut_at_t P tms dms k l u first h =
    let c : Cut (map (λ n. T (tm_no n)) (range_with_len 1 tms)) (T (tm_no k)) P = cut_range P tms 1 k l (omega arith) h in
    record {
      before = U ∷ c.before;
      after = c.after ++ map (λ n. D (record { 0 = n })) (range_with_len 1 dms);
      parts = grind (arith, range_with_len, append_assoc, tm_no);
      lower = (first, c.lower);
    }
