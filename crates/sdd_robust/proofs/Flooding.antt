-- What a flood along conflicts has reached, and what is left.
use Rattle.std.proofs.Common.{Bool, Contains, List, [], ap, arith, false, filter, inl, inr, length, not, refl, slice_index_or as get_or, subst, sym, take, true, ℕ, ◌++◌, ◌+◌, ◌-◌, ◌<◌, ◌∙◌, ◌∷◌, ◌≡◌, ◌≤◌, ◌⊎◌}
use Rattle.std.proofs.lemmas.List.{take-append-le, take_all, take_more}
use Rattle.std.proofs.lemmas.List.{length-append}
use Rattle.std.proofs.lemmas.List.Elements.{Contains-append_cases, Contains-append_left, Contains-append_right, Contains-get_or, Contains-push_cases}
use Rattle.std.proofs.lemmas.List.Filters.{length-filter_both}
use Rattle.sdd_lang.proofs.base.Membership.{Contains-cases, Contains-here, Contains-nil}
use Rattle.sdd_links.proofs.Members.{Contains-filter, Contains-from_filter, Contains-from_map, Contains-map}
use Rattle.sdd_robust_laws.specs.Accesses.{conflict}
use Rattle.sdd_robust_laws.specs.declared.access.Access.{Access}
use Rattle.sdd_robust.specs.Leading.{Leads}
use Rattle.sdd_robust.specs.Leading.Leads.{further, itself}
use Rattle.sdd_robust.specs.Members.{kinds}
use Rattle.sdd_robust.specs.declared.member.Member.{Member}

-- Conflicts lead through the first one, and the last one.

pub leads_first : (through : List (List Access)) (c a : List Access) → Leads through c a → Contains through c
leads_first through _ _ (itself c there) = there
leads_first through _ _ (further c d a there e rest) = there

pub leads_last : (through : List (List Access)) (c a : List Access) → Leads through c a → Contains through a
leads_last through _ _ (itself c there) = there
leads_last through _ _ (further c d a there e rest) = leads_last through d a rest

-- and one step further
pub leads_on : (through : List (List Access)) (c a b : List Access) → Leads through c a → conflict a b ≡ true → Contains through b
    → Leads through c b
leads_on through _ _ b (itself c there) e next = further c b b there e (itself b next)
leads_on through _ _ b (further c d a there f rest) e next = further c d b there f (leads_on through d a b rest e next)

-- Reached are those to which conflicts lead from the start; from the first n of them all have been found.
pub record IsFlood (beside : List Member) (start : Member) (reached left : List Member) (n : ℕ) : Type 0 where
  pub sound : (a : Member) → Contains reached a → Leads (kinds beside) start.accesses a.accesses
  pub there : (a : Member) → Contains reached a → Contains beside a
  pub begun : Contains reached start
  pub split : (d : Member) → Contains beside d → Contains reached d ⊎ Contains left d
  pub left_there : (d : Member) → Contains left d → Contains beside d
  pub done : (c d : Member) → Contains (take n reached) c → Contains left d → conflict c.accesses d.accesses ≡ false

is_it : (x a : Member) → Contains (x ∷ []) a → a ≡ x
is_it x a h = elim (Contains-cases x [] a h) [ inl e ↦ e | inr none ↦ absurd (Contains-nil a none) ]

pub flood_begun : (beside : List Member) (start : Member) → Contains beside start → IsFlood beside start (start ∷ []) beside 0
flood_begun beside start there = record {
  sound = λ a h. subst (λ (m : Member). Leads (kinds beside) start.accesses m.accesses) (sym (is_it start a h))
      (itself start.accesses (Contains-map (λ (m : Member). m.accesses) beside start there));
  there = λ a h. subst (Contains beside) (sym (is_it start a h)) there;
  begun = Contains-here start [];
  split = λ d h. inr h;
  left_there = λ d h. h;
  done = λ c d h _. absurd (Contains-nil c h);
}

not_true : (b : Bool) → not b ≡ true → b ≡ false
not_true true e = sym e
not_true false e = refl

-- those that are left and conflict with the next one are reached
module _ (beside : List Member) (start : Member) (reached left : List Member) (n : ℕ) (x : Member)
    (flood : IsFlood beside start reached left n) (l : n < length reached) (is : get_or reached n x ≡ x) where
  next_there : Contains reached x
  next_there = subst (Contains reached) is (Contains-get_or reached n x l)

  sound_new : (a : Member) → Contains left a → conflict x.accesses a.accesses ≡ true → Leads (kinds beside) start.accesses a.accesses
  sound_new a h e =
      leads_on (kinds beside) start.accesses x.accesses a.accesses (flood.sound x next_there) e
      (Contains-map (λ (m : Member). m.accesses) beside a (flood.left_there a h))

  sorted : (d : Member) → Contains left d → (b : Bool) → conflict x.accesses d.accesses ≡ b
      → Contains (reached ++ filter (λ (m : Member). conflict x.accesses m.accesses) left) d
      ⊎ Contains (filter (λ (m : Member). not (conflict x.accesses m.accesses)) left) d
  sorted d h true e =
      inl (Contains-append_right reached _ d (Contains-filter (λ (m : Member). conflict x.accesses m.accesses) left d e h))
  sorted d h false e =
      inr (Contains-filter (λ (m : Member). not (conflict x.accesses m.accesses)) left d (ap not e) h)

  first_ones : take (n + 1) (reached ++ filter (λ (m : Member). conflict x.accesses m.accesses) left) ≡ take n reached ++ x ∷ []
  first_ones =
      take-append-le (n + 1) reached _ (omega arith) ∙ take_more reached n x l ∙ ap (λ z. take n reached ++ z ∷ []) is

  done_new : (c d : Member) → Contains (take n reached ++ x ∷ []) c
      → Contains (filter (λ (m : Member). not (conflict x.accesses m.accesses)) left) d → conflict c.accesses d.accesses ≡ false
  done_new c d h m =
      let f = Contains-from_filter (λ (m : Member). not (conflict x.accesses m.accesses)) left d m in
      elim (Contains-push_cases (take n reached) x c h) [
        | inl before ↦ flood.done c d before f.0
        | inr e ↦ subst (λ (m : Member). conflict m.accesses d.accesses ≡ false) e (not_true _ f.1)
      ]

  pub flood_step : IsFlood beside start (reached ++ filter (λ (m : Member). conflict x.accesses m.accesses) left)
      (filter (λ (m : Member). not (conflict x.accesses m.accesses)) left) (n + 1)
  flood_step = record {
    sound = λ a h. elim (Contains-append_cases reached _ a h) [
      | inl before ↦ flood.sound a before
      | inr new ↦
          let f = Contains-from_filter (λ (m : Member). conflict x.accesses m.accesses) left a new in
          sound_new a f.0 f.1
    ];
    there = λ a h. elim (Contains-append_cases reached _ a h) [
      | inl before ↦ flood.there a before
      | inr new ↦ flood.left_there a (Contains-from_filter (λ (m : Member). conflict x.accesses m.accesses) left a new).0
    ];
    begun = Contains-append_left reached _ start flood.begun;
    split = λ d h. elim (flood.split d h) [
      | inl before ↦ inl (Contains-append_left reached _ d before)
      | inr rest ↦ sorted d rest (conflict x.accesses d.accesses) refl
    ];
    left_there = λ d h. flood.left_there d (Contains-from_filter (λ (m : Member). not (conflict x.accesses m.accesses)) left d h).0;
    done = λ c d h m. done_new c d (subst (λ z. Contains z c) first_ones h) m;
  }

-- when all that are reached were gone through, all are reached to which conflicts lead

past : (c d : List Access) → conflict c d ≡ true → (m k : Member) → c ≡ m.accesses → d ≡ k.accesses → conflict m.accesses k.accesses ≡ false
    → ⊥
past c d e m k p q f = cc

from_reached : (beside : List Member) (start : Member) (reached left : List Member) (n : ℕ) → IsFlood beside start reached left n
    → take n reached ≡ reached → (c a : List Access) → Leads (kinds beside) c a → Contains (kinds reached) c → Contains (kinds reached) a
from_reached beside start reached left n flood all _ _ (itself c there) h = h
from_reached beside start reached left n flood all _ _ (further c d a there e rest) h =
    let from = Contains-from_map (λ (m : Member). m.accesses) reached c h in
    let next = Contains-from_map (λ (m : Member). m.accesses) beside d (leads_first (kinds beside) d a rest) in
    from_reached beside start reached left n flood all d a rest
    (elim (flood.split next.0 next.1) [
      | inl before ↦ subst (Contains (kinds reached)) (sym next.2) (Contains-map (λ (m : Member). m.accesses) reached next.0 before)
      | inr still ↦ absurd (past c d e from.0 next.0 from.2 next.2
          (flood.done from.0 next.0 (subst (λ z. Contains z from.0) (sym all) from.1) still))
    ])

pub flood_ends : (beside : List Member) (start : Member) (reached left : List Member) (n : ℕ) → IsFlood beside start reached left n
    → length reached ≤ n → (a : List Access) → Leads (kinds beside) start.accesses a → Contains (kinds reached) a
flood_ends beside start reached left n flood l a leads =
    from_reached beside start reached left n flood (take_all n reached l) start.accesses a leads
    (Contains-map (λ (m : Member). m.accesses) reached start flood.begun)

-- the same, of lists that are equal to these

pub flood_begins : (beside : List Member) (start : Member) (reached left : List Member) → Contains beside start → reached ≡ start ∷ []
    → left ≡ beside → IsFlood beside start reached left 0
flood_begins beside start reached left there p q =
    subst (λ z. IsFlood beside start z left 0) (sym p) (subst (λ z. IsFlood beside start (start ∷ []) z 0) (sym q) (flood_begun beside start there))

pub flood_goes_on : (beside : List Member) (start : Member) (reached left : List Member) (n : ℕ) (x : Member) (more rest : List Member)
    → IsFlood beside start reached left n → n < length reached → get_or reached n x ≡ x
    → more ≡ reached ++ filter (λ (m : Member). conflict x.accesses m.accesses) left
    → rest ≡ filter (λ (m : Member). not (conflict x.accesses m.accesses)) left → IsFlood beside start more rest (n + 1)
flood_goes_on beside start reached left n x more rest flood l is p q =
    subst (λ z. IsFlood beside start z rest (n + 1)) (sym p)
    (subst (λ z. IsFlood beside start (reached ++ filter (λ (m : Member). conflict x.accesses m.accesses) left) z (n + 1)) (sym q)
    (flood_step beside start reached left n x flood l is))

pub fewer_left : (reached left : List Member) (n : ℕ) (x : Member) (more rest : List Member) → n < length reached
    → more ≡ reached ++ filter (λ (m : Member). conflict x.accesses m.accesses) left
    → rest ≡ filter (λ (m : Member). not (conflict x.accesses m.accesses)) left
    → (length more + length rest) - (n + 1) < (length reached + length left) - n
fewer_left reached left n x more rest l p q =
    let both = length-filter_both (λ (m : Member). conflict x.accesses m.accesses) (λ (m : Member). not (conflict x.accesses m.accesses)) (λ _. refl) left in
    let long = ap length p ∙ length-append reached _ in
    let short = ap length q in
    omega (arith, both, long, short, l)
