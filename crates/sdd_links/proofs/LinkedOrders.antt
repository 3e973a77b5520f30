-- How many links lead to a node from nodes of a list.
use Rattle.sdd_links.proofs.All.{All, All-head, All-tail, Bool, Contains, Links, List, [], ap, arith, at_node, cases_Bool, cases_eq, cond, counted, eq-eqb, eqb-true, false, filter, fold, get_or-set_other, get_or-set_same, group, has_link, inl, inr, length, length-set, list_any, map, ne_eqb, refl, subst, sym, true, without, ℕ, ◌&&◌, ◌+◌, ◌<◌, ◌==◌, ◌||◌, ◌∙◌, ◌∷◌, ◌≡◌}
use Rattle.sdd_links.proofs.Members.{passes_member, member_passes}
use Rattle.sdd_links.proofs.Taken.{without_is, in_without}

abbrev pub one : Bool → ℕ
one b = cond b 1 0

abbrev pub is_in : List ℕ → ℕ → Bool
is_in left i = list_any (λ j. j == i) left

abbrev pub without_node : ℕ → List ℕ → List ℕ
without_node x left = without (λ i. i) x left

-- the links to a node from nodes that are left
abbrev pub led : Links → List ℕ → ℕ → ℕ
led [] left i = 0
led (l ∷ links) left i = one (is_in left l.0 && (l.1 == i)) + led links left i

-- how often a node is in a list
abbrev pub times : ℕ → List ℕ → ℕ
times i [] = 0
times i (j ∷ js) = one (j == i) + times i js

is_in_true : (left : List ℕ) (i : ℕ) → Contains left i → is_in left i ≡ true
is_in_true left i m = passes_member (λ j. j == i) left i m (eq-eqb i i refl)

from_is_in : (left : List ℕ) (i : ℕ) → is_in left i ≡ true → Contains left i
from_is_in left i e = let r = member_passes (λ j. j == i) left e in subst (Contains left) (eqb-true r.0 i r.2) r.1

is_in_false : (left : List ℕ) (i : ℕ) → (Contains left i → ⊥) → is_in left i ≡ false
is_in_false left i n = elim (cases_Bool (is_in left i)) [ inl t ↦ absurd (n (from_is_in left i t)) | inr f ↦ f ]

-- no links lead to it exactly if there is none from any
pub none_led : (links : Links) (left : List ℕ) (i : ℕ) → led links left i ≡ 0 → (j : ℕ) → Contains left j
    → has_link links j i ≡ false
none_led [] left i e j m = refl
none_led (l ∷ links) left i e j m =
    elim (cases_Bool ((l.0 == j) && (l.1 == i))) [
      | inl t ↦
          grind (arith, eqb-true, is_in, is_in_true, one)
      | inr f ↦
          let rest : led links left i ≡ 0 = omega (arith, e) in
          ap (λ b. b || has_link links j i) f ∙ none_led links left i rest j m
    ]

pub led_none : (links : Links) (left : List ℕ) (i : ℕ) → ((j : ℕ) → Contains left j → has_link links j i ≡ false)
    → led links left i ≡ 0
led_none [] left i h = refl
led_none (l ∷ links) left i h =
    let rest : led links left i ≡ 0 = led_none links left i (λ j m. or_second ((l.0 == j) && (l.1 == i)) (has_link links j i) (h j m)) in
    elim (cases_Bool (is_in left l.0)) [
      | inl t ↦
          let m = from_is_in left l.0 t in
          let other : (l.1 == i) ≡ false =
          ap (λ b. b && (l.1 == i)) (sym (eq-eqb l.0 l.0 refl))
          ∙ or_first ((l.0 == l.0) && (l.1 == i)) (has_link links l.0 i) (h l.0 m) in
          let here : one (is_in left l.0 && (l.1 == i)) ≡ 0 = ap (λ b. one (b && (l.1 == i))) t ∙ ap one other in
          omega (arith, here, rest)
      | inr f ↦
          let here : one (is_in left l.0 && (l.1 == i)) ≡ 0 = ap (λ b. one (b && (l.1 == i))) f in
          omega (arith, here, rest)
    ]
  where
    or_first : (a b : Bool) → (a || b) ≡ false → a ≡ false
    or_first a b e = grind arith

    or_second : (a b : Bool) → (a || b) ≡ false → b ≡ false
    or_second a b e = grind arith

-- without a node there are fewer, by its own
in_rest : (x : ℕ) (left : List ℕ) (j : ℕ) → (j ≡ x → ⊥) → is_in (without_node x left) j ≡ is_in left j
in_rest x left j n =
    elim (cases_Bool (is_in left j)) [
      | inl t ↦ is_in_true (without_node x left) j (in_without (λ i. i) x left j (from_is_in left j t) n) ∙ sym t
      | inr f ↦
          is_in_false (without_node x left) j
          (λ m.
          let wrong : true ≡ false = sym (is_in_true left j (without_is (λ i. i) x left j m).0) ∙ f in
          absurd (cc))
          ∙ sym f
    ]

pub led_without : (links : Links) (left : List ℕ) (x i : ℕ) → Contains left x
    → led links left i ≡ led links (without_node x left) i + times i (group links x)
led_without [] left x i m = refl
led_without (l ∷ links) left x i m =
    let rest = led_without links left x i m in
    elim (cases_eq l.0 x) [
      | inl e ↦
          let here : is_in left l.0 ≡ true = is_in_true left l.0 (subst (Contains left) (sym e) m) in
          let gone : is_in (without_node x left) l.0 ≡ false =
          is_in_false (without_node x left) l.0 (λ k. (without_is (λ i. i) x left l.0 k).1 e) in
          let with : times i (group (l ∷ links) x) ≡ one (l.1 == i) + times i (group links x) =
          ap (λ b. times i (map (λ (p : ℕ × ℕ). p.1) (cond b (l ∷ filter (λ p. p.0 == x) links) (filter (λ p. p.0 == x) links)))) (eq-eqb l.0 x e) in
          let first : one (is_in left l.0 && (l.1 == i)) ≡ one (l.1 == i) = ap (λ b. one (b && (l.1 == i))) here in
          let second : one (is_in (without_node x left) l.0 && (l.1 == i)) ≡ 0 = ap (λ b. one (b && (l.1 == i))) gone in
          omega (arith, rest, with, first, second)
      | inr n ↦
          grind (arith, is_in, without_node, in_rest, times, group, ne_eqb, one)
    ]

-- the counts of all links
pub counts_are : (links : Links) (left counts : List ℕ) (i : ℕ) → All (λ l. Contains left l.0 × (l.1 < length counts)) links
    → at_node (fold counted counts links) i ≡ at_node counts i + led links left i
counts_are [] left counts i all = omega arith
counts_are (l ∷ links) left counts i all =
    let here = All-head (λ l. Contains left l.0 × (l.1 < length counts)) l links all in
    let more = counted counts l in
    let long : length more ≡ length counts = length-set counts l.1 (at_node counts l.1 + 1) in
    let rest = counts_are links left more i
    (subst (λ n. All (λ l. Contains left l.0 × (l.1 < n)) links) (sym long)
    (All-tail (λ l. Contains left l.0 × (l.1 < length counts)) l links all)) in
    let in_it : is_in left l.0 ≡ true = is_in_true left l.0 here.0 in
    let counts_l : one (is_in left l.0 && (l.1 == i)) ≡ one (l.1 == i) = ap (λ b. one (b && (l.1 == i))) in_it in
    grind (arith, get_or-set_same, get_or-set_other)
