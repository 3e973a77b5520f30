-- The condition of a reader on a class: which protocol asks it, up to which time, and for which fragments.
use Rattle.sdd_protocol.proofs.All.{Bool, Catalogue, Cond, Diagonal, Edge, Entry, FragNo, IsTable, List, None, Option, P1, P2, P3, Protocol, Some, [], and_from, and_parts, ap, arith, asked_by, cases_Bool, class_no, cond_for, cond_of, condition_on, condition_under, eq-eqb, eqb-true, false, inl, inr, is_between, nat_tests, option_and_then, protocol_between, refl, same_Some, slice_get, suc, true, zero, ℕ, ◌==◌, ◌∙◌, ◌∷◌, ◌≡◌, ◌⊎◌}
use Rattle.sdd_protocol.proofs.Laws.{one_protocol}

-- what the protocol asks of class j up to the time, for fragments of which there are some
pub record IsAskedBy (protocol : Protocol) (test : ℕ → Bool) (entries : List Entry) (i j time : ℕ) (q : Cond) : Type 0 where
  pub is : q ≡ cond_of j time (asked_by protocol test entries i j)
  pub first : FragNo
  pub more : List FragNo
  pub some : asked_by protocol test entries i j ≡ first ∷ more

for_some : (j t : ℕ) (frags : List FragNo) (q : Cond) → cond_for j t frags ≡ Some q
    → (q ≡ cond_of j t frags) × (first : FragNo) × (more : List FragNo) × (frags ≡ first ∷ more)
for_some j t [] q e = cc
for_some j t (f ∷ frags) q e = ((grind arith), f, frags, refl)

asked_for : (protocol : Protocol) (test : ℕ → Bool) (entries : List Entry) (i j t : ℕ) (q : Cond)
    → cond_for j t (asked_by protocol test entries i j) ≡ Some q → IsAskedBy protocol test entries i j t q
asked_for protocol test entries i j t q e =
    let f = for_some j t (asked_by protocol test entries i j) q e in
    record { is = f.0; first = f.1; more = f.2; some = f.3 }

module _ (test : ℕ → Bool) (entries : List Entry) (i own p2 j : ℕ) where
  -- it is none, or one of P2 or of P3
  pub by_condition : (R : Option Cond → Type 0) → R None → R (cond_for j p2 (asked_by P2 test entries i j))
      → R (cond_for j own (asked_by P3 test entries i j)) → R (condition_on test entries i own p2 j)
  by_condition R none second third = elim (protocol_between entries i j) as (λ o. R (option_and_then (condition_under test entries i own p2 j) o)) [
    | None ↦ none
    | Some P1 ↦ none
    | Some P2 ↦ second
    | Some P3 ↦ third
  ]

  -- where there is one, P3 asks it up to the reader's own time, or P2 up to the time of P2
  pub condition_is : (q : Cond) → condition_on test entries i own p2 j ≡ Some q
      → IsAskedBy P3 test entries i j own q ⊎ IsAskedBy P2 test entries i j p2 q
  condition_is q =
      by_condition (λ o. o ≡ Some q → IsAskedBy P3 test entries i j own q ⊎ IsAskedBy P2 test entries i j p2 q) (λ e. cc)
      (λ e. inr (asked_for P2 test entries i j p2 q e)) (λ e. inl (asked_for P3 test entries i j own q e))

  -- it is on class j
  pub condition_class : (q : Cond) → condition_on test entries i own p2 j ≡ Some q → q.class.0 ≡ j
  condition_class q e = elim (condition_is q e) [ inl a ↦ ap (λ (c : Cond). c.class.0) a.is | inr a ↦ ap (λ (c : Cond). c.class.0) a.is ]

  -- and its time is one of the two
  pub condition_time : (q : Cond) → condition_on test entries i own p2 j ≡ Some q → (q.time.0 ≡ own) ⊎ (q.time.0 ≡ p2)
  condition_time q e =
      elim (condition_is q e) [ inl a ↦ inl (ap (λ (c : Cond). c.time.0) a.is) | inr a ↦ inr (ap (λ (c : Cond). c.time.0) a.is) ]

-- where some entry is a diagonal between two classes, the protocol between them is that of a diagonal
pub record HasProtocol (entries : List Entry) (i j : ℕ) : Type 0 where
  pub place : ℕ
  pub entry : Entry
  pub there : slice_get entries place ≡ Some entry
  pub between : is_between i j entry.edge ≡ true
  pub protocol_is : protocol_between entries i j ≡ Some entry.protocol

first_there : (x : Entry) (entries : List Entry) (i j : ℕ) → is_between i j x.edge ≡ true → HasProtocol (x ∷ entries) i j
first_there x entries i j t = record { place = 0; entry = x; there = refl; between = t; protocol_is = (grind (arith, nat_tests)) }

later_there : (x : Entry) (entries : List Entry) (i j : ℕ) → is_between i j x.edge ≡ false → HasProtocol entries i j → HasProtocol (x ∷ entries) i j
later_there x entries i j n h =
    record { place = suc h.place; entry = h.entry; there = h.there; between = h.between; protocol_is = (let p = h.protocol_is in grind (arith, nat_tests)) }

has_protocol : (entries : List Entry) (i j k : ℕ) (e : Entry) → slice_get entries k ≡ Some e → is_between i j e.edge ≡ true
    → HasProtocol entries i j
has_protocol [] i j k e at t = cc
has_protocol (x ∷ entries) i j zero e at t = first_there x entries i j (let s = same_Some x e at in rw (s, t) refl)
has_protocol (x ∷ entries) i j (suc k) e at t = elim (cases_Bool (is_between i j x.edge)) [
  | inl h ↦ first_there x entries i j h
  | inr h ↦ later_there x entries i j h (has_protocol entries i j k e at t)
]

-- a diagonal between two classes
between_is : (i j : ℕ) (e : Edge) → is_between i j e ≡ true → (f : FragNo) × (e ≡ Diagonal (class_no i) (class_no j) f)
between_is i j (Diagonal reader writer f) t = let p = and_parts (reader.0 == i) (writer.0 == j) t in (
  f,
  ap (λ n. Diagonal (class_no n) writer f) (eqb-true reader.0 i p.0) ∙ ap (λ n. Diagonal (class_no i) (class_no n) f) (eqb-true writer.0 j p.1),
)
between_is i j _ t = absurd cc

-- in a table the protocol between two classes is that of each diagonal between them
pub protocol_known : (cat : Catalogue) (entries : List Entry) (k : ℕ) (e : Entry) (i j : ℕ) (f : FragNo) → IsTable cat entries
    → slice_get entries k ≡ Some e → e.edge ≡ Diagonal (class_no i) (class_no j) f → protocol_between entries i j ≡ Some e.protocol
protocol_known cat entries k e i j f table at is =
    let h = has_protocol entries i j k e at (ap (λ x. is_between i j x) is ∙ and_from (i == i) (j == j) (eq-eqb i i refl) (eq-eqb j j refl)) in
    let b = between_is i j h.entry.edge h.between in
    h.protocol_is ∙ ap (λ p. Some p) (one_protocol cat entries table h.place k h.entry e (class_no i) (class_no j) b.0 f h.there at b.1 is)
