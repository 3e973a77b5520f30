-- Of what is given there is one log: it is complete, or the limit ends it, and not both.
use Rattle.sdd_log.proofs.All.{EndsByLimit, Entry, Input, IsLawful, IsTheLog, IsWithin, Log, None, Some, [], ap, arith, false, inl, inr, is_past, next, refl, subst, sym, true, ◌∙◌, ◌∷◌, ◌≡◌, ◌⊎◌}

-- the first is the second, or what the second was before
abbrev pub IsBefore : Log → Log → Type 0
IsBefore m [] = m ≡ []
IsBefore m (e ∷ l) = (m ≡ e ∷ l) ⊎ IsBefore m l

before_self : (l : Log) → IsBefore l l
before_self [] = refl
before_self (e ∷ l) = inl refl

before_all : (l : Log) → IsBefore [] l
before_all [] = refl
before_all (e ∷ l) = inr (before_all l)

-- before, and then there is one entry more, or it is the same
one_longer : (l m : Log) → IsBefore l m → (m ≡ l) ⊎ ((x : Entry) × IsBefore (x ∷ l) m)
one_longer l [] h = inl (sym h)
one_longer l (e ∷ m) h = elim h as (λ _. (e ∷ m ≡ l) ⊎ ((x : Entry) × IsBefore (x ∷ l) (e ∷ m))) [
  | inl p ↦ inl (sym p)
  | inr q ↦ grind (arith, IsBefore, (one_longer l m q))
]

lawful_before : (g : Input) (l m : Log) → IsBefore l m → IsLawful g m → IsLawful g l
lawful_before g l [] h w = subst (λ z. IsLawful g z) (sym h) w
lawful_before g l (e ∷ m) h w = elim h as (λ _. IsLawful g l) [ inl p ↦ subst (λ z. IsLawful g z) (sym p) w | inr q ↦ lawful_before g l m q w.1 ]

within_before : (l m : Log) → IsBefore l m → IsWithin m → IsWithin l
within_before l [] h w = subst (λ z. IsWithin z) (sym h) w
within_before l (e ∷ m) h w = elim h as (λ _. IsWithin l) [ inl p ↦ subst (λ z. IsWithin z) (sym p) w | inr q ↦ within_before l m q w.1 ]

-- of two lawful logs one is before the other
pub one_chain : (g : Input) (m l : Log) → IsLawful g m → IsLawful g l → IsBefore m l ⊎ IsBefore l m
one_chain g m [] h k = inr (before_all m)
one_chain g m (e ∷ l) h k =
    elim (one_chain g m l h k.1) as (λ _. IsBefore m (e ∷ l) ⊎ IsBefore (e ∷ l) m) [
      | inl p ↦ inl (inr p)
      | inr q ↦ elim (one_longer l m q) as (λ _. IsBefore m (e ∷ l) ⊎ IsBefore (e ∷ l) m) [
        | inl p ↦ inl (inr (subst (λ z. IsBefore z l) (sym p) (before_self l)))
        | inr p ↦
            let a : next g l ≡ Some p.0 = (lawful_before g (p.0 ∷ l) m p.1 h).0 in let b : next g l ≡ Some e = k.0 in
            let c : Some p.0 ≡ Some e = sym a ∙ b in
            let same : p.0 ≡ e = cc in
            inr (subst (λ z. IsBefore (z ∷ l) m) same p.1)
      ]
    ]

-- a log that is complete has no entry more
no_more : (g : Input) (l m : Log) → next g l ≡ None → IsLawful g m → IsBefore l m → m ≡ l
no_more g l m n h b = elim (one_longer l m b) as (λ _. m ≡ l) [
  | inl p ↦ p
  | inr p ↦ let w : IsLawful g (p.0 ∷ l) = lawful_before g (p.0 ∷ l) m p.1 h in let a : next g l ≡ Some p.0 = w.0 in let c : None ≡ Some p.0 = sym n ∙ a in cc
]

pub one_log : (g : Input) (l m : Log) → IsTheLog g l → IsTheLog g m → l ≡ m
one_log g l m h k = grind (arith, one_chain, no_more)

-- no log is complete where a limit ends it
pub limit_or_complete : (g : Input) (m l : Log) → EndsByLimit g m → IsTheLog g l → ⊥
limit_or_complete g m l h k =
    elim (one_chain g m l h.lawful k.lawful) as (λ _. ⊥) [
      | inl p ↦ elim (one_longer m l p) as (λ _. ⊥) [
        | inl q ↦ let a : next g l ≡ Some h.entry = ap (next g) q ∙ h.next_is in let c : None ≡ Some h.entry = sym k.complete ∙ a in cc
        | inr q ↦
            let w : IsLawful g (q.0 ∷ m) = lawful_before g (q.0 ∷ m) l q.1 k.lawful in
            let v : IsWithin (q.0 ∷ m) = within_before (q.0 ∷ m) l q.1 k.within in
            let a : next g m ≡ Some q.0 = w.0 in let c : Some h.entry ≡ Some q.0 = sym h.next_is ∙ a in
            let same : h.entry ≡ q.0 = cc in
            let no : true ≡ false = sym h.past ∙ ap (is_past m) same ∙ v.0 in cc
      ]
      | inr p ↦ grind (arith, no_more, next)
    ]
