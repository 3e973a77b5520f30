-- A class list is put in force at all transaction modules, one after the other.
use Rattle.sdd_sites.proofs.All.{AllRepresent, AreRedeclared, Bool, Era, FitsEra, Input, IsSiteOf, Log, Redeclared, Represent, Setting, Site, Sites, StayAtOthers, T, TmNo, and_from, and_parts, ap, arith, cases_lt, false, nat_tests, fold, inl, inr, le-leb, leb-true, local_of, map, max, nat_le, number_of, range_with_len, refl, same_is, same_site, setting_of, subst, suc, sym, takes_part, tm_no, true, ℕ, ◌+◌, ◌-◌, ◌<◌, ◌==◌, ◌∙◌, ◌∷◌, ◌≡◌, ◌≤◌}
use Rattle.sdd_needs.specs.site_module.SiteLog as site

-- the transaction modules before number n represent logs with the list, all other modules for theirs
pub record RedeclaredAt (m : Sites) (g : Input) (log : Log) (era : Era) (t n : ℕ) : Type 0 where
  pub redeclared_at : (k : ℕ) → 1 ≤ k → k < n → IsSiteOf g (T (tm_no k))
      → Represent m (takes_part (T (tm_no k)) log) (T (tm_no k)) (setting_of g (T (tm_no k))) (Redeclared era t ∷ local_of g (T (tm_no k)) log)
  pub others : (at : Site) → ((k : ℕ) → at ≡ T (tm_no k) → n ≤ k) → IsSiteOf g at → Represent m (takes_part at log) at (setting_of g at) (local_of g at log)

pub none_redeclared : (m : Sites) (g : Input) (log : Log) (era : Era) (t : ℕ) → AllRepresent m g log → RedeclaredAt m g log era t 1
none_redeclared m g log era t all = record { redeclared_at = λ k low high here. absurd (omega arith); others = λ at later here. all at here }

-- transaction modules within the network

differ : (a b : ℕ) → a < b → (a == b) ≡ false
differ a b l = grind (arith, nat_tests)

pub t_here : (g : Input) (n : ℕ) → 1 ≤ n → n ≤ g.catalogue.tms → IsSiteOf g (T (tm_no n))
t_here g n low high = and_from (nat_le 1 n) (nat_le n g.catalogue.tms) (le-leb 1 n low) (le-leb n g.catalogue.tms high)

t_within : (g : Input) (t : TmNo) → IsSiteOf g (T t) → (1 ≤ t.0) × (t.0 ≤ g.catalogue.tms)
t_within g t here =
    let p = and_parts (nat_le 1 t.0) (nat_le t.0 g.catalogue.tms) here in
    (leb-true 1 t.0 p.0, leb-true t.0 g.catalogue.tms p.1)

-- what the module that comes next represents
pub t_represents : (m : Sites) (g : Input) (log : Log) (era : Era) (t n : ℕ) → RedeclaredAt m g log era t n → IsSiteOf g (T (tm_no n))
    → Represent m (takes_part (T (tm_no n)) log) (T (tm_no n)) (setting_of g (T (tm_no n))) (local_of g (T (tm_no n)) log)
t_represents m g log era t n f here = f.others (T (tm_no n)) (λ k e. (let same : n ≡ k = ap number_of e in omega (arith, same))) here

-- what the call at one module does

abbrev pub EraLaw : Sites → Sites → Era → ℕ → ℕ → Type 0
EraLaw m m2 era t n = (part : Bool) (setting : Setting) (l : site.Log) → Represent m part (T (tm_no n)) setting l → FitsEra setting.catalogue era t
    → Represent m2 part (T (tm_no n)) setting (Redeclared era t ∷ l)

apart_from : (at : Site) (n : ℕ) → ((k : ℕ) → at ≡ T (tm_no k) → n + 1 ≤ k) → same_site at (T (tm_no n)) ≡ false
apart_from at n later = elim (same_site at (T (tm_no n))) as (λ b. same_site at (T (tm_no n)) ≡ b → b ≡ false) [
  | true ↦ λ p. (let l = later n (same_is at (T (tm_no n)) p) in absurd (omega (arith, l)))
  | false ↦ λ p. refl
] refl

pub one_redeclared : (m m2 : Sites) (g : Input) (log : Log) (era : Era) (t n : ℕ) → RedeclaredAt m g log era t n → IsSiteOf g (T (tm_no n))
    → FitsEra g.catalogue era t → EraLaw m m2 era t n → StayAtOthers m m2 (T (tm_no n)) → RedeclaredAt m2 g log era t (n + 1)
one_redeclared m m2 g log era t n f here fits law stay = record {
  redeclared_at = λ k low high there. elim (cases_lt k n) [
    | inl l ↦ stay (T (tm_no k)) (takes_part (T (tm_no k)) log) (setting_of g (T (tm_no k))) (Redeclared era t ∷ local_of g (T (tm_no k)) log)
        (differ k n l) (f.redeclared_at k low l there)
    | inr l ↦
        (let same : n ≡ k = omega (arith, l, high) in
        subst (λ j. Represent m2 (takes_part (T (tm_no j)) log) (T (tm_no j)) (setting_of g (T (tm_no j)))
        (Redeclared era t ∷ local_of g (T (tm_no j)) log)) same
        (law (takes_part (T (tm_no n)) log) (setting_of g (T (tm_no n))) (local_of g (T (tm_no n)) log) (t_represents m g log era t n f here) fits))
  ];
  others = λ at later there. stay at (takes_part at log) (setting_of g at) (local_of g at log) (apart_from at n later)
      (f.others at (λ k e. (let l = later k e in omega (arith, l))) there);
}

-- after the last number all represent what they are to represent
pub all_redeclared : (m : Sites) (g : Input) (log : Log) (era : Era) (t n : ℕ)
    → n ≡ g.catalogue.tms + 1 → RedeclaredAt m g log era t n → AreRedeclared m g log era t
all_redeclared m g log era t n e f (T k) here = let r = t_within g k here in f.redeclared_at k.0 r.0 (let high = r.1 in omega (arith, e, high)) here
all_redeclared m g log era t n e f x here = f.others x (λ k q. cc) here

-- the greatest of the bounds from number n on, where a is that of those before

one_less : (n m : ℕ) → n < m → m - n ≡ suc (m - (n + 1))
one_less n m l = omega (arith, l)

pub greatest_next : (f : ℕ → ℕ) (a n m b new v : ℕ) → n < m → b ≡ f n → new ≡ max a b → fold max a (map f (range_with_len n (m - n))) ≡ v
    → fold max new (map f (range_with_len (n + 1) (m - (n + 1)))) ≡ v
greatest_next f a n m b new v l is most all =
    ap (λ x. fold max x (map f (range_with_len (n + 1) (m - (n + 1))))) (most ∙ ap (λ x. max a x) is)
    ∙ ap (λ k. fold max a (map f (range_with_len n k))) (sym (one_less n m l)) ∙ all

pub greatest_last : (f : ℕ → ℕ) (a n m v : ℕ) → n ≡ m → fold max a (map f (range_with_len n (m - n))) ≡ v → a ≡ v
greatest_last f a n m v e all =
    let none : m - n ≡ 0 = omega (arith, e) in
    ap (λ k. fold max a (map f (range_with_len n k))) (sym none) ∙ all

first_left : (m : ℕ) → m + 1 - 1 ≡ m
first_left m = omega arith

pub greatest_first : (f : ℕ → ℕ) (m v : ℕ) → fold max 0 (map f (range_with_len 1 m)) ≡ v → fold max 0 (map f (range_with_len 1 (m + 1 - 1))) ≡ v
greatest_first f m v e = ap (λ k. fold max 0 (map f (range_with_len 1 k))) (first_left m) ∙ e
