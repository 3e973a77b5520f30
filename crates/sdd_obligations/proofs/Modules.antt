-- Lists of modules: what is sent to each of them, and the uses that are read there.
use Rattle.sdd_obligations.proofs.All.{AllGt, Bool, D, IsStrict, List, Msg, None, Some, [], ap, arith, cond, cons_option, contains, dm_no, either, eqb-true, false, filter, filter_map, if◌then◌else◌, inl, inr, map, module_read, not_same, or_left, or_right, refl, same_number, same_or_not, subst, sym, to_all, to_site, true, uses_at, without, ℕ, ◌++◌, ◌<◌, ◌==◌, ◌||◌, ◌∙◌, ◌∷◌, ◌≡◌}

pub below_not : (a b : ℕ) → a < b → (a == b) ≡ false
below_not a b l = elim (same_or_not a b) [ inl p ↦ absurd (omega (arith, p, l)) | inr p ↦ p ]

-- a list without a number

pub without_own : (ns : List ℕ) (n : ℕ) → contains (without ns n) n ≡ false
without_own [] n = refl
without_own (x ∷ ns) n = grind (arith, cond, without, without_own ns n)

pub without_other : (ns : List ℕ) (n d : ℕ) → (d == n) ≡ false → contains (without ns n) d ≡ contains ns d
without_other [] n d e = refl
without_other (x ∷ ns) n d e = grind (arith, cond, without, eqb-true, not_same, without_other ns n d e)

-- members of what is joined

pub contains_left : (xs ys : List ℕ) (n : ℕ) → contains xs n ≡ true → contains (xs ++ ys) n ≡ true
contains_left [] ys n e = cc
contains_left (x ∷ xs) ys n e = elim (either (x == n) (contains xs n) e) [
  | inl p ↦ or_left (x == n) (contains (xs ++ ys) n) p
  | inr p ↦ or_right (x == n) (contains (xs ++ ys) n) (contains_left xs ys n p)
]

pub contains_right : (xs ys : List ℕ) (n : ℕ) → contains ys n ≡ true → contains (xs ++ ys) n ≡ true
contains_right [] ys n e = e
contains_right (x ∷ xs) ys n e = or_right (x == n) (contains (xs ++ ys) n) (contains_right xs ys n e)

-- the messages to one module
abbrev pub to_module : ℕ → List (ℕ × Msg) → List Msg
to_module d [] = []
to_module d (p ∷ ps) = if d == p.0 then p.1 ∷ to_module d ps else to_module d ps

none_above : (m : Msg) (d : ℕ) (dms : List ℕ) → AllGt d dms → to_module d (to_all m dms) ≡ []
none_above m d [] h = refl
none_above m d (x ∷ dms) h = rw (below_not d x h.0) (none_above m d dms h.1)

pub one_to_each : (m : Msg) (dms : List ℕ) (d : ℕ) → IsStrict dms → to_module d (to_all m dms) ≡ (if contains dms d then m ∷ [] else [])
one_to_each m [] d h = refl
one_to_each m (x ∷ dms) d h = grind (arith, same_or_not, same_number, none_above, not_same, one_to_each m dms d h.1)

none_sent_above : (f : ℕ → Msg) (d : ℕ) (dms : List ℕ) → AllGt d dms → to_site (D (dm_no d)) (map (λ d. (D (dm_no d), f d)) dms) ≡ []
none_sent_above f d [] h = refl
none_sent_above f d (x ∷ dms) h = rw (below_not d x h.0) (none_sent_above f d dms h.1)

pub sent_to_each : (f : ℕ → Msg) (dms : List ℕ) (d : ℕ) → IsStrict dms
    → to_site (D (dm_no d)) (map (λ d. (D (dm_no d), f d)) dms) ≡ (if contains dms d then f d ∷ [] else [])
sent_to_each f [] d h = refl
sent_to_each f (x ∷ dms) d h = grind (arith, same_or_not, same_number, none_sent_above, not_same, sent_to_each f dms d h.1)

-- modules with the numbers of the uses that are read there
abbrev pub firsts : List (ℕ × List ℕ) → List ℕ
firsts ms = map (λ m. m.0) ms

-- those that read a use
abbrev pub reading : List (ℕ × List ℕ) → ℕ → List ℕ
reading ms u = filter_map (λ m. cond (contains m.1 u) (Some m.0) None) ms

reading_above : (ms : List (ℕ × List ℕ)) (u k : ℕ) → AllGt k (firsts ms) → AllGt k (reading ms u)
reading_above [] u k h = tt
reading_above (m ∷ ms) u k h = grind (arith, cond, reading_above ms u k h.1)

pub reading_ascends : (ms : List (ℕ × List ℕ)) (u : ℕ) → IsStrict (firsts ms) → IsStrict (reading ms u)
reading_ascends [] u h = tt
reading_ascends (m ∷ ms) u h = elim (contains m.1 u) as (λ b. IsStrict (cons_option (cond b (Some m.0) None) (reading ms u))) [
  | true ↦ (reading_above ms u m.0 h.0, reading_ascends ms u h.1)
  | false ↦ reading_ascends ms u h.1
]

kept_all : (b : Bool) (ns : List ℕ) → b ≡ true → filter (λ (u : ℕ). b) ns ≡ ns
kept_all true [] e = refl
kept_all true (n ∷ ns) e = ap (λ l. n ∷ l) (kept_all true ns refl)
kept_all false ns e = cc

kept_none : (b : Bool) (ns : List ℕ) → b ≡ false → filter (λ (u : ℕ). b) ns ≡ []
kept_none true ns e = cc
kept_none false [] e = refl
kept_none false (n ∷ ns) e = kept_none false ns refl

-- a module that reads a use is one of them, and the use is one of those that are read there
pub reading_reads : (ms : List (ℕ × List ℕ)) (u d : ℕ) → contains (reading ms u) d ≡ true → (contains (firsts ms) d ≡ true) × (contains (uses_at ms d) u ≡ true)
reading_reads [] u d e = cc
reading_reads (m ∷ ms) u d e =
    elim (contains m.1 u) as (λ b. contains m.1 u ≡ b
    → contains (cons_option (cond b (Some m.0) None) (reading ms u)) d ≡ true
    → (contains (firsts (m ∷ ms)) d ≡ true) × (contains (uses_at (m ∷ ms) d) u ≡ true)) [
      | true ↦ λ p q. elim (either (m.0 == d) (contains (reading ms u) d) q) [
        | inl r ↦ (or_left (m.0 == d) (contains (firsts ms) d) r, contains_left (filter (λ (u : ℕ). m.0 == d) m.1) (uses_at ms d) u (subst (λ l. contains l u ≡ true) (sym (kept_all (m.0 == d) m.1 r)) p))
        | inr r ↦ (let i = reading_reads ms u d r in (
          or_right (m.0 == d) (contains (firsts ms) d) i.0,
          contains_right (filter (λ (u : ℕ). m.0 == d) m.1) (uses_at ms d) u i.1,
        ))
      ]
      | false ↦ λ p q. (let i = reading_reads ms u d q in (
        or_right (m.0 == d) (contains (firsts ms) d) i.0,
        contains_right (filter (λ (u : ℕ). m.0 == d) m.1) (uses_at ms d) u i.1,
      ))
    ] refl e

-- what a Start sends to modules

abbrev pub read_modules : (ℕ → Msg) → List ℕ → List (ℕ × List ℕ)
read_modules f dms = filter_map module_read (map (λ d. (D (dm_no d), f d)) dms)

abbrev pub TellsUses : (ℕ → Msg) → (ℕ → List ℕ) → Type 0
TellsUses f nums = (d : ℕ) → module_read (D (dm_no d), f d) ≡ Some (d, nums d)

pub read_firsts : (f : ℕ → Msg) (nums : ℕ → List ℕ) (dms : List ℕ) → TellsUses f nums → firsts (read_modules f dms) ≡ dms
read_firsts f nums [] g = refl
read_firsts f nums (d ∷ dms) g = rw (g d) (ap (λ l. d ∷ l) (read_firsts f nums dms g))

none_read_above : (f : ℕ → Msg) (nums : ℕ → List ℕ) (d : ℕ) (dms : List ℕ) → TellsUses f nums → AllGt d dms → uses_at (read_modules f dms) d ≡ []
none_read_above f nums d [] g h = refl
none_read_above f nums d (x ∷ dms) g h =
    rw (g x) (ap (λ l. l ++ uses_at (read_modules f dms) d) (kept_none (x == d) (nums x) (not_same d x (below_not d x h.0)))
    ∙ none_read_above f nums d dms g h.1)

append_none : (ns ms : List ℕ) → ms ≡ [] → ns ++ ms ≡ ns
append_none [] ms e = e
append_none (n ∷ ns) ms e = ap (λ l. n ∷ l) (append_none ns ms e)

pub read_uses : (f : ℕ → Msg) (nums : ℕ → List ℕ) (dms : List ℕ) (d : ℕ) → TellsUses f nums → IsStrict dms → contains dms d ≡ true
    → uses_at (read_modules f dms) d ≡ nums d
read_uses f nums [] d g h e = cc
read_uses f nums (x ∷ dms) d g h e = elim (same_or_not x d) [
  | inl p ↦ rw (g x) (subst (λ y. filter (λ (u : ℕ). x == y) (nums x) ++ uses_at
      (read_modules f dms) y ≡ nums y) p (append_none (filter (λ (u : ℕ). x == x) (nums x))
      (uses_at (read_modules f dms) x) (none_read_above f nums x dms g h.0) ∙ kept_all (x ==
      x) (nums x) (same_number x)))
  | inr p ↦ rw (g x) (ap (λ l. l ++ uses_at (read_modules f dms) d) (kept_none (x == d) (nums x) p)
      ∙ read_uses f nums dms d g h.1 (subst (λ b. (b || contains dms d) ≡ true) p e))
]
