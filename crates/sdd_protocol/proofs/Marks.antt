-- Marks for the fragments that are asked for, one fragment after another.
use Rattle.sdd_protocol.proofs.All.{AreMarks, Bool, Catalogue, FragNo, List, [], and_from, and_right, ap, arith, cases_eq, eq-eqb, false, get_or, get_or-set_other, get_or-set_same, is_asked, is_read_at, length, list_any, list_any_more, nat_tests, or-false, or-true, refl, replicate, set, suc, take, true, ℕ, ◌&&◌, ◌+◌, ◌<◌, ◌==◌, ◌||◌, ◌≡◌, ◌≢◌}

-- no mark stands at first
none_marked : (n f : ℕ) → get_or (replicate n false) f false ≡ false
none_marked (suc n) (suc f) = none_marked n f
none_marked _ _ = refl

pub marks_none : (cat : Catalogue) (i dm n : ℕ) → AreMarks (is_asked cat i dm []) (replicate n false)
marks_none cat i dm n = none_marked n

module _ (cat : Catalogue) (i dm : ℕ) (frags : List FragNo) (k : ℕ) (d : FragNo) (l : k < length frags) where
  -- what one more fragment asks for
  asked_more : (f : ℕ)
      → is_asked cat i dm (take (k + 1) frags) f ≡ ((list_any (λ g. g.0 == f) (take k frags) || (get_or frags k d).0 == f) && is_read_at cat i dm f)
  asked_more f = ap (λ z. z && is_read_at cat i dm f) (list_any_more (λ g. g.0 == f) frags k d l)

  -- another fragment is asked for as before
  asked_other : (f : ℕ) → (get_or frags k d).0 ≢ f
      → is_asked cat i dm (take (k + 1) frags) f ≡ is_asked cat i dm (take k frags) f
  asked_other f n = grind (arith, nat_tests, asked_more, or-false)

  -- a fragment that is read at the module is marked
  pub marks_more : (marks : List Bool) → AreMarks (is_asked cat i dm (take k frags)) marks
      → is_read_at cat i dm (get_or frags k d).0 ≡ true → (get_or frags k d).0 < length marks
      → AreMarks (is_asked cat i dm (take (k + 1) frags)) (set marks (get_or frags k d).0 true)
  marks_more marks h read within f = grind (arith, get_or, list_any, cases_eq, asked_more, and_from, eq-eqb, or-true, get_or-set_same, get_or-set_other, asked_other)

  -- another one is left out
  pub marks_same : (marks : List Bool) → AreMarks (is_asked cat i dm (take k frags)) marks
      → is_read_at cat i dm (get_or frags k d).0 ≡ false → AreMarks (is_asked cat i dm (take (k + 1) frags)) marks
  marks_same marks h read f = grind (arith, nat_tests, cases_eq, and_right, asked_more, asked_other)
