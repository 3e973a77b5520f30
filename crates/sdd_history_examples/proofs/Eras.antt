-- A test that tells that what one class list submits is done before the next is in force.
use Rattle.sdd_history_examples.proofs.All.{Attempt, Bool, Catalogue, Change, Committed, Contains, DmNo, Eras, GoesTo, History, IsAttempt, IsCommitted, IsOfEarlierEra, KeepsEras, and_from, and_parts, ap, applied_before, arith, attempts, by_change, by_no_class, committed, eq-eqb, eqb-true, eras_begun, event_at, fragment_at, has_copy, in_attempts, is_applied, list_all, lt-ltb, ltb-true, member_passes, nat_lt, numbers_to, refl, subst, true, ℕ, ◌&&◌, ◌<◌, ◌==◌, ◌∙◌, ◌≡◌}
use Rattle.sdd_history_examples.proofs.Each.{if_so, so, each, all_pairs, each_pair, each_to}
use Rattle.sdd_history_examples.proofs.Listed.{submits, in_submits}

-- whether the first of two transactions is submitted in an earlier era
abbrev is_earlier : Eras → History → Committed → Committed → ℕ × ℕ → ℕ × ℕ → Bool
is_earlier eras h x y p q = (p.0 == x.start.txn) && ((q.0 == y.start.txn) && nat_lt (eras_begun eras (event_at h p.1)) (eras_begun eras (event_at h q.1)))

-- whether a transaction is applied before a place wherever it is to be

abbrev copies_applied : Catalogue → History → Committed → ℕ → Change → Bool
copies_applied cat h x k c = list_all (λ d. is_applied h d.0 k x.start.txn) (fragment_at cat c.frag.0).copies

abbrev all_applied : Catalogue → History → Committed → ℕ → Bool
all_applied cat h x k =
    list_all (copies_applied cat h x k) x.changes
    && if_so (x.start.class == 0) (list_all (λ d. is_applied h d k x.start.txn) (numbers_to cat.dms))

abbrev is_done : Catalogue → History → Committed → Committed → Attempt → Bool
is_done cat h x y a = if_so (a.txn == y.start.txn) (nat_lt x.place a.place && all_applied cat h x a.place)

abbrev keeps_pair : Catalogue → Eras → History → Committed → Committed → Bool
keeps_pair cat eras h x y =
    all_pairs (λ p q. if_so (is_earlier eras h x y p q) (nat_lt x.start.ts y.start.ts && list_all (is_done cat h x y) (attempts h))) (submits h) (submits h)

abbrev is_of_one_era : Eras → History → Attempt → ℕ × ℕ → Bool
is_of_one_era eras h a p = if_so (p.0 == a.txn) (eras_begun eras (event_at h p.1) == eras_begun eras (event_at h a.place))

pub record PassEras (cat : Catalogue) (eras : Eras) (h : History) : Type 0 where
  pub apart : all_pairs (keeps_pair cat eras h) (committed h) (committed h) ≡ true
  pub one_era : all_pairs (is_of_one_era eras h) (attempts h) (submits h) ≡ true

applied_everywhere : (cat : Catalogue) (h : History) (x : Committed) (k d : ℕ) → all_applied cat h x k ≡ true → GoesTo cat x d → is_applied h d k x.start.txn ≡ true
applied_everywhere cat h x k d e (by_change t) =
    let both = and_parts (list_all (copies_applied cat h x k) x.changes) (if_so (x.start.class == 0) (list_all (λ d. is_applied h d k x.start.txn) (numbers_to cat.dms))) e in
    let m = member_passes (λ (c : Change). c.frag.0 == t.fragment) x.changes t.changed in
    let copied : has_copy cat d m.0.frag.0 ≡ true = ap (has_copy cat d) (eqb-true m.0.frag.0 t.fragment m.2) ∙ t.copied in
    let c = member_passes (λ (z : DmNo). z.0 == d) (fragment_at cat m.0.frag.0).copies copied in
    let there = each (λ (z : DmNo). is_applied h z.0 k x.start.txn) (fragment_at cat m.0.frag.0).copies c.0 (each (copies_applied cat h x k) x.changes m.0 both.0 m.1) c.1 in
    subst (λ n. is_applied h n k x.start.txn ≡ true) (eqb-true c.0.0 d c.2) there
applied_everywhere cat h x k d e (by_no_class z m) =
    let test : ℕ → Bool = λ d. is_applied h d k x.start.txn in
    let both = and_parts (list_all (copies_applied cat h x k) x.changes) (if_so (x.start.class == 0) (list_all test (numbers_to cat.dms))) e in
    each_to test cat.dms d (so (x.start.class == 0) (list_all test (numbers_to cat.dms)) both.1 (eq-eqb x.start.class 0 z)) m.0 m.1

module _ (cat : Catalogue) (eras : Eras) (h : History) (there : (t : Committed) → IsCommitted h t → Contains (committed h) t) (pass : PassEras cat eras h) where
  of_pair : (x y : Committed) → IsOfEarlierEra eras h x y → (nat_lt x.start.ts y.start.ts && list_all (is_done cat h x y) (attempts h)) ≡ true
  of_pair x y e =
      let p : ℕ × ℕ = (x.start.txn, e.first_place) in
      let q : ℕ × ℕ = (y.start.txn, e.second_place) in
      let n = eras_begun eras (event_at h e.first_place) in
      let m = eras_begun eras (event_at h e.second_place) in
      let last = nat_lt x.start.ts y.start.ts && list_all (is_done cat h x y) (attempts h) in
      let t = each_pair (keeps_pair cat eras h) (committed h) (committed h) x y pass.apart (there x e.first) (there y e.second) in
      let u = each_pair (λ (p q : ℕ × ℕ). if_so (is_earlier eras h x y p q)
      (nat_lt x.start.ts y.start.ts && list_all (is_done cat h x y) (attempts h))) (submits h) (submits h) p q t
      (in_submits h x.start.txn e.first_place e.first_submitted) (in_submits h y.start.txn e.second_place e.second_submitted) in
      so (is_earlier eras h x y p q) last u
      (grind (arith, and_from, nat_lt, eq-eqb, lt-ltb))

  done : (x y : Committed) (a : Attempt) → IsOfEarlierEra eras h x y → IsAttempt h a → a.txn ≡ y.start.txn → (x.place < a.place) × (all_applied cat h x a.place ≡ true)
  done x y a e p is =
      let both = and_parts (nat_lt x.start.ts y.start.ts) (list_all (is_done cat h x y) (attempts h)) (of_pair x y e) in
      let t = each (is_done cat h x y) (attempts h) a both.1 (in_attempts h a p) in
      let u = so (a.txn == y.start.txn) (nat_lt x.place a.place && all_applied cat h x a.place) t (eq-eqb a.txn y.start.txn is) in
      let parts = and_parts (nat_lt x.place a.place) (all_applied cat h x a.place) u in
      (ltb-true x.place a.place parts.0, parts.1)

  pub keeps_eras : KeepsEras cat eras h
  keeps_eras =
      record {
        times_rise = λ x y e.
            ltb-true x.start.ts y.start.ts (and_parts (nat_lt x.start.ts y.start.ts) (list_all (is_done cat h x y) (attempts h)) (of_pair x y e)).0;
        committed = λ x y a e p is. (done x y a e p is).0;
        applied = λ x y a d e p is g. applied_before h x.start.txn d a.place (applied_everywhere cat h x a.place d (done x y a e p is).1 g);
        one_era = λ a k p s.
            let n = eras_begun eras (event_at h k) in
            let m = eras_begun eras (event_at h a.place) in
            let t = each_pair (is_of_one_era eras h) (attempts h) (submits h) a (a.txn, k) pass.one_era (in_attempts h a p) (in_submits h a.txn k s) in
            eqb-true n m (so (a.txn == a.txn) (n == m) t (eq-eqb a.txn a.txn refl));
      }
