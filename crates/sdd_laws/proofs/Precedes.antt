-- What precedes by the test precedes by the deeds, so that a cycle of the one is one of the other.
use Rattle.sdd_laws.proofs.All.{Apply, Attempt, Catalogue, Change, Committed, Contains, HasNoCycle, History, IsApplied, IsCommitted, IsOrderly, IsPath, IsRecordAt, IsSeen, IsSubmitted, List, Precedes, Rec, [], and_parts, arith, by_class, by_seen, by_unseen, by_writes, changes, comes_from, dm_no, eq-eqb, eqb-false, eqb-true, false≢true, fragments_in, in_turn, inl, inr, is_answer, is_answered, is_apply, is_earlier, is_overwritten, is_read_by, list_any, ltb-true, member_passes, misses, module_of, nat_lt, nat_tests, not, not-true, or_cases, passes_member, precedes, reads, refl, rules, subst, sym, system, true, txn_no, was_seen, ℕ, ◌&&◌, ◌==◌, ◌||◌, ◌∙◌, ◌∷◌, ◌≡◌, ◌≢◌}
use Rattle.sdd_laws.proofs.Deeds.{Placed, deeds}
use Rattle.sdd_acyclic.specs.Deeds.{Txn}
use Rattle.sdd_acyclic.specs.System as core

pub is_applied : (h : History) (n d k : ℕ) (r : Rec) → IsRecordAt h k r → is_apply n d r ≡ true → IsApplied h n d k
is_applied h n d k (Apply txn class dm ts) s t =
    let both = and_parts (txn.0 == n) (dm.0 == d) t in
    let two : dm.0 ≡ d = eqb-true dm.0 d both.1 in
    record {
      class = class.0;
      ts = ts.0;
      is_recorded =
          subst (λ m. IsRecordAt h k (Apply (txn_no m) class (dm_no d) ts)) (eqb-true txn.0 n both.0)
          (subst (λ m. IsRecordAt h k (Apply txn class (dm_no m) ts)) two s);
    }
is_applied h n d k _ s t = absurd (cc)

pub reads_member : (a : Attempt) (f : ℕ) → Contains (fragments_in a.uses) f → reads a f ≡ true
reads_member a f h = passes_member (λ x. x == f) (fragments_in a.uses) f h (eq-eqb f f refl)

pub changes_member : (t : Committed) (c : Change) → Contains t.changes c → changes t c.frag.0 ≡ true
changes_member t c h = passes_member (λ (x : Change). x.frag.0 == c.frag.0) t.changes c h (eq-eqb c.frag.0 c.frag.0 refl)

module _ (cat : Catalogue) (h : History) where
  -- seen, as a test and by places
  pub seen_is : (x y : Placed) (d : ℕ) → was_seen h x.txn d y.txn ≡ true → IsSeen (deeds cat h) x d y
  seen_is x y d e =
      let p = is_apply x.txn.start.txn d in
      let q = is_answer y.txn.start.txn y.txn.start.number d in
      let t = in_turn p q h e in
      grind (arith, nat_tests, is_answered, is_applied)

  pub is_seen : (x y : Placed) (d : ℕ) → IsSeen (deeds cat h) x d y → was_seen h x.txn d y.txn ≡ true
  is_seen x y d s = search (rules, comes_from)

  pub precedes_is : (x y : Txn (deeds cat h)) → precedes cat h x.no.txn y.no.txn ≡ true → core.Precedes (system (deeds cat h)) x y
  precedes_is x y e =
      let t = x.no.txn in
      let u = y.no.txn in
      let both = and_parts (not (t.start.txn == u.start.txn)) ((is_earlier t u || is_overwritten t u) || (misses cat h t u || is_read_by cat h t u)) e in
      let other : t.start.txn ≢ u.start.txn = eqb-false t.start.txn u.start.txn (not-true (t.start.txn == u.start.txn) both.0) in
      elim (or_cases (is_earlier t u || is_overwritten t u) (misses cat h t u || is_read_by cat h t u) both.1) [
        | inl a ↦ elim (or_cases (is_earlier t u) (is_overwritten t u) a) [
          | inl b ↦
              grind (arith, and_parts, nat_lt, by_class, eqb-true, ltb-true)
          | inr b ↦
              let parts = and_parts (list_any (λ (c : Change). changes u c.frag.0) t.changes) (nat_lt t.start.ts u.start.ts) b in
              let m = member_passes (λ (c : Change). changes u c.frag.0) t.changes parts.0 in
              by_writes other m.0.frag.0 (changes_member t m.0 m.1) m.2 (ltb-true t.start.ts u.start.ts parts.1)
        ]
        | inr a ↦ elim (or_cases (misses cat h t u) (is_read_by cat h t u) a) [
          | inl b ↦
              let m = member_passes (λ f. changes u f && not (was_seen h u (module_of cat t.start.class f) t)) (fragments_in t.start.uses) b in
              let d = module_of cat t.start.class m.0 in
              let parts = and_parts (changes u m.0) (not (was_seen h u d t)) m.2 in
              by_unseen other m.0 (reads_member t.start m.0 m.1) parts.0
              (λ s. false≢true (sym (not-true (was_seen h u d t) parts.1) ∙ is_seen y.no x.no d s))
          | inr b ↦
              let m = member_passes (λ f. changes t f && was_seen h t (module_of cat u.start.class f) u) (fragments_in u.start.uses) b in
              let d = module_of cat u.start.class m.0 in
              let parts = and_parts (changes t m.0) (was_seen h t d u) m.2 in
              by_seen other m.0 parts.0 (reads_member u.start m.0 m.1) (seen_is x.no y.no d parts.1)
        ]
      ]

  -- a committed transaction with the place of its Submit
  abbrev pub at_place : (t : Committed) (k : ℕ) → IsCommitted h t → IsSubmitted h t.start.txn k → Txn (deeds cat h)
  at_place t k c s = record { no = record { txn = t; submit = k }; is = record { committed = c; submitted = s } }

  module _ (submitted : (t : Committed) → IsCommitted h t → (k : ℕ) × IsSubmitted h t.start.txn k) where
    path_of_deeds : (x : Committed) (j : ℕ) (a : IsCommitted h x) (p : IsSubmitted h x.start.txn j) (m : List Committed)
        (y : Committed) (k : ℕ) (b : IsCommitted h y) (q : IsSubmitted h y.start.txn k) → IsPath (Precedes cat h) x m y
        → (l : List (Txn (deeds cat h))) × IsPath (core.Precedes (system (deeds cat h))) (at_place x j a p) l (at_place y k b q)
    path_of_deeds x j a p [] y k b q r = ([], precedes_is (at_place x j a p) (at_place y k b q) r.precedes)
    path_of_deeds x j a p (z ∷ m) y k b q r =
        let c = r.0.second in
        let s = submitted z c in
        let here : Txn (deeds cat h) = at_place z s.0 c s.1 in
        let rest = path_of_deeds z s.0 c s.1 m y k b q r.1 in
        (here ∷ rest.0, (precedes_is (at_place x j a p) here r.0.precedes, rest.1))

    first_committed : (x : Committed) (m : List Committed) (y : Committed) → IsPath (Precedes cat h) x m y → IsCommitted h x
    first_committed x [] y r = r.first
    first_committed x (z ∷ m) y r = r.0.first

    pub no_cycle_of_deeds : IsOrderly (core.Precedes (system (deeds cat h))) → HasNoCycle cat h
    no_cycle_of_deeds o x m r =
        let c = first_committed x m x r in
        let s = submitted x c in
        let p = path_of_deeds x s.0 c s.1 m x s.0 c s.1 r in
        o (at_place x s.0 c s.1) p.0 p.1
