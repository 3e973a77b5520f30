-- A message on a link was put by one act of the site's log, and what an act puts is on the link.
use Rattle.sdd_invariants.proofs.All.{Act, Attempt, Bases, Change, D, Did, IsPut, List, Log, Msg, Setting, Site, Some, Write, [], ap, arith, changes_at, class_no, commit_act, dm_no, effect, false, in_left, inl, inr, is_empty, length, puts_to, refl, sends_of_act, slice_get, time_at, to_site, txn_no, ℕ, ◌++◌, ◌<◌, ◌∷◌, ◌≡◌, ◌≤◌}
use Rattle.sdd_invariants.proofs.Lists.{in_either, in_right}
use Rattle.sdd_invariants.proofs.Sites.{some_to}

pub was_put : (b : Site) (log : Log) (k : ℕ) (m : Msg) → slice_get (puts_to b log) k ≡ Some m → IsPut b log m
was_put b [] k m e = cc
was_put b (Did act ∷ log) k m e = elim (in_either (puts_to b log) (to_site b (sends_of_act act)) k m e) [
  | inl p ↦ (record { later = (Did act) ∷ (was_put b log k m p).later; act = (was_put b log k m p).act; before = (was_put b log k m p).before; is = ap (λ l. (Did act) ∷ l) (was_put b log k m p).is; place = (was_put b log k m p).place; there = (was_put b log k m p).there })
  | inr p ↦ record { later = []; act = act; before = log; is = refl; place = p.0; there = p.1 }
]
was_put b (x ∷ log) k m e = (record { later = x ∷ (was_put b log k m e).later; act = (was_put b log k m e).act; before = (was_put b log k m e).before; is = ap (λ l. x ∷ l) (was_put b log k m e).is; place = (was_put b log k m e).place; there = (was_put b log k m e).there })

pub is_put : (b : Site) (later : Log) (act : Act) (before : Log) (k : ℕ) (m : Msg) → slice_get (to_site b (sends_of_act act)) k ≡ Some m
    → (j : ℕ) × (slice_get (puts_to b (later ++ Did act ∷ before)) j ≡ Some m)
is_put b [] act before k m e = in_right (puts_to b before) (to_site b (sends_of_act act)) k m e
is_put b (x ∷ later) act before k m e = let i = is_put b later act before k m e in (i.0, (grind (arith, in_left)))

-- a Commit's WRITE to a module with a copy

pub not_empty : (xs : List Change) → 0 < length xs → is_empty xs ≡ false
not_empty xs l = grind arith

pub commit_writes : (s : Setting) (c : ℕ) (bases : Bases) (a : Attempt) (d : ℕ) → 1 ≤ d → d ≤ s.catalogue.dms
    → 0 < length (changes_at s.catalogue d (effect s.catalogue (bases a.ts) a.text).changes)
    → (k : ℕ) × (slice_get (to_site (D (dm_no d)) (sends_of_act (commit_act s.catalogue bases c a))) k ≡ Some
    (Write (time_at a.ts) (class_no c) (txn_no a.txn) (changes_at s.catalogue d (effect s.catalogue (bases a.ts) a.text).changes)))
commit_writes s c bases a d l h n = grind (arith, some_to, not_empty)
