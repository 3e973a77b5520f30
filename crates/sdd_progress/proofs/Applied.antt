-- Where nothing goes on, every WRITE of a class that touches a module that is up is applied there, unless it isn't processed.
use Rattle.sdd_progress.proofs.All.{inl, inr, in_either, Attempt, Bases, D, Does, Input, IsApplied, IsClass, IsModule, IsOf, IsSoundCatalogue, IsStill, Log, Msg, Some, Write, [], all_of, ap, at_module, changes_to, class_in, class_no, class_puts, commit_act, commit_put, d_fair, dm_no, false, handed, home, is_down, length, local_of, matched, pipe, pipe_is, puts_to, results, setting_of, slice_get, subst, sym, take_all, time_at, true, txn_no, zip_at, ℕ, ◌++◌, ◌<◌, ◌==◌, ◌∙◌, ◌∷◌, ◌≡◌, ◌⊎◌}
use Rattle.sdd_progress.proofs.Handed.{none_left}
use Rattle.sdd_progress.proofs.Still.{home_linked, up_part}

-- all that was put for a pipe came to it
pub pipe_has_all : (g : Input) (log : Log) (c d : ℕ) → IsStill g log → IsSoundCatalogue g.catalogue → IsClass g.catalogue c → IsModule g.catalogue d
    → is_down (D (dm_no d)) log ≡ false
    → all_of (pipe c (at_module g d log)) ≡ class_puts g c (dm_no d) log
pipe_has_all g log c d h sound l m up =
    let at = home g.catalogue c in
    let linked = home_linked g.catalogue c d sound l m in
    pipe_is g c (dm_no d) log h.permitted
    ∙ ap (class_in c) (take_all (handed at (D (dm_no d)) log) (puts_to (D (dm_no d)) (local_of g at log))
    (none_left g log at (D (dm_no d)) h (up_part d log up) linked.0))

pub applied_unless : (g : Input) (log : Log) (c d : ℕ) (later before : Log) (bases : Bases) (a : Attempt)
    → IsStill g log → IsSoundCatalogue g.catalogue → IsClass g.catalogue c → IsModule g.catalogue d → is_down (D (dm_no d)) log ≡ false
    → ((j : ℕ) → slice_get (pipe c (at_module g d log)).unprocessed j
    ≡ Some (Write (time_at a.ts) (class_no c) (txn_no a.txn) (changes_to g bases a (dm_no d))) → ⊥)
    → log ≡ later ++ Does (home g.catalogue c) (commit_act g.catalogue bases c a) ∷ before
    → ((c == 0) ≡ true) ⊎ (0 < length (changes_to g bases a (dm_no d))) → IsApplied g log (dm_no d) c a
applied_unless g log c d later before bases a h sound l m up processed is touches =
    let w : Msg = Write (time_at a.ts) (class_no c) (txn_no a.txn) (changes_to g bases a (dm_no d)) in
    let put = commit_put g c (dm_no d) later before bases a m.0 m.1 touches in
    let there : slice_get (class_puts g c (dm_no d) log) put.0 ≡ Some w = subst (λ x. slice_get (class_puts g c (dm_no d) x) put.0 ≡ Some w) (sym is) put.1 in
    let p = pipe c (at_module g d log) in
    let piped : slice_get (all_of p) put.0 ≡ Some w = subst (λ ms. slice_get ms put.0 ≡ Some w) (sym (pipe_has_all g log c d h sound l m up)) there in
    elim (in_either p.processed p.unprocessed put.0 w piped) [
      | inl here ↦ (let z = zip_at IsOf (results c (at_module g d log)) p.processed put.0 w
          (matched (setting_of g (D (dm_no d))) c (at_module g d log) (d_fair g (dm_no d) log h.permitted)).matched here in
          record { place = put.0; rec = z.0; there = z.1; is = z.2 })
      | inr left ↦ absurd (processed left.0 left.1)
    ]

-- so where the pipe has nothing unprocessed
pub all_applied : (g : Input) (log : Log) (c d : ℕ) (later before : Log) (bases : Bases) (a : Attempt)
    → IsStill g log → IsSoundCatalogue g.catalogue → IsClass g.catalogue c → IsModule g.catalogue d → is_down (D (dm_no d)) log ≡ false
    → (pipe c (at_module g d log)).unprocessed ≡ [] → log ≡ later ++ Does (home g.catalogue c) (commit_act g.catalogue bases c a) ∷ before
    → ((c == 0) ≡ true) ⊎ (0 < length (changes_to g bases a (dm_no d))) → IsApplied g log (dm_no d) c a
all_applied g log c d later before bases a h sound l m up none is touches =
    let w : Msg = Write (time_at a.ts) (class_no c) (txn_no a.txn) (changes_to g bases a (dm_no d)) in
    applied_unless g log c d later before bases a h sound l m up
    (λ j e. (let empty : slice_get [] j ≡ Some w = subst (λ ms. slice_get ms j ≡ Some w) none e in cc)) is touches
