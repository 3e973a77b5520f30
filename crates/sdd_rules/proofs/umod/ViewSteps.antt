-- The view after an entry is a function of the view before it, and what is next is due.
use Rattle.sdd_rules.proofs.All.{Act, Bases, Catalogue, Entry, Log, Setting, Some, arith, attempt_due, by_release, counts, first_some, found_at, hold_due, map_twice, one_of, release_due, ◌∷◌, ◌≡◌}
use Rattle.sdd_rules.specs.umod.Due.{IsDue, by_exchange, by_hold, by_start, due, start_due}
use Rattle.sdd_rules.specs.umod.Views.{View, after, view_of}

pub view_step : (s : Setting) (e : Entry) (log : Log) → view_of s (e ∷ log) ≡ after e (view_of s log)
view_step s e log = grind (arith, map_twice)

pub next_is_due : (cat : Catalogue) (bases : Bases) (v : View) (a : Act) → due cat bases v ≡ Some a → IsDue cat bases v a
next_is_due cat bases v a e =
    one_of (IsDue cat bases v a) (attempt_due cat bases 0 v.active) _ a by_exchange
    (one_of (IsDue cat bases v a) (first_some (release_due cat v) v.counts) _ a (λ p. let r = found_at (release_due cat v) v.counts a p in by_release r.0 r.1 r.2 r.3)
    (one_of (IsDue cat bases v a) (start_due cat v) _ a by_start (λ p. let r = found_at (hold_due v) v.counts a p in by_hold r.0 r.1 r.2 r.3))) e
