-- The view after an entry is a function of the view before it, and what is next is due.
use Rattle.sdd_rules.proofs.All.{Act, Bases, Catalogue, Entry, Handed, Log, Setting, Some, arith, by_ask, by_exchange, by_hold, by_start, exchange_due, first_some, found_at, held_due, map_twice, null_due, null_to, one_of, refl, runs, start_due, ℕ, ◌∷◌, ◌≡◌}
use Rattle.sdd_rules.specs.tm.Due.{IsDue, due}
use Rattle.sdd_rules.specs.tm.Views.{View, after, class_after, class_view, view_of}

class_step : (s : Setting) (e : Entry) (log : Log) (c : ℕ) → class_view s (e ∷ log) c ≡ class_after e (view_of s log) (class_view s log c)
class_step s (Handed from m) log c = refl
class_step s _ log c = refl

pub view_step : (s : Setting) (e : Entry) (log : Log) → view_of s (e ∷ log) ≡ after e (view_of s log)
view_step s e log = grind (arith, map_twice, class_view, class_after, view_of, runs, class_step)

pub next_is_due : (cat : Catalogue) (bases : Bases) (v : View) (a : Act) → due cat bases v ≡ Some a → IsDue cat bases v a
next_is_due cat bases v a e = grind (arith, one_of, first_some, exchange_due, found_at, by_exchange, null_due, null_to, by_ask, held_due, by_hold, start_due, by_start)
