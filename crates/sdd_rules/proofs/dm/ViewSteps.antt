-- The view after an entry is a function of the view before it, and what is next is due.
use Rattle.sdd_rules.proofs.All.{Act, Entry, Home, IsDue, Log, Setting, Some, View, after, ap, arith, by_head, by_open, class_after, class_view, classes_of, dated, dated_in, due, first_rows, first_some, flat_map-map, found_at, head_due, map_twice, one_of, open_due, rules, view_of, ◌++◌, ◌∷◌, ◌≡◌}

pub dated_is : (s : Setting) (log : Log) → dated_in (view_of s log) ≡ dated s log
dated_is s log = ap (λ xs. first_rows s ++ xs) (flat_map-map (class_view s log) (λ k. k.applied) (classes_of s))

pub view_step : (s : Setting) (e : Entry) (log : Log) → view_of s (e ∷ log) ≡ after e (view_of s log)
view_step s e log = search (rules, map_twice, class_view, class_after, view_of, classes_of, dated_is)

pub next_is_due : (h : Home) (v : View) (a : Act) → due h v ≡ Some a → IsDue h v a
next_is_due h v a e = grind (arith, one_of, first_some, open_due, found_at, by_open, head_due, by_head)
