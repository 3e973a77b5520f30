use Rattle.sdd_plain.proofs.All.{[], as_of, deref_pair, entries_of, filter, map, meets_all, ◌∷◌, ◌≡◌}
use Rattle.sdd_plain.proofs.rows.Rows.find_matching.Given as goal

-- the entries so far are those of the rows so far that meet the conditions
abbrev pub invariant-rows : goal.invariant-rows
invariant-rows l = entries_of l.fn.rel.0 l.entries.items ≡ map (as_of l.fn.rel.0) (filter (λ e. meets_all l.conds (e.1 ∷ [])) (map deref_pair l.yielded))
