use Rattle.sdd_exec.proofs.All.{Choice, IfOk, List, Row, [], ap, arith, eqb-true, extended, extensions, key_for, keyed, length, map, nil_from_length, option_map_or, picked, placed, places, same_row, slice_index_or, subst, sym, ties_of, ℕ, ◌∙◌, ◌≡◌, ◌≤◌}
use Rattle.sdd_exec.proofs.Steps.{flat_map_same}
use Rattle.std.specs.HashMap as hash
use Rattle.sdd_exec.proofs.joins.take_part.Goals as goal

pub returns-then-is_empty : goal.returns-then-is_empty
returns-then-is_empty c =
    let parts = c.args.parts.now in
    let conds = c.args.conds.now in
    let rows = slice_index_or parts c.args.part [] in
    let zero : c.in_ok-ties.ties.len ≡ 0 = eqb-true c.in_ok-ties.ties.len 0 (sym c.is_empty.ensures ∙ c.if-is_empty.true) in
    let empty : c.in_ok-ties.ties.items ≡ [] = nil_from_length c.in_ok-ties.ties.items (omega (arith, c.in_ok-ties.ties.ok)) in
    let none : ties_of c.args.taken.now c.args.part conds ≡ [] = sym c.in_ok-ties.ensures ∙ empty in
    subst (λ (made : List Choice). IfOk c.take_untied.result (λ extended. length extended.items ≤ c.args.most → extended.items ≡ made))
    (flat_map_same (extended parts c.args.part [] (keyed c.args.part conds [] 0 rows)) (extensions parts conds c.args.taken.now c.args.part) c.args.kept.now
    (λ choice. ap (λ (ts : List _). extended parts c.args.part ts (keyed c.args.part conds ts 0 rows) choice) (sym none)))
    c.take_untied.ensures

pub returns : goal.returns
returns c =
    let parts = c.args.parts.now in
    let conds = c.args.conds.now in
    let part = c.args.part in
    let ties = ties_of c.args.taken.now part conds in
    let found = λ (choice : List ℕ). option_map_or (λ v. v.items) (hash.get same_row c.in_ok-index.index (key_for ties (picked parts choice))) [] in
    let has : (q : Row) → option_map_or (λ v. v.items) (hash.get same_row c.in_ok-index.index q) [] ≡ places
    (keyed part conds ties 0 (slice_index_or parts part [])) q =
    λ q. rw (c.deref.ensures.value, c.in_ok-ties.ensures, c.rows.ensures) at (c.in_ok-index.ensures q) in
    subst (λ (made : List Choice). IfOk c.extend_all.result (λ extended. length extended.items ≤ c.args.most → extended.items ≡ made))
    (flat_map_same (λ choice. map (placed (length parts) choice part) (found choice)) (extensions parts conds c.args.taken.now part) c.args.kept.now
    (λ choice. ap (map (placed (length parts) choice part)) (has (key_for ties (picked parts choice)))))
    (rw (c.deref-2.ensures.value, c.in_ok-ties.ensures) at c.extend_all.ensures)
