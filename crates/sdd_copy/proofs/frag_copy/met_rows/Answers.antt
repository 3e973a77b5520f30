use Rattle.sdd_copy.proofs.All.{FitsSigned, IfOk-weaker, filter, is_within, rows_meeting, rules, to_z-of_z, w64, ◌≡◌}
use Rattle.sdd_copy.proofs.Ranges.{near_to, near_row_there, near_rows_there}
use Rattle.sdd_copy.proofs.frag_copy.met_rows.Goals as goal

pub returns-in-Some : goal.returns-in-Some
returns-in-Some c =
    let restrictions = c.args.restrictions.now in
    let items = c.args.items.now in
    let keys = c.keys_near-keys.result in
    let key = c.in-Some.key in
    let fits : FitsSigned w64 key = search rules in
    IfOk-weaker c.met_at.result
    (λ rows. rows.items ≡ rows_meeting restrictions (filter (λ e. is_within (key, key) e.0) items))
    (λ rows. rows.items ≡ rows_meeting restrictions items)
    (λ rows there.
    near_row_there restrictions keys items rows.items key c.in-Some.ensures there c.keys_near-keys.ensures)
    (rw (to_z-of_z fits) at c.met_at.ensures)

pub returns-in-None : goal.returns-in-None
returns-in-None c =
    let restrictions = c.args.restrictions.now in
    let items = c.args.items.now in
    let keys = c.keys_near-keys.result in
    IfOk-weaker c.met_within.result (λ rows. rows.items ≡ rows_meeting restrictions (near_to keys items))
    (λ rows. rows.items ≡ rows_meeting restrictions items)
    (λ rows there. near_rows_there restrictions keys items rows.items there c.keys_near-keys.ensures)
    c.met_within.ensures
