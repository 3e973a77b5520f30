use Rattle.sdd_exec.proofs.All.{is_there, sym, true, ◌∙◌, ◌≡◌}
use Rattle.sdd_exec.proofs.Picked.{row_of_choice}
use Rattle.sdd_exec.proofs.joins.add_answer.Goals as goal

pub returns : goal.returns
returns c =
    let whole : c.in_ok-fill.field-0 ≡ true = c.if-not-branch.false in
    let there : is_there c.args.parts.now c.args.choice.now ≡ true = sym c.in_ok-fill.ensures.there ∙ whole in
    let rows = c.in_ok-fill.ensures.rows whole in
    let same = row_of_choice c.args.parts.now c.args.out.now c.args.conds.now c.args.choice.now _ there rows in
    rw (c.as_slice.ensures.value, same) at c.add_tuple.ensures
