use Rattle.sdd_changed.proofs.All.{IfOk-weaker, [], ap, arith, as_of, entered, entries_of, eqb-true, lent_changes, map, nil_from_length, sym, ◌∙◌, ◌≡◌}
use Rattle.sdd_changed.proofs.Chosen.{made, made_matching, same_matching}
use Rattle.sdd_changed.proofs.matching.find_matching.Goals as goal

pub returns-then-is_empty : goal.returns-then-is_empty
returns-then-is_empty c =
    let zero : c.in_ok-own.own.len ≡ 0 = eqb-true c.in_ok-own.own.len 0 (sym c.is_empty.ensures ∙ c.if-is_empty.true) in
    let none : c.in_ok-own.own.items ≡ [] = nil_from_length c.in_ok-own.own.items (omega (arith, c.in_ok-own.own.ok)) in
    c.in_ok-entries.ensures
    ∙ same_matching c.args.catalogue.now c.args.base.now.value c.args.rel.0 c.args.conds.now c.args.changes.now
    (lent_changes c.in_ok-own.own.items) c.requires c.in_ok-own.ensures (ap lent_changes none)

pub returns : goal.returns
returns c =
    let rel = c.args.rel.0 in
    let conds = c.args.conds.now in
    let own = lent_changes c.as_slice.result.now in
    IfOk-weaker c.with_changes.result
    (λ z. entries_of rel z ≡ map (as_of rel) (made conds rel (entered (entries_of rel c.in_ok-entries.entries)) own)) _
    (λ z e.
    e
    ∙ made_matching c.args.catalogue.now c.args.base.now.value rel conds c.args.changes.now own (entries_of rel c.in_ok-entries.entries) c.requires
    c.in_ok-entries.ensures (ap lent_changes c.as_slice.ensures.value ∙ c.in_ok-own.ensures))
    c.with_changes.ensures
