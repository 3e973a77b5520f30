use Rattle.sdd_dm.proofs.All.{FitsSigned, rules, to_z-of_z, w64, ◌∙◌}
use Rattle.sdd_dm.proofs.OwnRows.{other_left, own_added}
use Rattle.sdd_dm.proofs.starting.add_row.Goals as goal

pub returns-in-None-clause-entries : goal.returns-in-None-clause-entries
returns-in-None-clause-entries c =
    let fits : FitsSigned w64 c.key_of-key.result = search rules in
    other_left c.args.catalogue.now c.args.copies.now.value c.args.rel c.args.own.now.entries _ _ c.args.row
    (to_z-of_z fits ∙ c.key_of-key.ensures) c.fragment_after-frag.ensures.number c.in-None.ensures

pub returns-in_ok-insert-in-Some-clause-entries : goal.returns-in_ok-insert-in-Some-clause-entries
returns-in_ok-insert-in-Some-clause-entries c =
    let fits : FitsSigned w64 c.key_of-key.result = search rules in
    own_added c.args.catalogue.now c.args.copies.now.value c.args.rel c.args.own.now.entries c.insert.new.self.entries _ _ c.args.row
    c.in_ok-insert-in-Some.ensures.entries (to_z-of_z fits ∙ c.key_of-key.ensures) c.fragment_after-frag.ensures.number c.in-Some.ensures.0
