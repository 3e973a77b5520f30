use Rattle.sdd_copy.proofs.All.{ap, dated, fold, held_in, with_change, ◌∙◌}
use Rattle.sdd_copy.proofs.Represented.{represent_applied, here_applied}
use Rattle.sdd_copy.proofs.copies.Copies.apply.Goals as goal

pub returns-clause-represent : goal.returns-clause-represent
returns-clause-represent c =
    let xs = dated c.args.ts.0 c.args.changes in
    represent_applied (held_in c.write_all.new.copies.items) c.args.self.now.value xs
    (c.in_ok-write_all.ensures.held ∙ ap (λ v. fold with_change v.value xs) c.self.view_is)

pub returns-clause-here : goal.returns-clause-here
returns-clause-here c =
    let xs = dated c.args.ts.0 c.args.changes in
    here_applied (held_in c.write_all.new.copies.items) c.args.self.now.value xs
    (c.in_ok-write_all.ensures.held ∙ ap (λ v. fold with_change v.value xs) c.self.view_is)
