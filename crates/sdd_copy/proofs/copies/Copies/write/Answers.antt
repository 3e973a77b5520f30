use Rattle.sdd_copy.proofs.All.{Change, ap, held_in, with_change, ℕ, ◌∙◌}
use Rattle.sdd_copy.proofs.Represented.{represent_written, here_written}
use Rattle.sdd_copy.proofs.copies.Copies.write.Goals as goal

pub returns-clause-represent : goal.returns-clause-represent
returns-clause-represent c =
    let x : ℕ × Change = (c.args.ts.0, c.args.change) in
    represent_written (held_in c.write_to.new.copies.items) c.args.self.now.value x
    (c.in_ok-write_to.ensures.held ∙ ap (λ v. with_change v.value x) c.self.view_is)

pub returns-clause-here : goal.returns-clause-here
returns-clause-here c =
    let x : ℕ × Change = (c.args.ts.0, c.args.change) in
    here_written (held_in c.write_to.new.copies.items) c.args.self.now.value x
    (c.in_ok-write_to.ensures.held ∙ ap (λ v. with_change v.value x) c.self.view_is)
