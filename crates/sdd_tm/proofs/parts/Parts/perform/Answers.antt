-- The class at the place is the one that was lent.
use Rattle.sdd_tm.proofs.All.{OnOk, State, subst}
use Rattle.sdd_tm.proofs.Settling.{NotesDone}
use Rattle.sdd_tm.proofs.Indexing.{parts, notes_of_lent}
use Rattle.sdd_tm.proofs.parts.Parts.perform.Goals as goal

pub returns-clause-draft : goal.returns-clause-draft
returns-clause-draft c =
    subst (λ (st : State). OnOk c.perform.result (NotesDone st c.args.place c.args.step c.args.draft.now
    c.perform.new.draft)) c.self.view_is
    (notes_of_lent c.perform.result (parts c.self.inside.catalogue.now c.self.inside.table.now c.self.inside.clock
    c.self.inside.on_hold c.self.inside.owes_held c.self.inside.classes.items) c.args.place c.args.step
    c.index_mut-run.result.now c.args.draft.now c.perform.new.draft c.index_mut-run.ensures.value
    c.perform.ensures.draft)
