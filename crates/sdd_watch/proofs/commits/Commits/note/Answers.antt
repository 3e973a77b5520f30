use Rattle.sdd_watch.proofs.All.{after_ok, get, nat_cmp, sym, ◌∙◌}
use Rattle.sdd_watch.proofs.Committed.{known_still, known_with}
use Rattle.sdd_watch.proofs.commits.Commits.note.Goals as goal

pub returns-in-Some : goal.returns-in-Some
returns-in-Some c = after_ok c.note_commit.result _ _ c.note_commit.ensures (λ put records here known.
    known_with records c.args.made.now c.in-Some.txn (λ n. get nat_cmp c.args.self.now.places n) (λ n. get nat_cmp c.note_commit.new.self.places n)
    c.args.place (sym c.in-Some.is ∙ c.committed_by.ensures) here put known)

pub returns-in-None : goal.returns-in-None
returns-in-None c =
    λ records here known.
    known_still records c.args.made.now (λ n. get nat_cmp c.args.self.now.places n) c.args.place (sym c.in-None.is ∙ c.committed_by.ensures) here known
