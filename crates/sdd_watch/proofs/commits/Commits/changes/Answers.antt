use Rattle.sdd_watch.proofs.All.{Option, get, nat_cmp, refl, sym, ℕ, ◌∙◌}
use Rattle.sdd_watch.proofs.Committed.{changes_at_place, no_changes, within_records}
use Rattle.sdd_watch.proofs.commits.Commits.changes.Goals as goal

pub bounds-records-place : goal.bounds-records-place
bounds-records-place c =
    let places : ℕ → Option ℕ = λ n. get nat_cmp c.args.self.now.places n in
    within_records c.args.records.now c.args.txn.0 c.in-Some.place places c.requires (sym c.in-Some.is ∙ c.place_of.ensures)

pub returns-in-Some : goal.returns-in-Some
returns-in-Some c =
    let places : ℕ → Option ℕ = λ n. get nat_cmp c.args.self.now.places n in
    changes_at_place c.args.records.now c.args.txn.0 c.in-Some.place places c.index-records-place.result c.changes_in.result.now c.requires
    (sym c.in-Some.is ∙ c.place_of.ensures) c.index-records-place.is c.changes_in.ensures

pub returns-in-None : goal.returns-in-None
returns-in-None c =
    no_changes c.args.records.now c.args.txn.0 (λ n. get nat_cmp c.args.self.now.places n) _ c.requires (sym c.in-None.is ∙ c.place_of.ensures) refl
