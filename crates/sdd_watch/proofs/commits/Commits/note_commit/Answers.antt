use Rattle.sdd_watch.proofs.All.{Option, get, nat_cmp, sym, ℕ, ◌∙◌}
use Rattle.sdd_watch.proofs.Committed.{kept_place, put_place}
use Rattle.sdd_watch.proofs.commits.Commits.note_commit.Goals as goal

pub returns-then-contains_key : goal.returns-then-contains_key
returns-then-contains_key c =
    let old : ℕ → Option ℕ = λ n. get nat_cmp c.args.self.now.places n in
    kept_place old c.args.txn.0 c.args.place (sym c.contains_key.ensures ∙ c.if-contains_key.true)

pub returns : goal.returns
returns c =
    let old : ℕ → Option ℕ = λ n. get nat_cmp c.args.self.now.places n in
    let new : ℕ → Option ℕ = λ n. get nat_cmp c.insert.new.self n in
    put_place old new c.args.txn.0 c.args.place (sym c.contains_key.ensures ∙ c.if-contains_key.false) c.in_ok-insert.ensures.updates.0
