use Rattle.sdd_watch.proofs.All.{Option, get, nat_cmp, ℕ}
use Rattle.sdd_watch.proofs.Committed.{known_all, known_to}
use Rattle.sdd_watch.proofs.commits.Commits.note_from.Goals as goal

pub loop-place-preserved : goal.loop-place-preserved
loop-place-preserved c =
    let old : ℕ → Option ℕ = λ n. get nat_cmp c.loop-place.self.places n in
    let new : ℕ → Option ℕ = λ n. get nat_cmp c.note.new.self.places n in
    λ first. known_to c.args.records.now c.index-records-place.result c.loop-place.place old new c.loop-place-test.true c.index-records-place.is
    c.in_ok-note.ensures (c.loop-place.invariant first)

pub returns : goal.returns
returns c =
    λ first. known_all c.args.records.now c.loop-place.place (λ n. get nat_cmp c.loop-place.self.places n) c.loop-place-test.false
    (c.loop-place.invariant first)
