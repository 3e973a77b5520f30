use Rattle.sdd_exec.proofs.All.{same_row}
use Rattle.sdd_exec.proofs.Steps.{group_step}
use Rattle.std.specs.HashMap as hash
use Rattle.sdd_exec.proofs.index.add_place.Goals as goal

pub returns : goal.returns
returns c = λ q.
    group_step (λ v. v.items) (hash.get same_row c.args.index.now) (hash.get same_row c.take_places-places.new.index)
    (hash.get same_row c.insert.new.self) c.args.key c.args.place c.take_places-places.result c.push.new.self
    c.take_places-places.ensures.places c.in_ok-push.ensures.items c.take_places-places.ensures.others
    c.in_ok-insert.ensures.updates.0 q
