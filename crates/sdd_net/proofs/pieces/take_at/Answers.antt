use Rattle.sdd_net.proofs.All.{IsSome, arith, flat_map, length, rules, take, ◌+◌, ◌<◌}
use Rattle.sdd_net.proofs.Joined.{count_more, item_at, item_read, of_some, without_item}
use Rattle.sdd_net.proofs.pieces.take_at.Goals as goal

pub returns-clause-item : goal.returns-clause-item
returns-clause-item g c =
    let items = c.args.pieces.now.items in
    let piece = c.index_mut-piece.result.now in
    let held = count_more (λ q. q.items) items c.args.at piece c.requires.piece c.index_mut-piece.ensures.value in
    let within : c.args.within < length piece.items = omega (arith, held, c.requires.within) in
    let place = length (flat_map (λ q. q.items) (take c.args.at items)) + c.args.within in
    item_read (λ y. y) c.take_within.result (flat_map (λ q. q.items) items) piece.items place c.args.within within
    (item_at (λ q. q.items) items c.args.at c.args.within piece c.requires.piece c.index_mut-piece.ensures.value within) c.take_within.ensures.value

pub returns-clause-left : goal.returns-clause-left
returns-clause-left g c =
    let items = c.args.pieces.now.items in
    let piece = c.index_mut-piece.result.now in
    let held = count_more (λ q. q.items) items c.args.at piece c.requires.piece c.index_mut-piece.ensures.value in
    let within : c.args.within < length piece.items = omega (arith, held, c.requires.within) in
    let some : IsSome c.take_within.result = search rules in
    without_item _ items c.args.at c.args.within piece c.take_within.new.piece c.requires.piece c.index_mut-piece.ensures.value within
    (of_some c.take_within.result some c.take_within.ensures.items)
