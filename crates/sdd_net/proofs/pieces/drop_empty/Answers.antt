use Rattle.sdd_net.proofs.All.{ap, flat_map, length, nil_from_length, rules, ◌∙◌, ◌≡◌}
use Rattle.sdd_net.proofs.Joined.{without_empty}
use Rattle.sdd_net.proofs.pieces.drop_empty.Goals as goal

pub returns-then-is_empty : goal.returns-then-is_empty
returns-then-is_empty g c =
    let piece = c.index.result.now in
    let none : length piece.items ≡ 0 = search rules in
    ap (flat_map (λ q. q.items)) c.remove.ensures.items
    ∙ without_empty _ c.args.pieces.now.items c.args.at piece c.requires c.index.ensures (nil_from_length piece.items none)
