use Rattle.std.proofs.Common.{◌≡◌, ◌++◌, drop, flat_map}
use Rattle.sdd_inside.specs.Json.{further}
use Rattle.sdd_inside.proofs.to_json.tell_rest.Given as goal

-- what was written and what is left to write is all of it
abbrev pub invariant-items : goal.invariant-items
invariant-items g l =
    l.out.items ++ flat_map (further (g.T.ToJson.json l.catalogue l.txns)) (drop l.item-index l.items)
    ≡ l.fn.out.items ++ flat_map (further (g.T.ToJson.json l.catalogue l.txns)) l.items
