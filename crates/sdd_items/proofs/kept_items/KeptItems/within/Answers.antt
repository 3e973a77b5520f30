use Rattle.sdd_items.proofs.All.{FitsSigned, all_keys, ap, common, filter, is_within, pos, rules, sym, to_z-of_z, w64, ◌∙◌}
use Rattle.sdd_items.proofs.Ranges.{items_within, items_nowhere, items_of_none}
use Rattle.sdd_items.proofs.kept_items.KeptItems.within.Goals as goal

pub returns-in-Some : goal.returns-in-Some
returns-in-Some c =
    let low : FitsSigned w64 c.in-Some.from = search rules in
    let high : FitsSigned w64 c.in-Some.to = search rules in
    let found = rw (c.new.ensures.start, c.new.ensures.end, to_z-of_z low, to_z-of_z high) at (c.range.ensures.between c.new.ensures.exhausted) in
    found
    ∙ items_within c.in-Some.from c.in-Some.to (common c.args.keys.now all_keys) c.self.inside.items.entries c.in-Some.ensures.1 c.in-Some.ensures.2
    ∙ ap (filter (λ e. is_within (common c.args.keys.now all_keys) e.0)) c.self.view_is

pub returns-in-None : goal.returns-in-None
returns-in-None c =
    c.range-in-None.ensures.between tt
    ∙ items_nowhere (pos 0) c.self.inside.items.entries
    ∙ sym (items_of_none (common c.args.keys.now all_keys) c.args.self.now c.in-None.ensures)
