use Rattle.sdd_plain.proofs.All.{FitsSigned, all_keys, ap, common, filter, is_within, pos, rules, sym, to_z-of_z, w64, ◌&&◌, ◌==◌, ◌∙◌}
use Rattle.sdd_plain.proofs.Ranges.{entries_within, entries_nowhere, entries_of_none}
use Rattle.sdd_plain.proofs.rows.Rows.within.Goals as goal

pub returns-in-Some : goal.returns-in-Some
returns-in-Some c =
    let low : FitsSigned w64 c.in-Some.from = search rules in
    let high : FitsSigned w64 c.in-Some.to = search rules in
    let found = rw (c.new.ensures.start, c.new.ensures.end, to_z-of_z low, to_z-of_z high) at (c.range.ensures.between c.new.ensures.exhausted) in
    found
    ∙ entries_within c.args.rel.0 c.in-Some.from c.in-Some.to
    (common c.args.keys.now all_keys) c.self.inside.rows.entries c.in-Some.ensures.1 c.in-Some.ensures.2
    ∙ ap (filter (λ e. (e.0.0 == c.args.rel.0) && is_within (common c.args.keys.now all_keys) e.0.1)) c.self.view_is

pub returns-in-None : goal.returns-in-None
returns-in-None c =
    c.range-in-None.ensures.between tt
    ∙ entries_nowhere (c.args.rel.0, pos 0) c.self.inside.rows.entries
    ∙ sym (entries_of_none c.args.rel.0 (common c.args.keys.now all_keys) c.args.self.now c.in-None.ensures)
