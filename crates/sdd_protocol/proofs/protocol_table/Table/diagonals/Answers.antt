use Rattle.sdd_protocol.proofs.All.{Entry, List, ap, drop, filter, is_between, range_of, take, ◌-◌, ◌∙◌}
use Rattle.sdd_protocol.proofs.Between.{diagonals_in_range}
use Rattle.sdd_protocol.proofs.protocol_table.Table.diagonals.Goals as goal

pub returns : goal.returns
returns c =
    let i = c.args.reader.0 in
    let j = c.args.writer.0 in
    let index = c.self.inside.index in
    let range = range_of index i j in
    let between : List Entry → List Entry = λ entries. filter (λ e. is_between i j e.edge) entries in
    ap (λ z. between (take (z.1 - z.0) (drop z.0 c.as_slice.result.now))) c.range-from.ensures
    ∙ ap (λ z. between (take (range.1 - range.0) (drop range.0 z))) c.as_slice.ensures.value
    ∙ diagonals_in_range c.self.inside.entries.items index c.self.invariant.indexed i j
    ∙ ap (λ z. between z) c.self.view_is
