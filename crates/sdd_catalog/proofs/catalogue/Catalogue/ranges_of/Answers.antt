use Rattle.sdd_catalog.proofs.All.{Catalogue, KeyRange, List, ap, arith, get_or, length, parts_of, ranges_for, ◌-◌, ◌<◌, ◌∙◌}
use Rattle.sdd_catalog.proofs.FragmentOf.{table_at, table_cover}
use Rattle.sdd_catalog.proofs.catalogue.Catalogue.ranges_of.Goals as goal

pub returns : goal.returns
returns c =
    let k = c.args.rel.0 - 1 in
    let view = c.self.view_is in
    let within : k < length c.self.inside.relations = omega (arith, ap (λ (v : Catalogue). length v.relations) view) in
    let table = ap (λ (t : List (List KeyRange)). get_or t k c.index-as_slice-rel.result) c.as_slice.ensures in
    let inside = c.as_slice-2.ensures ∙ c.index-as_slice-rel.is ∙ table
    ∙ table_at _ c.self.inside.ranges c.self.invariant k c.index-as_slice-rel.result within in
    let is = inside ∙ ap (λ (v : Catalogue). ranges_for (parts_of v) k) view in
    record { cover = rw inside (table_cover _ c.self.invariant.sound k within); is = is }
