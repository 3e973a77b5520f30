use Rattle.sdd_watch.proofs.All.{Catalogue, ap, has_copy, sym, true, ◌∙◌, ◌≡◌}
use Rattle.sdd_watch.proofs.RowsAreReported.{one_elsewhere, one_here}
use Rattle.sdd_watch.proofs.rows.add_here.Goals as goal

pub add_row-requires : goal.add_row-requires
add_row-requires c =
    let r = c.requires in (
      r.0,
      r.1,
      r.2,
      ap (λ (k : Catalogue). has_copy k c.args.dm.0 c.args.change.now.frag.0) (sym (c.whole.ensures r.0 r.1 r.2))
          ∙ sym c.has_copy.ensures ∙ c.if-not-has_copy.false,
    )

pub returns-then-not-has_copy : goal.returns-then-not-has_copy
returns-then-not-has_copy c = λ g log calm.
    one_elsewhere g log c.args.dm c.args.change.now c.args.rows.now.items
    (ap (λ (k : Catalogue). has_copy k c.args.dm.0 c.args.change.now.frag.0) (sym (c.whole.ensures g log calm))
    ∙ sym c.has_copy.ensures ∙ c.if-not-has_copy.true)

pub returns : goal.returns
returns c = λ g log calm.
    let here : has_copy g.catalogue c.args.dm.0 c.args.change.now.frag.0 ≡ true =
    ap (λ (k : Catalogue). has_copy k c.args.dm.0 c.args.change.now.frag.0) (sym (c.whole.ensures g log calm))
    ∙ sym c.has_copy.ensures ∙ c.if-not-has_copy.false in
    one_here g log c.args.dm c.args.change.now c.args.rows.now.items c.add_row.new.rows.items here (c.in_ok-add_row.ensures g log calm here)
