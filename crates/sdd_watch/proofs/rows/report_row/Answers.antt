use Rattle.sdd_watch.proofs.All.{D, FitsSigned, ap, dated, local_of, refl, rules, setting_of, to_z-of_z, w64}
use Rattle.sdd_watch.proofs.RowsAreReported.{copy_site}
use Rattle.sdd_watch.proofs.rows.report_row.Goals as goal

pub copies-requires : goal.copies-requires
copies-requires c =
    let r = c.requires in
    let at = D c.args.dm in (
      setting_of r.0 at,
      local_of r.0 at r.1,
      c.sites.ensures r.0 r.1 r.2 at (copy_site r.0 c.args.dm c.args.change.now.frag.0 r.2.parts.good.given.sound r.3),
    )

pub row_in-requires : goal.row_in-requires
row_in-requires c =
    let r = c.requires in
    let at = D c.args.dm in
    let represents = c.sites.ensures r.0 r.1 r.2 at (copy_site r.0 c.args.dm c.args.change.now.frag.0 r.2.parts.good.given.sound r.3) in
    record {
      live = c.copies.ensures.live (setting_of r.0 at) (local_of r.0 at r.1) represents;
      here = c.copies.ensures.here (setting_of r.0 at) (local_of r.0 at r.1) represents c.args.change.now.frag.0 r.3;
    }

pub returns : goal.returns
returns c = λ g log calm here.
    let at = D c.args.dm in
    let s = setting_of g at in
    let own = local_of g at log in
    let represents = c.sites.ensures g log calm at (copy_site g c.args.dm c.args.change.now.frag.0 calm.parts.good.given.sound here) in
    let fits : FitsSigned w64 c.args.change.now.key = search rules in
    rw (to_z-of_z w64 c.args.change.now.key fits)
    (ap (λ row. record { dm = c.args.dm; item = record { frag = c.args.change.now.frag; key = c.args.change.now.key; row = row } })
    (c.in_ok-row.ensures (dated s own) (c.copies.ensures.represent s own represents) c.args.change.now refl refl))
