use Rattle.sdd_commands.proofs.All.{Tells, catalogue_refused, catalogue_told, catalogue_untold, err_from_is_err_and}
use Rattle.sdd_commands.proofs.listing.listing_answer.Goals as goal

pub returns-in_err-catalogue : goal.returns-in_err-catalogue
returns-in_err-catalogue g c =
    let p = err_from_is_err_and c.from_residual.result c.from_residual.ensures.1 in
    rw (p.1, p.2) (catalogue_refused c.args.catalogue.now (Tells c.args.listing) _ _ c.in_err-catalogue.field-0.0 c.in_err-catalogue.ensures)

pub returns-in_err-print_listing : goal.returns-in_err-print_listing
returns-in_err-print_listing g c =
    let p = err_from_is_err_and c.from_residual-in_err-print_listing.result c.from_residual-in_err-print_listing.ensures.1 in
    rw (p.1, p.2) (catalogue_untold c.args.catalogue.now (Tells c.args.listing) _ _ c.in_ok-catalogue.catalogue c.in_ok-catalogue.ensures)

pub returns : goal.returns
returns g c =
    catalogue_told c.args.catalogue.now (Tells c.args.listing) _ _ c.in_ok-catalogue.catalogue c.of.result c.in_ok-catalogue.ensures
    (rw c.of.ensures c.in_ok-print_listing.ensures)
