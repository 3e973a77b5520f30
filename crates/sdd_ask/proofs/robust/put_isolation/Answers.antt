use Rattle.sdd_ask.proofs.All.{Entry, IsEdgeOf, OnOk, asks_for_own_time, isolation_text, subst, sym, ◌++◌, ◌≡◌}
use Rattle.sdd_ask.proofs.Entries.{found_has}
use Rattle.sdd_ask.proofs.robust.put_isolation.Goals as goal

pub put_not_shown-requires : goal.put_not_shown-requires
put_not_shown-requires c =
    found_has (λ (e : Entry). IsEdgeOf c.args.catalogue.now e.edge) asks_for_own_time c.args.entries.now _ c.requires (sym c.in-Some.ensures)

pub returns-in-Some : goal.returns-in-Some
returns-in-Some c =
    subst (λ o. OnOk c.put_not_shown.result (c.put_not_shown.new.out.items ≡ c.args.out.now.items ++ isolation_text c.args.catalogue.now o))
    c.in-Some.ensures c.put_not_shown.ensures
