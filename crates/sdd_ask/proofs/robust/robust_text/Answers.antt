use Rattle.sdd_ask.proofs.All.{All, Entry, IsEdgeOf, ap, first_p3, isolation_text, subst, sym, ◌++◌, ◌∙◌}
use Rattle.sdd_ask.proofs.Entries.{entries_known}
use Rattle.sdd_ask.proofs.robust.robust_text.Goals as goal

pub put_isolation-requires : goal.put_isolation-requires
put_isolation-requires c =
    subst (All (λ (e : Entry). IsEdgeOf c.args.catalogue.now e.edge)) (sym c.entries.ensures)
    (entries_known c.args.catalogue.now _ c.in_ok-table.ensures)

pub returns : goal.returns
returns c =
    record {
      entries = c.in_ok-table.table;
      table = c.in_ok-table.ensures;
      spelled =
          c.in_ok-put_isolation.ensures
          ∙ ap (λ z. z ++ isolation_text c.args.catalogue.now (first_p3 c.entries.result.now)) c.new-text.ensures.items
          ∙ ap (λ z. isolation_text c.args.catalogue.now (first_p3 z)) c.entries.ensures;
    }
