use Rattle.std.proofs.Common.{sym, ◌∙◌}
use Rattle.sdd_robust.proofs.AccessLists.{added_none, delete_added, delete_none}
use Rattle.sdd_robust.proofs.accessing.add_delete.Goals as goal

pub returns-in_ok-push-in-Some : goal.returns-in_ok-push-in-Some
returns-in_ok-push-in-Some c =
    delete_added c.args.catalogue.now c.args.rel c.args.conds.now c.in-Some.range c.args.found.now.items c.add_reads.new.found.items
    c.push.new.self.items c.access_in.result (sym c.in_ok-range.ensures ∙ c.in-Some.is) c.in_ok-add_reads-in-Some.ensures c.access_in.ensures
    c.in_ok-push-in-Some.ensures.items

pub returns-in-None : goal.returns-in-None
returns-in-None c =
    added_none c.args.found.now.items _
    (delete_none c.args.catalogue.now c.args.rel c.args.conds.now (sym c.in_ok-range.ensures ∙ c.in-None.is))
