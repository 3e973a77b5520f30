use Rattle.std.proofs.Common.{OnOk, subst, sym, ◌++◌, ◌∙◌, ◌≡◌}
use Rattle.sdd_robust.proofs.AccessLists.{added_none, reads_of_range}
use Rattle.sdd_robust.proofs.KeyRanges.{reads_none}
use Rattle.sdd_robust.proofs.accessing.add_part.Goals as goal

pub returns-in-Some : goal.returns-in-Some
returns-in-Some c =
    subst (λ zs. OnOk c.add_reads.result (c.add_reads.new.found.items ≡ c.args.found.now.items ++ zs))
    (sym (reads_of_range c.args.catalogue.now c.args.conds.now c.args.out.now c.args.part c.args.rel c.in-Some.range
    (sym c.in_ok-range.ensures ∙ c.in-Some.is)))
    c.add_reads.ensures

pub returns-in-None : goal.returns-in-None
returns-in-None c =
    added_none c.args.found.now.items _
    (reads_none c.args.catalogue.now c.args.conds.now c.args.out.now c.args.part c.args.rel (sym c.in_ok-range.ensures ∙ c.in-None.is))
