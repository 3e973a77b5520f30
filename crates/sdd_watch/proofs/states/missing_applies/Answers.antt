use Rattle.sdd_watch.proofs.All.{Catalogue, U, ap, local_of, refl, setting_of, ◌∙◌}
use Rattle.sdd_watch.proofs.Unapplied.{unapplied_is}
use Rattle.sdd_watch.proofs.states.missing_applies.Goals as goal

pub returns : goal.returns
returns c = λ g log calm dones.
    let represents = (c.u_module.ensures (setting_of g U) (local_of g U log) (c.sites.ensures g log calm U refl)).represents_log in
    c.in_ok-missing.ensures
    ∙ unapplied_is g c.args.world.now log c.args.dones.now c.u_module.result.now c.last_commit-committed.result.0 c.dms.result calm represents dones
    c.last_commit-committed.ensures (c.dms.ensures ∙ ap (λ (k : Catalogue). k.dms) (c.whole-whole.ensures g log calm))
