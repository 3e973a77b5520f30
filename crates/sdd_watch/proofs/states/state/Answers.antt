use Rattle.sdd_watch.proofs.All.{D, IsSiteOf, T, ap, local_of, reported_dm, reported_tm, setting_of, state_of, subst, sym, takes_at, ◌∙◌}
use Rattle.sdd_moments.proofs.Queued.{keeps_its_log}
use Rattle.sdd_inside.specs.declared.standing.SiteState.TheVariants as states
use Rattle.sdd_watch.proofs.states.state.Goals as goal

pub txn_module-requires : goal.txn_module-requires
txn_module-requires c =
    let r = c.requires in
    let at = T c.in-T.tm in
    (takes_at at r.1, setting_of r.0 at, local_of r.0 at r.1, c.sites-sites.ensures r.0 r.1 r.3 at (subst (IsSiteOf r.0) c.in-T.is r.2))

pub tm_state-requires : goal.tm_state-requires
tm_state-requires c =
    let r = c.requires in
    let at = T c.in-T.tm in
    let part = takes_at at r.1 in
    let s = setting_of r.0 at in
    let own = local_of r.0 at r.1 in
    let lives = c.txn_module.ensures part s own (c.sites-sites.ensures r.0 r.1 r.3 at (subst (IsSiteOf r.0) c.in-T.is r.2)) in
    (s, own, keeps_its_log part c.txn_module.result.now s own lives)

pub returns-in_ok-tm_state-in-T : goal.returns-in_ok-tm_state-in-T
returns-in_ok-tm_state-in-T c = λ g log here calm un.
    let at = T c.in-T.tm in
    let part = takes_at at log in
    let s = setting_of g at in
    let own = local_of g at log in
    let site = subst (IsSiteOf g) c.in-T.is here in
    let keeps = keeps_its_log part c.txn_module.result.now s own (c.txn_module.ensures part s own (c.sites-sites.ensures g log calm at site)) in
    ap states.T (c.in_ok-tm_state-in-T.ensures s own keeps ∙ ap (reported_tm s own c.in-T.tm.0) (c.is_down-down.ensures g log site calm))
    ∙ ap (state_of g log) (sym c.in-T.is)

pub returns-in_ok-dm_state-in-D : goal.returns-in_ok-dm_state-in-D
returns-in_ok-dm_state-in-D c = λ g log here calm un.
    let at = D c.in-D.dm in
    let s = setting_of g at in
    let own = local_of g at log in
    let site = subst (IsSiteOf g) c.in-D.is here in
    let represents = (c.data_module.ensures s own (c.sites-sites.ensures g log calm at site)).represents_log in
    ap states.D (c.in_ok-dm_state-in-D.ensures s own represents ∙ ap (reported_dm s own c.in-D.dm.0) (c.is_down-down-in-D.ensures g log site calm))
    ∙ ap (state_of g log) (sym c.in-D.is)

pub returns-in_ok-state_of_u-in-U : goal.returns-in_ok-state_of_u-in-U
returns-in_ok-state_of_u-in-U c = λ g log here calm dones.
    ap states.U (c.in_ok-state_of_u-in-U.ensures g log calm dones) ∙ ap (state_of g log) (sym c.in-U.is)
