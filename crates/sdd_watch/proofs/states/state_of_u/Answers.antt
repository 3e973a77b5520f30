use Rattle.sdd_watch.proofs.All.{U, local_of, refl, setting_of, ◌∙◌}
use Rattle.sdd_watch.proofs.states.state_of_u.Goals as goal

pub u_state-requires : goal.u_state-requires
u_state-requires c =
    let r = c.requires in (
      setting_of r.0 U,
      local_of r.0 U r.1,
      (c.u_module-u_module.ensures (setting_of r.0 U) (local_of r.0 U r.1) (c.sites.ensures r.0 r.1 r.2 U refl)).represents_log,
    )

pub returns : goal.returns
returns c = λ g log calm dones.
    let represents = (c.u_module-u_module.ensures (setting_of g U) (local_of g U log) (c.sites.ensures g log calm U refl)).represents_log in
    c.in_ok-state.ensures (setting_of g U) (local_of g U log) represents (c.stage_at-stage.ensures (setting_of g U) (local_of g U log) represents)
    (λ waits. c.as_slice.ensures.value ∙ c.in_ok-missing.ensures g log calm dones waits)
