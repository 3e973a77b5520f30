use Rattle.sdd_schedule.proofs.All.{IsSiteOf, ap, status_at, subst, sym, why_of, ◌∙◌}
use Rattle.sdd_schedule.proofs.HomesExist.{last_home_there}
use Rattle.sdd_world.proofs.Results.{of_ok}
use Rattle.sdd_schedule.proofs.waits.why_at_end.Goals as goal

pub standing-standing-requires : goal.standing-standing-requires
standing-standing-requires c =
    let r = c.requires in (
      r.0,
      r.1,
      subst (IsSiteOf r.0) (sym (c.last_home-at.ensures r.0 r.1 r.2)) (last_home_there r.0 r.1 c.args.number.0 r.2.calm.parts.sound),
      r.2,
    )

pub returns : goal.returns
returns c =
    of_ok c.why_so.result _ _ c.why_so.ensures (λ why reported given log s.
    let at = c.last_home-at.ensures given log s in
    let here = subst (IsSiteOf given) (sym at) (last_home_there given log c.args.number.0 s.calm.parts.sound) in
    reported given log s ∙ ap (why_of given log) (c.standing-standing.ensures given log here s)
    ∙ ap (λ z. why_of given log (status_at given log z c.args.number.0)) at)
