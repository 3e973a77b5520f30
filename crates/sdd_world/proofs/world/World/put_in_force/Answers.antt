use Rattle.sdd_world.proofs.All.{refl}
use Rattle.sdd_world.proofs.NextList.{era_ends, era_fits, is_redeclared, same_tms}
use Rattle.sdd_world.proofs.world.World.put_in_force.Goals as goal

pub returns-then-self-clause-limit : goal.returns-then-self-clause-limit
returns-then-self-clause-limit c = λ err g log f. era_ends c.args.self.now g log _ f c.if-self.true

pub greatest_bound-t-requires : goal.greatest_bound-t-requires
greatest_bound-t-requires c = let r = c.requires in (r.0, r.1, same_tms c.args.self.now r.0 r.1 _ r.2, r.2.calm.parts.sites)

pub put_in_force-requires : goal.put_in_force-requires
put_in_force-requires c =
    let r = c.requires in
    let sites = r.2.calm.parts.sites in (
      r.0,
      r.1,
      sites,
      era_fits c.args.self.now r.0 r.1 _ r.2 c.greatest_bound-t.result.0 (c.greatest_bound-t.ensures r.0 r.1 (same_tms c.args.self.now r.0 r.1 _ r.2) sites),
    )

pub returns-clause-ok : goal.returns-clause-ok
returns-clause-ok c = λ g log f.
    let sites = f.calm.parts.sites in
    let time = c.greatest_bound-t.ensures g log (same_tms c.args.self.now g log _ f) sites in
    let fits = era_fits c.args.self.now g log _ f c.greatest_bound-t.result.0 time in
    is_redeclared c.args.self.now g log _ f _ c.put_in_force.new.self c.greatest_bound-t.result.0 time c.if-self.false
    (c.put_in_force.ensures g log sites fits) refl refl
