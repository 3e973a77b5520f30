use Rattle.sdd_sites.proofs.All.{Era, T, arith, local_of, setting_of, subst, takes_part, tm_no, ◌≤◌}
use Rattle.sdd_sites.proofs.NextEra.{all_redeclared, none_redeclared, one_redeclared, t_here, t_represents}
use Rattle.sdd_sites.proofs.sites.Sites.put_in_force.Goals as goal

pub loop-number-init : goal.loop-number-init
loop-number-init c =
    let r = c.requires in
    let era : Era = record { catalogue = c.args.catalogue.now; table = c.args.table.now } in
    record {
      some = (r.0, r.1, r.3, none_redeclared c.args.self.now r.0 r.1 era c.args.t.0 r.2);
      so_far = λ g log all fits. none_redeclared c.args.self.now g log era c.args.t.0 all;
    }

pub redeclare-requires : goal.redeclare-requires
redeclare-requires c =
    let i = c.loop-number.invariant.some in
    let n = c.loop-number.number in
    let at = T (tm_no n) in
    let era : Era = record { catalogue = c.args.catalogue.now; table = c.args.table.now } in
    let high : n ≤ c.args.catalogue.now.tms = omega arith in
    let here = t_here i.0 n (omega arith) (subst (λ k. n ≤ k) i.2.era.tms high) in
    (takes_part at i.1, setting_of i.0 at, local_of i.0 at i.1, t_represents c.loop-number.self i.0 i.1 era c.args.t.0 n i.3 here, i.2)

pub loop-number-preserved : goal.loop-number-preserved
loop-number-preserved c =
    let i = c.loop-number.invariant.some in
    let n = c.loop-number.number in
    let era : Era = record { catalogue = c.args.catalogue.now; table = c.args.table.now } in
    let low : 1 ≤ n = omega arith in
    let high : n ≤ c.args.catalogue.now.tms = omega arith in
    record {
      some = (
        i.0,
        i.1,
        i.2,
        one_redeclared c.loop-number.self c.redeclare.new.self i.0 i.1 era c.args.t.0 n i.3
            (t_here i.0 n low (subst (λ k. n ≤ k) i.2.era.tms high)) i.2 c.redeclare.ensures.law c.redeclare.ensures.others,
      );
      so_far = λ g log all fits. one_redeclared c.loop-number.self c.redeclare.new.self g log era c.args.t.0 n
          (c.loop-number.invariant.so_far g log all fits) (t_here g n low (subst (λ k. n ≤ k) fits.era.tms high)) fits
          c.redeclare.ensures.law c.redeclare.ensures.others;
    }

pub returns : goal.returns
returns c = λ g log all fits.
    let era : Era = record { catalogue = c.args.catalogue.now; table = c.args.table.now } in
    all_redeclared c.loop-number.self g log era c.args.t.0 c.loop-number.number (let tms = fits.era.tms in omega arith)
    (c.loop-number.invariant.so_far g log all fits)
