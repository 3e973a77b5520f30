use Rattle.sdd_make.proofs.All.{IsName, codes, decimal, rules, subst, sym, ◌++◌, ◌<◌, ◌^◌, ◌≡◌}
use Rattle.sdd_make.proofs.Names.{number_named}
use Rattle.sdd_make.proofs.naming.txn_name.Goals as goal

pub name-requires : goal.name-requires
name-requires c =
    let small : c.args.i < 2 ^ 32 = c.ranges.i.fits in
    let same : c.as_str.result.now ≡ codes "t" ++ decimal c.args.i = search rules in
    subst IsName (sym same) (number_named c.args.i small)
