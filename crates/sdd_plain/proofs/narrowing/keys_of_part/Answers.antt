use Rattle.sdd_plain.proofs.Near.{allowed_are}
use Rattle.sdd_plain.proofs.narrowing.keys_of_part.Goals as goal

pub returns-then-are_of_keys : goal.returns-then-are_of_keys
returns-then-are_of_keys c =
    let of = rw (c.as_slice.ensures, c.in_ok-restrictions.ensures) at (c.are_of_keys.ensures.0 c.if-are_of_keys.true) in
    rw (c.allowed_keys.ensures, c.as_slice-then-are_of_keys.ensures, c.in_ok-restrictions.ensures) (allowed_are c.args.key c.args.part c.args.conds.now of)
