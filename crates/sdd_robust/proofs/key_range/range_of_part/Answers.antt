use Rattle.std.proofs.Common.{SFits as FitsSigned, ap, rules, to_z-of_z, w64, ◌∙◌, ◌≡◌}
use Rattle.sdd_lang.specs.All.{Relation, allowed_keys, key_column, restrictions_of}
use Rattle.sdd_robust.proofs.KeyRanges.{found_none, found_some}
use Rattle.sdd_robust.proofs.key_range.range_of_part.Goals as goal

pub returns-in-Some : goal.returns-in-Some
returns-in-Some c =
    let cat = c.args.catalogue.now in
    let low : FitsSigned w64 c.in-Some.least = search rules in
    let high : FitsSigned w64 c.in-Some.greatest = search rules in
    let is : c.allowed_keys-keys.result ≡ allowed_keys (key_column cat c.args.rel.0) (restrictions_of c.args.part c.args.conds.now) =
    c.allowed_keys-keys.ensures ∙ ap (λ (r : Relation). allowed_keys r.key c.as_slice.result.now) c.relation.ensures
    ∙ ap (allowed_keys (key_column cat c.args.rel.0)) (c.as_slice.ensures ∙ c.in_ok-restrictions.ensures) in
    rw (to_z-of_z low, to_z-of_z high)
    (found_some c.args.rel (key_column cat c.args.rel.0) (restrictions_of c.args.part c.args.conds.now) c.allowed_keys-keys.result
    c.in-Some.least c.in-Some.greatest is c.in-Some.ensures.0 c.in-Some.ensures.1 c.in-Some.ensures.2)

pub returns : goal.returns
returns c =
    let cat = c.args.catalogue.now in
    let is : c.allowed_keys-keys.result ≡ allowed_keys (key_column cat c.args.rel.0) (restrictions_of c.args.part c.args.conds.now) =
    c.allowed_keys-keys.ensures ∙ ap (λ (r : Relation). allowed_keys r.key c.as_slice.result.now) c.relation.ensures
    ∙ ap (allowed_keys (key_column cat c.args.rel.0)) (c.as_slice.ensures ∙ c.in_ok-restrictions.ensures) in
    found_none c.args.rel (key_column cat c.args.rel.0) (restrictions_of c.args.part c.args.conds.now) c.allowed_keys-keys.result
    is c.in-None.ensures
