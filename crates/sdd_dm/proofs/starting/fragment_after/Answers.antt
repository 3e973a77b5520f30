use Rattle.sdd_dm.proofs.All.{FitsSigned, holds_key, length, rules, true, w64, ◌≡◌, ◌≤◌}
use Rattle.sdd_dm.proofs.OneFragment.{holder_is_fragment}
use Rattle.sdd_dm.proofs.starting.fragment_after.Goals as goal

pub returns-in-Some-clause-number : goal.returns-in-Some-clause-number
returns-in-Some-clause-number c =
    let from : 1 ≤ c.in-Some.frag.0 = search rules in
    let to : c.in-Some.frag.0 ≤ length c.args.catalogue.now.fragments = search rules in
    let fits : FitsSigned w64 c.args.key = search rules in
    let holds : holds_key c.args.catalogue.now c.args.rel.0 c.args.key c.in-Some.frag.0 ≡ true = search rules in
    holder_is_fragment c.args.catalogue.now c.law_is_sound.ensures.sound c.args.rel.0 c.args.key c.in-Some.frag.0 c.requires.from c.requires.to
    fits from to holds
