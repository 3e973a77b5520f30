use Rattle.sdd_lang.proofs.All.{ap, arith, insert_key, members, nat_cmp, ◌∙◌}
use Rattle.sdd_lang.proofs.FragSets.{one_more_member}
use Rattle.sdd_lang.proofs.frag_set.FragSet.add.Goals as goal

pub returns : goal.returns
returns c =
    one_more_member c.args.catalogue.now c.self.inside.flags c.args.frag.0
    (omega (arith, c.law_is_sound.ensures.whole.few_fragments, c.self.invariant)) c.requires.from c.requires.to
    ∙ ap (λ flags. insert_key nat_cmp (members c.args.catalogue.now flags) c.args.frag.0) c.self.view_is
