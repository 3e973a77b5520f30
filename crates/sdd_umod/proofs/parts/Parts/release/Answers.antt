-- The counts that are lent are those of the module.
use Rattle.sdd_umod.proofs.All.{HaveRoom, State, ap, subst, sym, ◌∙◌}
use Rattle.sdd_umod.proofs.parts.Parts.release.Goals as goal

pub count-requires : goal.count-requires
count-requires c = subst HaveRoom (sym (c.as_mut_slice.ensures.value ∙ ap (λ (st : State). st.counts) c.self.view_is)) c.requires
