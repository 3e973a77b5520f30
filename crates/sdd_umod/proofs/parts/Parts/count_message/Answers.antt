-- A push leaves the counts.
use Rattle.sdd_umod.proofs.All.{HaveRoom, State, ap, subst, sym}
use Rattle.sdd_umod.proofs.parts.Parts.count_message.Goals as goal

pub count_held-requires : goal.count_held-requires
count_held-requires c = subst HaveRoom (sym (ap (λ (st : State). st.counts) c.self.view_is)) c.requires.counts
