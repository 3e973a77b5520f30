use Rattle.sdd_lang.proofs.FragSets.{no_members}
use Rattle.sdd_lang.proofs.frag_set.FragSet.new.Goals as goal

pub returns : goal.returns
returns c = no_members 257
