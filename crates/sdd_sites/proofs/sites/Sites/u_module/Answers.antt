use Rattle.sdd_sites.proofs.sites.Sites.u_module.Goals as goal

pub returns : goal.returns
returns c = λ setting log represents. represents
