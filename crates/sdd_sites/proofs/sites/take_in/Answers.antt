use Rattle.sdd_sites.proofs.All.{Lives, get-set_other}
use Rattle.sdd_sites.proofs.ByTable.{taken_in}
use Rattle.sdd_sites.proofs.TxnModules.{read_at}
use Rattle.sdd_sites.proofs.sites.take_in.Goals as goal

pub take-requires-clause-lives : goal.take-requires-clause-lives
take-requires-clause-lives t c =
    let r = c.requires in
    (read_at (Lives t.M.Module.is_live t.M.Module.represents) c.args.modules.now.items c.args.at c.index_mut-module.result.now r.0 r.2
    c.index_mut-module.ensures.value r.3).live

pub take-requires-clause-represents : goal.take-requires-clause-represents
take-requires-clause-represents t c =
    let r = c.requires in
    let here = read_at (Lives t.M.Module.is_live t.M.Module.represents) c.args.modules.now.items c.args.at c.index_mut-module.result.now r.0 r.2
    c.index_mut-module.ensures.value r.3 in
    (r.0, r.1, r.2, here.represents_log, r.4)

pub returns-clause-law : goal.returns-clause-law
returns-clause-law t c = taken_in t.M.Module.is_live t.M.Module.represents t.M.Module.next c.args.modules.now.items c.args.at
    c.index_mut-module.result.now c.take.new.self t.M.Module.fits c.args.from c.args.msg c.take.result
    c.index_mut-module.ensures.value c.take.ensures.law c.take.ensures.lives_on

pub returns-clause-others : goal.returns-clause-others
returns-clause-others t c = λ k ne. get-set_other c.args.modules.now.items c.args.at k c.take.new.self ne
