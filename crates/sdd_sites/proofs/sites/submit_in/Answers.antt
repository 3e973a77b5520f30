use Rattle.std.proofs.Common.{arith}
use Rattle.std.proofs.lemmas.Grind.{elements}
use Rattle.sdd_sites.proofs.All.{get-set_other}
use Rattle.sdd_sites.proofs.ByTable.{submitted_in}
use Rattle.sdd_needs.specs.tm.Due as tm
use Rattle.sdd_needs.specs.tm.Fits as tm_fits
use Rattle.sdd_tm.specs.Represents as tm_represents
use Rattle.sdd_sites.proofs.sites.submit_in.Goals as goal

pub returns-clause-law : goal.returns-clause-law
returns-clause-law c = submitted_in (λ t. t.live) tm_represents.Represents tm.next c.args.modules.now.items c.args.at
    c.index_mut-module.result.now c.submit_in_class.new.self tm_fits.FitsSubmit c.args.number c.args.txn.now c.submit_in_class.result
    c.index_mut-module.ensures.value c.submit_in_class.ensures.law c.submit_in_class.ensures.lives_on

pub returns-clause-others : goal.returns-clause-others
returns-clause-others c = λ k ne. get-set_other c.args.modules.now.items c.args.at k c.submit_in_class.new.self ne

pub submit_in_class-requires-clause-lives : goal.submit_in_class-requires-clause-lives
submit_in_class-requires-clause-lives c = grind (arith, elements)

pub submit_in_class-requires-clause-represents : goal.submit_in_class-requires-clause-represents
submit_in_class-requires-clause-represents c = grind (arith, elements)
