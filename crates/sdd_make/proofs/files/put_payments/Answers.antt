use Rattle.sdd_make.proofs.All.{eastpay_text, westpay_text}
use Rattle.sdd_make.proofs.TwoPieces.{two_put}
use Rattle.sdd_make.proofs.files.put_payments.Goals as goal

pub returns : goal.returns
returns c = two_put c.put-2.result c.args.out.now.items eastpay_text westpay_text c.put.new.out.items c.put-2.new.out.items c.in_ok-put.ensures c.put-2.ensures
