use Rattle.sdd_words.proofs.All.{arith, unescaped}
use Rattle.sdd_words.proofs.TextCuts.{all_read}
use Rattle.sdd_words.proofs.token.unescape.Goals as goal

pub returns : goal.returns
returns c = all_read c.bytes.is_behind c.bytes.rest.now c.bytes.text.items (unescaped c.args.spelling.now) (omega arith) c.bytes.invariant
