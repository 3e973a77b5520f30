use Rattle.sdd_words.proofs.All.{arith, is_some, words_of, ◌∙◌}
use Rattle.sdd_words.proofs.Scans.{byte_more, byte_refused, line_ended}
use Rattle.sdd_words.proofs.split.are_words.Goals as goal

pub returns-in-None : goal.returns-in-None
returns-in-None c =
    byte_refused c.bytes.mode c.bytes.rest.now (is_some (words_of c.args.line.now)) (omega arith) c.in-None.ensures c.bytes.invariant

pub bytes-preserved : goal.bytes-preserved
bytes-preserved c =
    byte_more c.bytes.mode c.in-Some.to c.bytes.rest.now (is_some (words_of c.args.line.now)) (omega arith) c.in-Some.ensures c.bytes.invariant

pub returns : goal.returns
returns c =
    c.ends_word.ensures ∙ line_ended c.bytes.mode c.bytes.rest.now (is_some (words_of c.args.line.now)) (omega arith) c.bytes.invariant
