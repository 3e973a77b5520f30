use Rattle.sdd_words.proofs.All.{arith, false, length, quote_from}
use Rattle.sdd_words.proofs.TextCuts.{left_length, passed_all, passed_more, passed_none}
use Rattle.sdd_words.proofs.tokens.quote_place.Goals as goal

pub returns-in-None-clause-place : goal.returns-in-None-clause-place
returns-in-None-clause-place c =
    passed_none c.bytes.is_behind c.bytes.rest.now c.bytes.place (quote_from false c.args.text.now) (omega arith) c.in-None.ensures c.bytes.invariant.counted

pub bytes-preserved : goal.bytes-preserved
bytes-preserved c = record {
  counted = passed_more c.bytes.is_behind c.in-Some.to c.bytes.rest.now c.bytes.place (quote_from false c.args.text.now) (omega arith)
      c.in-Some.ensures c.bytes.invariant.counted;
  whole = left_length c.bytes.rest.now c.bytes.place (length c.args.text.now) (omega arith) c.bytes.invariant.whole;
}

pub returns-clause-place : goal.returns-clause-place
returns-clause-place c =
    passed_all c.bytes.is_behind c.bytes.rest.now c.bytes.place (quote_from false c.args.text.now) (omega arith) c.bytes.invariant.counted
