use Rattle.sdd_links.proofs.All.{Attempt, Committed, Some, ap, committed_of, option_map, sym, ◌∙◌}
use Rattle.sdd_links.proofs.attempts.committed_of.Goals as goal

pub returns-in-Some : goal.returns-in-Some
returns-in-Some c all f =
    let made : Attempt → Committed = λ s. record {
      start = s;
      reply = c.in-Commit.reply;
      changes = c.in-Commit.changes;
      values = c.in-Commit.values;
      rows = c.in-Commit.rows;
      place = c.args.place;
    } in
    let found = c.in-Some.ensures.value ∙ f c.in-Commit.txn.0 c.in-Commit.attempt in
    ap (λ s. Some (made s)) (c.copy.ensures) ∙ ap (option_map made) found
    ∙ ap (λ r. committed_of all (c.args.place, r)) (sym c.in-Commit.is)
