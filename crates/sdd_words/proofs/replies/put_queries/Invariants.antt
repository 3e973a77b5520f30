use Rattle.sdd_words.proofs.All.{drop, queries_from, ◌++◌, ◌+◌, ◌≡◌}
use Rattle.sdd_words.proofs.replies.put_queries.Given as goal

-- what is written and what is left are all of it
abbrev pub invariant-queries : goal.invariant-queries
invariant-queries l = l.out.items ++ queries_from (l.i + 1) (drop l.i l.answers) ≡ l.fn.out.items ++ queries_from 1 l.answers
