use Rattle.sdd_words.proofs.All.{flat_map, row_line, take, ◌++◌, ◌≡◌}
use Rattle.sdd_words.proofs.replies.put_answer.Given as goal

-- so far the text holds what stands for the items so far
abbrev pub invariant-rows : goal.invariant-rows
invariant-rows l = l.out.items ≡ l.fn.out.items ++ flat_map row_line (take l.row-index l.rows)
