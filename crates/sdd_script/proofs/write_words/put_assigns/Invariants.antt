use Rattle.sdd_script.proofs.All.{drop, more_bytes, sets_words, ◌++◌, ◌≡◌}
use Rattle.sdd_script.proofs.write_words.put_assigns.Given as goal

-- what was written and what is left to write is all of it
abbrev pub invariant-assigns : goal.invariant-assigns
invariant-assigns l = l.out.items ++ more_bytes
    (sets_words l.catalogue l.rel (drop l.assign-index l.assigns)) ≡ l.fn.out.items ++ more_bytes
    (sets_words l.catalogue l.rel l.assigns)
