use Rattle.sdd_script.proofs.All.{ReadPart, drop, ended, flat_map, reads_words, ◌++◌, ◌≡◌}
use Rattle.sdd_script.proofs.write_lists.put_reads.Given as goal

-- what was written and what is left to write is all of it
abbrev pub invariant-reads : goal.invariant-reads
invariant-reads l = l.out.items ++ flat_map (λ (r : ReadPart). ended (reads_words r))
    (drop l.read-index l.reads) ≡ l.fn.out.items ++ flat_map (λ (r : ReadPart). ended (reads_words r))
    l.reads
