use Rattle.sdd_script.proofs.All.{List, ReadPart, class_words, ended, flat_map, reads_words, writes_words, ℕ, ◌++◌, ◌∙◌, ◌≡◌}
use Rattle.sdd_script.proofs.Pieces.{after, class_pieces}
use Rattle.sdd_script.proofs.write_lists.put_class.Goals as goal

pub returns : goal.returns
returns c =
    let a : c.put_reads.new.out.items ≡ c.put_class_header.new.out.items ++ flat_map
    (λ (r : ReadPart). ended (reads_words r)) c.args.class.now.reads =
    rw c.as_slice.ensures at c.in_ok-put_reads.ensures in
    let b : c.put_writes.new.out.items ≡ c.put_reads.new.out.items ++ flat_map
    (λ (f : List ℕ). ended (writes_words f)) c.args.class.now.writes =
    rw c.as_slice-2.ensures at c.in_ok-put_writes.ensures in
    after _ _ b (after _ _ a c.in_ok-put_class_header.ensures)
    ∙ class_pieces c.args.out.now.items (class_words c.args.class.now) reads_words c.args.class.now.reads writes_words c.args.class.now.writes
