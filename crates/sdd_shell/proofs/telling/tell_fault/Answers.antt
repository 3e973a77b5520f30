use Rattle.sdd_shell.proofs.telling.tell_fault.Goals as goal

pub returns : goal.returns
returns g c = rw (← c.word_for_part.ensures, ← c.number_piece.ensures, ← c.word_for_rule.ensures, ← c.word_for_count.ensures) c.tell_pieces.ensures
