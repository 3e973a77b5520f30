-- The worked runs keep their sessions. The one whose table has P2 has no cycle of precedence; write skew has one.
use Rattle.sdd_snapshots.proofs.All.{Bool, FitsSystem, HasNoP3, HasSessions, IsOrderly, IsTable, Numbered, Precedes, and_parts, arith, by_unseen, declared, nat_tests, overlapping, read_beside, reader_table, refl, same_Some, same_protocol, slice_get, system_of, tests_of, true, write_skew, writer_and_reader, [], ℕ, ◌==◌, ◌||◌, ◌∷◌, ◌≡◌, ◌⊎◌}
use Rattle.sdd_snapshots.proofs.Theorems.{snapshots_by_table}

one_of_two : (x : ℕ) → ((x == 1) || (x == 2)) ≡ true → (x ≡ 1) ⊎ (x ≡ 2)
one_of_two x e = grind (arith, nat_tests)

sessions : (reads changes : ℕ → ℕ → Bool) → HasSessions (overlapping reads changes)
sessions reads changes =
    record {
      of_class = λ x is. grind (arith, one_of_two);
      forward = λ x is. omega arith;
      one_end = λ x y is also e. omega arith;
      in_turn = λ x y is also same differ. absurd (differ same);
    }

no_p3 : HasNoP3 reader_table
no_p3 k x e = grind (arith, nat_tests, slice_get, same_Some, same_protocol)

fits : FitsSystem writer_and_reader (declared (system_of read_beside))
fits =
    record {
      class = λ x. grind (arith, one_of_two);
      fragment_read = λ x f e. grind (arith, and_parts, one_of_two);
      fragment_changed = λ x f e. grind (arith, and_parts, one_of_two);
      reads = λ x f e. grind (arith, and_parts, one_of_two);
      changes = λ x f e. grind (arith, and_parts, one_of_two);
    }

pub reader_has_no_cycle : IsTable writer_and_reader reader_table → IsOrderly (Precedes (system_of read_beside))
reader_has_no_cycle table =
    snapshots_by_table writer_and_reader reader_table read_beside table (sessions _ _) fits no_p3

one : Numbered (tests_of write_skew)
one = record { no = 1; is = refl }

two : Numbered (tests_of write_skew)
two = record { no = 2; is = refl }

-- neither saw the other's change: each has to stand before the other
one_before_two : Precedes (system_of write_skew) one two
unfolding one two
one_before_two = by_unseen (λ e. absurd (omega arith)) 1 refl refl (λ seen. cc)

two_before_one : Precedes (system_of write_skew) two one
unfolding one two
two_before_one = by_unseen (λ e. absurd (omega arith)) 2 refl refl (λ seen. cc)

pub skew_keeps_sessions : HasSessions write_skew
skew_keeps_sessions = sessions _ _

pub skew_has_a_cycle : ¬ IsOrderly (Precedes (system_of write_skew))
skew_has_a_cycle orderly = orderly one (two ∷ []) (one_before_two, two_before_one)
