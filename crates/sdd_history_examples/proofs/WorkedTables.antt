-- The tables of the worked catalogues.
use Rattle.sdd_history_examples.proofs.All.{All-from_recursion, Entry, IsTable, List, OnACycle, Some, Step, [], arith, bridge, crossing, eq-eqb, false, false≢true, inl, inr, nat_lt, one_class, one_reader, one_writer, protocol_in, refl, same_Some, second_class_list, slice_get, suc, sym, table_of_bridge, table_of_crossing, table_of_one, table_of_one_reader, table_of_two, true, zero, ℕ, ◌==◌, ◌∷◌, ◌≡◌, ◌≢◌}
use Rattle.sdd_history_examples.proofs.Blocks.{crosses_alone, no_blocks, IsNumbered, one_block}

true_false : true ≢ false
true_false e = false≢true (sym e)

-- A path: from node 0 to 1, from 1 to 2, from 2 to 3.

abbrev path : List (ℕ × ℕ)
path = (0, 1) ∷ (2, 3) ∷ (2, 1) ∷ []

path_number : (k b : ℕ) → slice_get (0 ∷ 0 ∷ 0 ∷ []) k ≡ Some b → (b ≡ 0) × (¬ OnACycle path k)
path_number zero b e = (sym (same_Some 0 b e), crosses_alone (λ n. n == 0) path 0 0 1 refl refl true_false)
path_number (suc zero) b e = (sym (same_Some 0 b e), crosses_alone (λ n. nat_lt n 3) path 1 2 3 refl refl true_false)
path_number (suc (suc zero)) b e = (sym (same_Some 0 b e), crosses_alone (λ n. nat_lt 1 n) path 2 2 1 refl refl true_false)
path_number (suc (suc (suc k))) b e = absurd (cc)

pub is_bridge : IsTable bridge table_of_bridge
is_bridge =
    record {
      edges = refl;
      blocks = no_blocks path (0 ∷ 0 ∷ 0 ∷ []) refl path_number;
      protocols = All-from_recursion (λ (e : Entry). e.protocol ≡ protocol_in table_of_bridge e.edge e.block) table_of_bridge (refl, (refl, (refl, tt)));
    }

-- Two parallel edges between two others.

abbrev doubled : List (ℕ × ℕ)
doubled = (0, 1) ∷ (2, 3) ∷ (2, 1) ∷ (2, 1) ∷ []

abbrev there_and_back : List Step
there_and_back = record { edge = 2; to = 1 } ∷ record { edge = 3; to = 2 } ∷ []

doubled_number : (k b : ℕ) → slice_get (0 ∷ 0 ∷ 1 ∷ 1 ∷ []) k ≡ Some b → IsNumbered doubled there_and_back k b
doubled_number zero b e = inl (sym (same_Some 0 b e), crosses_alone (λ n. n == 0) doubled 0 0 1 refl refl true_false)
doubled_number (suc zero) b e = inl (sym (same_Some 0 b e), crosses_alone (λ n. nat_lt n 3) doubled 1 2 3 refl refl true_false)
doubled_number (suc (suc zero)) b e = inr (sym (same_Some 1 b e), inl refl)
doubled_number (suc (suc (suc zero))) b e = inr (sym (same_Some 1 b e), inr (inl refl))
doubled_number (suc (suc (suc (suc k)))) b e = absurd (cc)

pub is_one_reader : IsTable one_reader table_of_one_reader
is_one_reader =
    record {
      edges = refl;
      blocks = one_block doubled (0 ∷ 0 ∷ 1 ∷ 1 ∷ []) 2 there_and_back (grind (arith, eq-eqb)) refl doubled_number;
      protocols =
          grind (arith, protocol_in, table_of_one_reader);
    }

-- A square.

abbrev square : List (ℕ × ℕ)
square = (0, 1) ∷ (2, 3) ∷ (0, 3) ∷ (2, 1) ∷ []

abbrev around : List Step
around = record { edge = 0; to = 1 } ∷ record { edge = 3; to = 2 } ∷ record { edge = 1; to = 3 } ∷ record { edge = 2; to = 0 } ∷ []

square_number : (k b : ℕ) → slice_get (1 ∷ 1 ∷ 1 ∷ 1 ∷ []) k ≡ Some b → IsNumbered square around k b
square_number k b e = grind (arith, same_Some)

pub is_crossing : IsTable crossing table_of_crossing
is_crossing =
    record {
      edges = refl;
      blocks = one_block square (1 ∷ 1 ∷ 1 ∷ 1 ∷ []) 0 around (grind (arith, eq-eqb)) refl square_number;
      protocols =
          grind (arith, protocol_in, table_of_crossing);
    }

-- One edge.

abbrev edge : List (ℕ × ℕ)
edge = (0, 1) ∷ []

edge_number : (k b : ℕ) → slice_get (0 ∷ []) k ≡ Some b → (b ≡ 0) × (¬ OnACycle edge k)
edge_number zero b e = (sym (same_Some 0 b e), crosses_alone (λ n. n == 0) edge 0 0 1 refl refl true_false)
edge_number (suc k) b e = absurd (cc)

pub is_one_class : IsTable one_class table_of_one
is_one_class = grind (arith, no_blocks, edge, edge_number)

pub is_one_writer : IsTable one_writer table_of_one
is_one_writer = grind (arith, no_blocks, edge, edge_number)

-- Two edges that don't meet.

abbrev apart : List (ℕ × ℕ)
apart = (0, 1) ∷ (2, 3) ∷ []

apart_number : (k b : ℕ) → slice_get (0 ∷ 0 ∷ []) k ≡ Some b → (b ≡ 0) × (¬ OnACycle apart k)
apart_number zero b e = (sym (same_Some 0 b e), crosses_alone (λ n. n == 0) apart 0 0 1 refl refl true_false)
apart_number (suc zero) b e = (sym (same_Some 0 b e), crosses_alone (λ n. n == 2) apart 1 2 3 refl refl true_false)
apart_number (suc (suc k)) b e = absurd (cc)

pub is_second_class_list : IsTable second_class_list table_of_two
is_second_class_list = grind (arith, no_blocks, apart, apart_number)
