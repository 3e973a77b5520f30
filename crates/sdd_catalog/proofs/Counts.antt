-- An item that breaks no rule has fewer before it than the limit.
use Rattle.sdd_catalog.proofs.All.{ClassPart, FragmentPart, List, None, Parts, RelationPart, arith, faults_of_class, faults_of_fragment, faults_of_relation, head_of, length, length-take-le, nat_tests, take, ℕ, ◌<◌, ◌≡◌, ◌≤◌}
use Rattle.sdd_catalog.proofs.Firsts.{empty_of_head}
use Rattle.sdd_catalog.proofs.Found.{empty_of_map}
use Rattle.sdd_catalog.proofs.Validity.{fine_relation, fine_fragment, fine_class}

pub few_before_relation : (items : List RelationPart) (i : ℕ) (r : RelationPart) → i ≤ length items
    → head_of (faults_of_relation (take i items) r) ≡ None → i < 64
few_before_relation items i r within e = grind (arith, nat_tests, fine_relation, empty_of_map, empty_of_head, length-take-le)

pub few_before_fragment : (parts : Parts) (items : List FragmentPart) (i : ℕ) (f : FragmentPart) → i ≤ length items
    → head_of (faults_of_fragment parts (take i items) f) ≡ None → i < 256
few_before_fragment parts items i f within e = grind (arith, fine_fragment, empty_of_map, empty_of_head, length-take-le)

pub few_before_class : (parts : Parts) (items : List ClassPart) (i : ℕ) (c : ClassPart) → i ≤ length items
    → head_of (faults_of_class parts (take i items) c) ≡ None → i < 64
few_before_class parts items i c within e = grind (arith, nat_tests, fine_class, empty_of_map, empty_of_head, length-take-le)
