-- The first of all faults.
use Rattle.sdd_catalog.proofs.All.{CatFault, FragmentPart, IsValid, List, None, Option, Parts, RelationPart, arith, class_faults, count_faults, faults_of_fragment, faults_of_relation, found_in, fragment_faults, head_of, length, nat_tests, or_else, range_faults, relation_faults, sym, ◌≡◌, ◌≤◌}
use Rattle.sdd_catalog.specs.Rules.{faults_of}
use Rattle.sdd_catalog.proofs.Found.{few_in, empty_of_map}
use Rattle.sdd_catalog.proofs.Firsts.{empty_of_head}
use Rattle.sdd_catalog.proofs.Validity.{fine_relation, fine_fragment}

pub few_relations : (relations : List RelationPart) → None ≡ head_of (found_in faults_of_relation relations) → length relations ≤ 64
few_relations relations e =
    few_in faults_of_relation 64 (λ before r found. (fine_relation before r (empty_of_map _ _ found)).few) relations (empty_of_head _ (sym e))

pub few_fragments : (parts : Parts) (fragments : List FragmentPart) → None ≡ head_of (found_in (faults_of_fragment parts) fragments)
    → length fragments ≤ 256
few_fragments parts fragments e =
    few_in (faults_of_fragment parts) 256 (λ before f found. (fine_fragment parts before f (empty_of_map _ _ found)).few) fragments (empty_of_head _ (sym e))

-- the first of all is the first of the first list that has one
pub first_of_all : (parts : Parts) (counts relations fragments ranges classes : Option CatFault) → counts ≡ head_of (count_faults parts)
    → relations ≡ head_of (relation_faults parts) → fragments ≡ head_of (fragment_faults parts) → ranges ≡ head_of (range_faults parts)
    → classes ≡ head_of (class_faults parts)
    → or_else (or_else (or_else (or_else counts relations) fragments) ranges) classes ≡ head_of (faults_of parts)
unfolding faults_of
first_of_all parts counts relations fragments ranges classes c r f g k = grind (arith, nat_tests)

-- parts with no first fault are valid
pub valid_without_fault : (parts : Parts) → None ≡ head_of (faults_of parts) → IsValid parts
valid_without_fault parts e = empty_of_head (faults_of parts) (sym e)
