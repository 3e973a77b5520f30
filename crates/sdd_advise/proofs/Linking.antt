-- What a search without a reader's read node tells of the reader's diagonals from one writer.
use Rattle.sdd_advise.proofs.All.{AreReached, ClassNo, Edge, IsAway, IsClassNo, IsClosed, IsLink, IsPairOf, IsReadOf, IsWay, LieApart, List, NamesClasses, None, Option, Pair, Vertical, [], arith, ends, place_of, placed_nodes, ℕ, ◌++◌, ◌∷◌, ◌≡◌}
use Rattle.sdd_advise.proofs.Advised.{apart_from}

module _ (edges : List Edge) (reader : ClassNo) (write : ℕ) (p : ℕ × ℕ) (is : p ≡ ends (Vertical reader)) where
  pub they_lie_apart : (places : List (Option ℕ)) (nodes : List ℕ) → AreReached edges (IsAway p.0) write (placed_nodes places)
      → place_of places p.1 ≡ None → nodes ≡ placed_nodes places → LieApart edges reader write nodes
  they_lie_apart places nodes r none e = grind (arith, apart_from)

  pub it_is_closed : (way closed : List Edge) → IsWay edges (IsAway p.0) write p.1 way → closed ≡ way ++ Vertical reader ∷ []
      → IsClosed edges reader write closed
  it_is_closed way closed w e = grind arith

-- the link of a diagonal's pair is that of the diagonal
pub link_of_pair : (edges : List Edge) (reader : ClassNo) (edge : Edge) (pair : Pair) → IsPairOf edges reader edge pair
    → IsLink edges reader (ends edge).1 pair.link
link_of_pair edges reader edge pair p = grind arith

-- a diagonal's reader is a class
pub reader_named : (edge : Edge) (reader : ClassNo) → IsReadOf reader edge → NamesClasses edge → IsClassNo reader.0
reader_named edge reader r named = grind arith
