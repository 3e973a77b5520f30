-- Worked examples.
use Rattle.std.specs.Prelude.{pos, ◌≡◌, List, [], ◌∷◌, ◌++◌, Some, None, codes, refl}
use Rattle.std.specs.Fmt.{digits}
use Rattle.std.proofs.lemmas.Option.{none-some}
use Rattle.sdd_catalog.specs.Catalogue.{Catalogue, catalogue_of}
use Rattle.sdd_catalog.specs.Examples.{split}
use Rattle.sdd_graph.specs.declared.edge.Edge.{Edge}
use Rattle.sdd_graph.specs.Examples.{vertical, horizontal, diagonal}
use Rattle.sdd_graph.specs.Graph.{conflict_graph}
use Rattle.sdd_protocol.specs.declared.protocol.Protocol.TheVariants.{P1, P2, P3}
use Rattle.sdd_advise.specs.Advices.{IsGood, advice_of, diagonals}
use Rattle.sdd_advise.specs.Neighbours.{neighbours}
use Rattle.sdd_advise.specs.Texts.{advice_lines, advices_text, cycle_line}
use Rattle.sdd_advise.specs.Walks.{nodes_along}
use Rattle.sdd_advise.specs.declared.advice.Advice.{Advice}

-- class 1, w, writes the fragments a and b; class 2, r, reads a at module 1 and b at module 2
abbrev two : Catalogue
two = catalogue_of (split (pos 10) 1)

abbrev of_a : Edge
of_a = diagonal 2 1 1

abbrev of_b : Edge
of_b = diagonal 2 1 2

-- the two diagonals are a cycle, and the nodes of class 1 lie apart from those of class 2
abbrev advices : List Advice
advices =
    advice_of of_a P2 (of_a ∷ of_b ∷ []) (0 ∷ 1 ∷ [])
    ∷ advice_of of_b P2 (of_b ∷ of_a ∷ []) (0 ∷ 1 ∷ [])
    ∷ []

pub diagonals_row : diagonals two ≡ of_a ∷ of_b ∷ []
diagonals_row = refl

pub text_row : advices_text two advices
    ≡ codes "r reads a at D1 writer w P2\nby diagonal r w a\nby diagonal r w b\napart r:w w:w\n"
    ++ codes "r reads b at D2 writer w P2\nby diagonal r w b\nby diagonal r w a\napart r:w w:w\n"
unfolding digits
text_row = refl

-- P1 has no cycle, and P3 no nodes apart
pub p1_row : advice_lines two (advice_of of_a P1 [] (0 ∷ 1 ∷ []))
    ≡ codes "r reads a at D1 writer w P1\napart r:w w:w\n"
unfolding digits
p1_row = refl

pub p3_row : advice_lines two (advice_of of_a P3 (of_a ∷ vertical 1 ∷ vertical 2 ∷ []) [])
    ≡ codes "r reads a at D1 writer w P3\nby diagonal r w a\nby vertical w\nby vertical r\n"
unfolding digits
p3_row = refl

pub horizontal_row : cycle_line two (horizontal 1 2) ≡ codes "by horizontal w r\n"
horizontal_row = refl

-- without its cycle the first advice isn't good
pub emptied : ¬ IsGood two (advice_of of_a P2 [] (0 ∷ 1 ∷ []))
emptied good = none-some of_a good.1.begins

-- the reader's read node, to the writer's write node and back
pub along_row : nodes_along 2 (of_a ∷ of_b ∷ []) ≡ Some (1 ∷ 2 ∷ [])
along_row = refl

-- the vertical edge of class 2 isn't at the writer's write node
pub off_row : nodes_along 2 (of_a ∷ vertical 2 ∷ []) ≡ None
off_row = refl

pub neighbours_row : neighbours (conflict_graph two) 3 ≡ record { edge = vertical 2; node = 2 } ∷ []
neighbours_row = refl
