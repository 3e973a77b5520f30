-- Each diagonal of P2 and P3 is one of the graph of waits.
use Rattle.std.proofs.Common.{arith}
use Rattle.sdd_progress.proofs.AllWaits.{Bool, ClassNo, Diagonal, DiagonalsListed, Edge, FragNo, List, None, Option, Protocol, Some, WaitDiagonal, [], ap, cons_option, diagonal_at, diagonals, refl, same_Some, slice_get, suc, wait_protocol, zero, ℕ, ◌∙◌, ◌∷◌, ◌≡◌}
use Rattle.sdd_obligations.specs.protocol.declared.entry.Entry.{Entry}

made : ℕ → ℕ → ℕ → Bool → WaitDiagonal
made reader writer k own = record { reader = reader; writer = writer; edge = k; own = own }

made_at : (k : ℕ) (own : Bool) (p : Protocol) (e : Edge) (i j : ClassNo) (f : FragNo) → e ≡ Diagonal i j f
    → p ≡ wait_protocol own → diagonal_at k p e ≡ Some (made i.0 j.0 k own)
unfolding made
made_at k own p e i j f edge protocol = grind arith

one_further : (o : Option WaitDiagonal) (ds : List WaitDiagonal) (n : ℕ) (d : WaitDiagonal)
    → slice_get ds n ≡ Some d → (m : ℕ) × (slice_get (cons_option o ds) m ≡ Some d)
one_further None ds n d e = (n, e)
one_further (Some x) ds n d e = (suc n, e)

-- the entry's diagonal stands at some place, with some edge
listed : (own : Bool) (i j : ClassNo) (f : FragNo) (k : ℕ) (entries : List Entry) (n : ℕ) (e : Entry)
    → slice_get entries n ≡ Some e → e.edge ≡ Diagonal i j f → e.protocol ≡ wait_protocol own
    → (m : ℕ) × (edge : ℕ) × (slice_get (diagonals k entries) m ≡ Some (made i.0 j.0 edge own))
listed own i j f k [] n e at edge protocol = absurd (cc)
listed own i j f k (x ∷ entries) zero e at edge protocol =
    let same : x ≡ e = same_Some x e at in
    let first = made_at k own x.protocol x.edge i j f (ap (λ y. y.edge) same ∙ edge) (ap (λ y. y.protocol) same ∙ protocol) in
    (0, k, ap (λ o. slice_get (cons_option o (diagonals (suc k) entries)) 0) first)
listed own i j f k (x ∷ entries) (suc n) e at edge protocol =
    let rest = listed own i j f (suc k) entries n e at edge protocol in
    let on = one_further (diagonal_at k x.protocol x.edge) (diagonals (suc k) entries) rest.0 (made i.0 j.0 rest.1 own) rest.2 in
    (on.0, rest.1, on.1)

pub diagonals_listed : DiagonalsListed
unfolding made
diagonals_listed cat entries n e i j f own at edge protocol =
    let l = listed own i j f 0 entries n e at edge protocol in
    record { place = l.0; diagonal = made i.0 j.0 l.1 own; at = l.2; reader_is = refl; writer_is = refl; own_is = refl }
