-- What an event is about to find, and then what it found.
use Rattle.sdd_watch.proofs.All.{Ack, Bool, Deliver, Down, Event, Found, List, Log, Lose, Message, Msg, None, Option, Packet, Repeat, Resend, Site, Some, Taken, Up, [], ap, arrived_by, arrived_of, drop, false, foresee_act, foresee_take, foreseen_by, found_by, is_down, is_empty, is_some, link_of, lost_by, map, not, numbered, option_map, packet_as, packet_at, refl, slice_get, slice_get-map, something_if, suc, sym, taken, taken_at, true, unacked, zero, ℕ, ◌+◌, ◌∙◌, ◌∷◌, ◌≡◌}
use Rattle.sdd_inside.specs.declared.delta.Found.TheVariants as founds
use Rattle.sdd_watch.specs.declared.foreseen.Foreseen.TheVariants as foreseens

-- a packet of spellings

spelled_taken : (f : Msg → List ℕ) (p : Packet Msg) → taken (packet_as f p) ≡ taken p
spelled_taken f (Message n m) = refl
spelled_taken f (Ack upto) = refl

option_taken : (f : Msg → List ℕ) (o : Option (Packet Msg)) → option_map taken (option_map (packet_as f) o) ≡ option_map taken o
option_taken f None = refl
option_taken f (Some p) = ap Some (spelled_taken f p)

pub taken_spelled : (f : Msg → List ℕ) (ps : List (Packet Msg)) (place : ℕ) (o : Option (Packet (List ℕ))) → o ≡ slice_get (map (packet_as f) ps) place
    → option_map taken o ≡ taken_at (slice_get ps place)
taken_spelled f ps place o is = ap (option_map taken) (is ∙ slice_get-map (packet_as f) ps place) ∙ option_taken f (slice_get ps place)

pub some_taken : (o : Option (Packet Msg)) → is_some (taken_at o) ≡ is_some o
some_taken None = refl
some_taken (Some p) = refl

-- what is unacknowledged

pub none_unacked : (f : Msg → List ℕ) (n k : ℕ) (ms : List Msg) → is_empty (drop n (map f ms)) ≡ is_empty (drop n (numbered k ms))
none_unacked f n k [] = none n
  where
    none : (n : ℕ) → is_empty (drop {A = List ℕ} n []) ≡ is_empty (drop {A = Packet Msg} n [])
    none zero = refl
    none (suc n) = refl
none_unacked f zero k (m ∷ ms) = refl
none_unacked f (suc n) k (m ∷ ms) = none_unacked f n (k + 1) ms

-- nothing

nothing_taken : (o : Option (Packet Msg)) (f : Found) → (o ≡ None → f ≡ founds.Nothing) → foreseens.Nothing ≡ foresee_take (taken_at o) → founds.Nothing ≡ f
nothing_taken None f is e = sym (is refl)
nothing_taken (Some p) f is e = absurd cc

nothing_done : (b : Bool) → foreseens.Nothing ≡ foresee_act b → founds.Nothing ≡ something_if b
nothing_done true e = absurd cc
nothing_done false e = refl

pub nothing_found : (e : Event) (old new : Log) → foreseens.Nothing ≡ foreseen_by e old → founds.Nothing ≡ found_by e old new
nothing_found (Deliver a b k) old new e =
    let o : Option (Packet Msg) = packet_at k (link_of a b old) in
    nothing_taken o (arrived_by a b o new) (λ is. ap (λ x. arrived_by a b x new) is) e
nothing_found (Lose a b k) old new e =
    let o : Option (Packet Msg) = packet_at k (link_of a b old) in
    nothing_taken o (lost_by o) (λ is. ap lost_by is) e
nothing_found (Repeat a b k) old new e = nothing_done (is_some (packet_at k (link_of a b old))) e
nothing_found (Resend a b) old new e = nothing_done (not (is_empty (unacked (link_of a b old).there))) e
nothing_found (Down at) old new e = nothing_done (not (is_down at old)) e
nothing_found (Up at) old new e = nothing_done (is_down at old) e
nothing_found _ old new e = absurd cc

-- something that is done

something_taken : (o : Option (Packet Msg)) → foreseens.Something ≡ foresee_take (taken_at o) → ⊥
something_taken None e = cc
something_taken (Some p) e = cc

something_done : (b : Bool) → foreseens.Something ≡ foresee_act b → founds.Something ≡ something_if b
something_done true e = refl
something_done false e = absurd cc

pub something_found : (e : Event) (old new : Log) → foreseens.Something ≡ foreseen_by e old → founds.Something ≡ found_by e old new
something_found (Deliver a b k) old new e = absurd (something_taken (packet_at k (link_of a b old)) e)
something_found (Lose a b k) old new e = absurd (something_taken (packet_at k (link_of a b old)) e)
something_found (Repeat a b k) old new e = something_done (is_some (packet_at k (link_of a b old))) e
something_found (Resend a b) old new e = something_done (not (is_empty (unacked (link_of a b old).there))) e
something_found (Down at) old new e = something_done (not (is_down at old)) e
something_found (Up at) old new e = something_done (is_down at old) e
something_found _ old new e = refl

-- a packet

taken_is : (o : Option (Packet Msg)) (p : Taken) (F : Taken → Found) (f : Found) → ((q : Packet Msg) → o ≡ Some q → f ≡ F (taken q))
    → foreseens.Takes p ≡ foresee_take (taken_at o) → F p ≡ f
taken_is None p F f is e = absurd cc
taken_is (Some q) p F f is e =
    let same : p ≡ taken q = cc in
    ap F same ∙ sym (is q refl)

pub delivery_found : (a b : Site) (k : ℕ) (p : Taken) (old new : Log) → foreseens.Takes p ≡ foreseen_by (Deliver a b k) old
    → arrived_of a b p new ≡ found_by (Deliver a b k) old new
delivery_found a b k p old new e =
    let o : Option (Packet Msg) = packet_at k (link_of a b old) in
    taken_is o p (λ q. arrived_of a b q new) (arrived_by a b o new) (λ q is. ap (λ x. arrived_by a b x new) is) e

not_done : (b : Bool) (p : Taken) → foreseens.Takes p ≡ foresee_act b → ⊥
not_done true p e = cc
not_done false p e = cc

pub loss_found : (e : Event) (p : Taken) (old new : Log) → ((a b : Site) (k : ℕ) → e ≡ Deliver a b k → ⊥) → foreseens.Takes p ≡ foreseen_by e old
    → founds.Lost p ≡ found_by e old new
loss_found (Deliver a b k) p old new other e = absurd (other a b k refl)
loss_found (Lose a b k) p old new other e =
    let o : Option (Packet Msg) = packet_at k (link_of a b old) in
    taken_is o p founds.Lost (lost_by o) (λ q is. ap lost_by is) e
loss_found (Repeat a b k) p old new other e = absurd (not_done (is_some (packet_at k (link_of a b old))) p e)
loss_found (Resend a b) p old new other e = absurd (not_done (not (is_empty (unacked (link_of a b old).there))) p e)
loss_found (Down at) p old new other e = absurd (not_done (not (is_down at old)) p e)
loss_found (Up at) p old new other e = absurd (not_done (is_down at old) p e)
loss_found _ p old new other e = absurd cc

-- the other events do what they say
pub otherwise_done : (e : Event) (log : Log) → ((a b : Site) (k : ℕ) → e ≡ Deliver a b k → ⊥) → ((a b : Site) (k : ℕ) → e ≡ Lose a b k → ⊥)
    → ((a b : Site) (k : ℕ) → e ≡ Repeat a b k → ⊥) → ((a b : Site) → e ≡ Resend a b → ⊥) → ((at : Site) → e ≡ Down at → ⊥) → ((at : Site) → e ≡ Up at → ⊥)
    → foreseens.Something ≡ foreseen_by e log
otherwise_done (Deliver a b k) log l m n o p q = absurd (l a b k refl)
otherwise_done (Lose a b k) log l m n o p q = absurd (m a b k refl)
otherwise_done (Repeat a b k) log l m n o p q = absurd (n a b k refl)
otherwise_done (Resend a b) log l m n o p q = absurd (o a b refl)
otherwise_done (Down at) log l m n o p q = absurd (p at refl)
otherwise_done (Up at) log l m n o p q = absurd (q at refl)
otherwise_done _ log l m n o p q = refl
