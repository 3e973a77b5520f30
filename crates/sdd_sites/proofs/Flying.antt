-- Packets that are in flight, read from their spellings.
use Rattle.sdd_sites.proofs.All.{Ack, All, All-head, All-tail, AllByRecursion, AllPut, Call, Carries, Directions, Err, FitsMsg, IfOk, IsOf, IsPacketSpelling, Kept, List, Message, Msg, NoMemory, None, Ok, Option, Packet, PacketFits, Result, Site, Some, [], add-one, ap, append-nil, append_assoc, arith, drop, is_link, length, link, map, map-append, packet_as, refl, slice_get, sound, spelled, subst, suc, sym, true, zero, ℕ, ◌++◌, ◌+◌, ◌-◌, ◌<◌, ◌∙◌, ◌∷◌, ◌≡◌}
use Rattle.sdd_sites.proofs.Fitting.{sent_fit}
use Rattle.sdd_sites.proofs.ReadMessages.{same_message}

some_is : {A : Type 0} (x y : A) → Some x ≡ Some y → x ≡ y
some_is x y e = cc

-- what stands at a place

pub at_place : {A : Type 0} (P : A → Type 0) (xs : List A) (i : ℕ) (x : A) → AllByRecursion P xs → Some x ≡ slice_get xs i → P x
at_place P [] i x h e = absurd cc
at_place P (y ∷ xs) zero x h e = subst P (sym (some_is x y e)) h.0
at_place P (y ∷ xs) (suc i) x h e = at_place P xs i x h.1 e

pub below : {A : Type 0} (xs : List A) (i : ℕ) (x : A) → Some x ≡ slice_get xs i → i < length xs
below [] i x e = absurd cc
below (y ∷ xs) zero x e = omega arith
below (y ∷ xs) (suc i) x e = let b = below xs i x e in omega (arith, b)

drop_here : {A : Type 0} (xs : List A) (i : ℕ) (x : A) → Some x ≡ slice_get xs i → drop i xs ≡ x ∷ drop (suc i) xs
drop_here [] i x e = absurd cc
drop_here {A = A} (y ∷ xs) zero x e = ap (λ (z : A). z ∷ xs) (sym (some_is x y e))
drop_here (y ∷ xs) (suc i) x e = drop_here xs i x e

drop_past : {A : Type 0} (xs : List A) (i : ℕ) → ◌≡◌ {A = Option A} None (slice_get xs i) → drop i xs ≡ []
drop_past [] zero e = refl
drop_past [] (suc i) e = refl
drop_past (y ∷ xs) zero e = absurd cc
drop_past (y ∷ xs) (suc i) e = drop_past xs i e

packet_fits : (sent : List Msg) (k : ℕ) (p : Packet Msg) → AllByRecursion FitsMsg sent → IsOf sent k p → PacketFits p
packet_fits sent k (Message n m) h o = at_place FitsMsg sent (n - 1) m h (sym o.1)
packet_fits sent k (Ack j) h o = tt

packets_fit : (sent : List Msg) (k : ℕ) (ps : List (Packet Msg)) → AllByRecursion FitsMsg sent → All (IsOf sent k) ps → AllByRecursion PacketFits ps
packets_fit sent k [] h a = tt
packets_fit sent k (p ∷ ps) h a = (packet_fits sent k p h (All-head (IsOf sent k) p ps a), packets_fit sent k ps h (All-tail (IsOf sent k) p ps a))

-- what is in flight on a link fits
pub flight_fits : (a b : Site) (calls : List (Call Msg)) → AllPut FitsMsg calls → AllByRecursion PacketFits (link a b calls).there.flight
flight_fits a b calls h = packets_fit (link a b calls).there.sent _ (link a b calls).there.flight (sent_fit FitsMsg a b calls h).0 (sound a b calls).there.packets

spells_one : (p : Packet Msg) → PacketFits p → IsPacketSpelling (packet_as spelled p)
spells_one (Message n m) h = (m, h, refl)
spells_one (Ack k) h = tt

pub spells_all : (ps : List (Packet Msg)) → AllByRecursion PacketFits ps → AllByRecursion IsPacketSpelling (map (packet_as spelled) ps)
spells_all [] h = tt
spells_all (p ∷ ps) h = (spells_one p h.0, spells_all ps h.1)

each_drop : (P : Packet Msg → Type 0) (n : ℕ) (ps : List (Packet Msg)) → AllByRecursion P ps → AllByRecursion P (drop n ps)
each_drop P zero ps h = h
each_drop P (suc n) [] h = tt
each_drop P (suc n) (p ∷ ps) h = each_drop P n ps h.1

message_is : (n k : ℕ) (x y : List ℕ) → ◌≡◌ {A = Packet (List ℕ)} (Message n x) (Message k y) → x ≡ y
message_is n k x y e = cc

number_is : (n k : ℕ) (x y : List ℕ) → ◌≡◌ {A = Packet (List ℕ)} (Message n x) (Message k y) → n ≡ k
number_is n k x y e = cc

upto_is : (j k : ℕ) → ◌≡◌ {A = Packet (List ℕ)} (Ack j) (Ack k) → j ≡ k
upto_is j k e = cc

same_packet : (p q : Packet Msg) → PacketFits p → PacketFits q → packet_as spelled p ≡ packet_as spelled q → p ≡ q
same_packet (Message n m) (Message k l) f h e =
    (λ j. Message (number_is n k (spelled m) (spelled l) e j) (same_message m l f h (message_is n k (spelled m) (spelled l) e) j))
same_packet (Ack j) (Ack k) f h e = ap (λ i. Ack i) (upto_is j k e)
same_packet _ _ f h e = absurd cc

-- only these packets have these spellings
same_packets : (ps qs : List (Packet Msg)) → AllByRecursion PacketFits ps → AllByRecursion PacketFits qs
    → map (packet_as spelled) ps ≡ map (packet_as spelled) qs → ps ≡ qs
same_packets [] [] f h e = refl
same_packets (p ∷ ps) (q ∷ qs) f h e =
    let head : packet_as spelled p ≡ packet_as spelled q = cc in
    let tail : map (packet_as spelled) ps ≡ map (packet_as spelled) qs = cc in
    rw (same_packet p q f.0 h.0 head, same_packets ps qs f.1 h.1 tail) refl
same_packets _ _ f h e = absurd cc

map_drop : (n : ℕ) (ps : List (Packet Msg)) → map (packet_as spelled) (drop n ps) ≡ drop n (map (packet_as spelled) ps)
map_drop (suc n) (p ∷ ps) = map_drop n ps
map_drop _ _ = refl

fits_end : (ps : List (Packet Msg)) (p : Packet Msg) → AllByRecursion PacketFits ps → PacketFits p → AllByRecursion PacketFits (ps ++ p ∷ [])
fits_end [] p h k = (k, tt)
fits_end (q ∷ ps) p h k = (h.0, fits_end ps p h.1 k)

-- one packet more is read
pub packet_read : (flying : List (Packet (List ℕ))) (count place : ℕ) (ps more : List (Packet Msg)) (bytes : Packet (List ℕ)) (p : Packet Msg)
    → Some bytes ≡ slice_get flying place → bytes ≡ packet_as spelled p → more ≡ ps ++ p ∷ []
    → drop count flying ≡ map (packet_as spelled) ps ++ drop place flying
    → drop count flying ≡ map (packet_as spelled) more ++ drop (place + 1) flying
packet_read flying count place ps more bytes p here is grown before =
    let rest : List (Packet (List ℕ)) = drop (place + 1) flying in
    let next : drop place flying ≡ packet_as spelled p ∷ rest =
    drop_here flying place bytes here
    ∙ ap (λ (n : ℕ). bytes ∷ drop n flying) (sym (add-one place))
    ∙ ap (λ (b : Packet (List ℕ)). b ∷ rest) is in
    before
    ∙ ap (λ (l : List (Packet (List ℕ))). map (packet_as spelled) ps ++ l) next
    ∙ sym (append_assoc (map (packet_as spelled) ps) (packet_as spelled p ∷ []) rest)
    ∙ ap (λ (l : List (Packet (List ℕ))). l ++ rest) (sym (map-append (packet_as spelled) ps (p ∷ [])))
    ∙ ap (λ (l : List (Packet Msg)). map (packet_as spelled) l ++ rest) (sym grown)

pub fits_more : (ps more : List (Packet Msg)) (p : Packet Msg) → more ≡ ps ++ p ∷ [] → AllByRecursion PacketFits ps → PacketFits p
    → AllByRecursion PacketFits more
fits_more ps more p grown h k = subst (λ (l : List (Packet Msg)). AllByRecursion PacketFits l) (sym grown) (fits_end ps p h k)

-- all are read
pub all_read : (flying : List (Packet (List ℕ))) (count place : ℕ) (ps all : List (Packet Msg))
    → ◌≡◌ {A = Option (Packet (List ℕ))} None (slice_get flying place) → all ≡ ps
    → drop count flying ≡ map (packet_as spelled) ps ++ drop place flying
    → drop count flying ≡ map (packet_as spelled) all
all_read flying count place ps all past same before =
    before
    ∙ ap (λ (l : List (Packet (List ℕ))). map (packet_as spelled) ps ++ l) (drop_past flying place past)
    ∙ append-nil (map (packet_as spelled) ps)
    ∙ ap (λ (l : List (Packet Msg)). map (packet_as spelled) l) (sym same)

-- what is read after so many packets of a flight of spellings is what stands after so many packets of the link
pub opened_behind : (net : Kept (Directions (List ℕ))) (a b : Site) (count : ℕ) (flying : List (Packet (List ℕ))) (r : Result (List (Packet Msg)) NoMemory)
    → ((tms dms : ℕ) (calls : List (Call Msg)) → Carries net tms dms calls → is_link tms dms a b ≡ true
    → flying ≡ map (packet_as spelled) (link a b calls).there.flight)
    → IfOk r (λ ps. drop count flying ≡ map (packet_as spelled) ps) → IfOk r (λ ps. AllByRecursion PacketFits ps)
    → IfOk r (λ ps. (tms dms : ℕ) (calls : List (Call Msg)) → Carries net tms dms calls → is_link tms dms a b ≡ true
    → ps ≡ drop count (link a b calls).there.flight)
opened_behind net a b count flying (Err e) m s f = tt
opened_behind net a b count flying (Ok ps) m s f = λ tms dms calls carries linked.
    let flight = (link a b calls).there.flight in
    same_packets ps (drop count flight) f (each_drop PacketFits count flight (flight_fits a b calls carries.fit))
    (sym s ∙ ap (λ xs. drop count xs) (m tms dms calls carries linked) ∙ sym (map_drop count flight))
