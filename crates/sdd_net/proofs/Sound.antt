-- What holds of every link, whatever calls were made.
use Rattle.sdd_net.proofs.All.{top_is, top_rises, Ack, All, All-append, All-cons, All-drop, All-nil, All-push, All-weaker, Call, Delivers, IsNumber, IsOf, IsSoundLink, IsSoundWay, Link, List, Loses, Message, None, Packet, Puts, Repeats, Resends, Site, Some, Way, [], arith, arrives, deliver, delivered, length, length-append, link, lose, nat_tests, numbered, on_link, packet_at, put, refl, repeat, resend, slice_get, slice_get_within, suc, top, turned, unacked, unused, with_packet, without_at, without_packet, zero, ℕ, ◌++◌, ◌+◌, ◌-◌, ◌<◌, ◌∷◌, ◌≡◌, ◌≤◌}
use Rattle.sdd_net.proofs.Lists.{All-without_at, All-at, All-among, get-append, get-last}

-- what is delivered was sent
pub top_le : (P : ℕ → Type 0) (ns : List ℕ) (b : ℕ) → ((n : ℕ) → P n → n ≤ b) → All P ns → top ns ≤ b
top_le P ns b f h =
    elim (top ns) as (λ k. top ns ≡ k → k ≤ b) [
      | zero ↦ λ e. omega arith
      | suc k ↦ λ e. f (suc k) (All-among P ns (suc k) ((top_is ns).0 k (omega arith)) h)
    ] refl

pub delivered_le : {M : Type 0} (w : Way M) (back : ℕ) → IsSoundWay w back → delivered w ≤ length w.sent
delivered_le w back h = top_le (IsNumber w.sent) w.arrived (length w.sent) (λ n i. i.1) h.numbers

-- where more was sent and more is acknowledged, packets stay right
more_packet : {M : Type 0} (sent more : List M) (j k : ℕ) → j ≤ k → (p : Packet M) → IsOf sent j p
    → IsOf (sent ++ more) k p
more_packet sent more j k l p h = grind (arith, get-append)

more_acks : {M : Type 0} (sent : List M) (j k : ℕ) → j ≤ k → (p : Packet M) → IsOf sent j p → IsOf sent k p
more_acks sent j k l p h = grind (arith, nat_tests)

more_numbers : {M : Type 0} (sent : List M) (m : M) → (n : ℕ) → IsNumber sent n → IsNumber (sent ++ m ∷ []) n
more_numbers sent m n h = (h.0, grind (arith, length-append))

with_flight : {M : Type 0} (w : Way M) (back : ℕ) (flight : List (Packet M)) → IsSoundWay w back
    → All (IsOf w.sent back) flight → IsSoundWay (record w { flight = flight }) back
with_flight w back flight h k = record { packets = k; numbers = h.numbers; acked = h.acked }

-- the packets of a resend
numbered_of : {M : Type 0} (sent : List M) (j k : ℕ) (ms : List M)
    → ((i : ℕ) (x : M) → slice_get ms i ≡ Some x → slice_get sent (k + i) ≡ Some x) → All (IsOf sent j) (numbered k ms)
numbered_of sent j k [] f = All-nil (IsOf sent j)
numbered_of {M = M} sent j k (m ∷ ms) f =
    All-cons (IsOf sent j) (Message (k + 1) m) (numbered (k + 1) ms)
    (omega arith, let at : k + 0 ≡ k + 1 - 1 = omega arith in rw at at (f 0 m refl))
    (numbered_of sent j (k + 1) ms (λ i x e. let at : k + suc i ≡ k + 1 + i = omega arith in rw at at (f (suc i) x e)))

put_sound : {M : Type 0} (m : M) (l : Link M) → IsSoundLink l → IsSoundLink (put m l)
put_sound m l h = record {
  there = record {
    packets =
        All-push (IsOf (l.there.sent ++ m ∷ []) (delivered l.back)) l.there.flight (Message (length l.there.sent + 1) m)
        (grind (arith, delivered, more_packet))
        (omega arith, let at : length l.there.sent ≡ length l.there.sent + 1 - 1 = omega arith in rw at at (get-last l.there.sent m));
    numbers =
        All-weaker (IsNumber l.there.sent) (IsNumber (l.there.sent ++ m ∷ [])) (more_numbers l.there.sent m)
        l.there.arrived h.there.numbers;
    acked = h.there.acked;
  };
  back = h.back;
}

without_sound : {M : Type 0} (place : ℕ) (l : Link M) → IsSoundLink l → IsSoundLink (without_packet place l)
without_sound place l h =
    record { there = with_flight l.there (delivered l.back) (without_at l.there.flight (place - 1)) h.there (All-without_at (IsOf l.there.sent (delivered l.back)) (place - 1) l.there.flight h.there.packets); back = h.back }

arrives_sound : {M : Type 0} (p : Packet M) (l : Link M) → IsOf l.there.sent (delivered l.back) p
    → IsSoundLink l → IsSoundLink (arrives p l)
arrives_sound {M = M} (Message n m) l of h =
    let rises : delivered l.there ≤ top (n ∷ l.there.arrived) = top_rises n l.there.arrived in
    let within : n - 1 < length l.there.sent = slice_get_within l.there.sent (n - 1) m of.1 in
    record {
      there = record { packets = h.there.packets; numbers = All-cons (IsNumber l.there.sent) n l.there.arrived (of.0, omega arith) h.there.numbers; acked = omega (arith, h.there.acked) };
      back = record {
        packets =
            All-push (IsOf l.back.sent (top (n ∷ l.there.arrived))) l.back.flight (Ack (top (n ∷ l.there.arrived)))
            (grind (arith, delivered, top, more_acks))
            (omega arith);
        numbers = h.back.numbers;
        acked = h.back.acked;
      };
    }
arrives_sound (Ack k) l of h = grind arith

-- a call on a packet keeps it, if what is done with the packet does
at_packet : {M : Type 0} (place : ℕ) (f : Packet M → Link M) (l : Link M) → IsSoundLink l
    → ((p : Packet M) → IsOf l.there.sent (delivered l.back) p → IsSoundLink (f p))
    → IsSoundLink (with_packet (packet_at place l) f l)
at_packet {M = M} place f l h k =
    elim (packet_at place l) as (λ o. packet_at place l ≡ o → IsSoundLink (with_packet o f l)) [
      | None ↦ λ e. h
      | Some p ↦ λ e. k p (All-at (IsOf l.there.sent (delivered l.back)) l.there.flight (place - 1) p e h.there.packets)
    ] refl

deliver_sound : {M : Type 0} (place : ℕ) (l : Link M) → IsSoundLink l → IsSoundLink (deliver place l)
deliver_sound place l h =
    at_packet place (λ p. arrives p (without_packet place l)) l h (λ p of. arrives_sound p (without_packet place l) of (without_sound place l h))

lose_sound : {M : Type 0} (place : ℕ) (l : Link M) → IsSoundLink l → IsSoundLink (lose place l)
lose_sound place l h = at_packet place (λ p. without_packet place l) l h (λ p of. without_sound place l h)

repeat_sound : {M : Type 0} (place : ℕ) (l : Link M) → IsSoundLink l → IsSoundLink (repeat place l)
repeat_sound place l h =
    at_packet place (λ p. record l { there = record l.there { flight = l.there.flight ++ p ∷ [] } }) l h
    (λ p of. record { there = with_flight l.there (delivered l.back) (l.there.flight ++ p ∷ []) h.there (All-push (IsOf l.there.sent (delivered l.back)) l.there.flight p h.there.packets of); back = h.back })

resend_sound : {M : Type 0} (l : Link M) → IsSoundLink l → IsSoundLink (resend l)
resend_sound l h = record {
  there = with_flight l.there (delivered l.back) (l.there.flight ++ unacked l.there) h.there
      (All-append (IsOf l.there.sent (delivered l.back)) l.there.flight (unacked l.there) h.there.packets
      (All-drop (IsOf l.there.sent (delivered l.back)) l.there.acked (numbered 0 l.there.sent)
      (numbered_of l.there.sent (delivered l.back) 0 l.there.sent (λ i x e. let at : i ≡ 0 + i = omega arith in rw at at e))));
  back = h.back;
}

turned_sound : {M : Type 0} (l : Link M) → IsSoundLink l → IsSoundLink (turned l)
turned_sound l h = record { there = h.back; back = h.there }

on_link_sound : {M : Type 0} (a b from to : Site) (f : Link M → Link M) (l : Link M)
    → ((k : Link M) → IsSoundLink k → IsSoundLink (f k)) → IsSoundLink l → IsSoundLink (on_link a b from to f l)
on_link_sound a b from to f l h i = (grind (arith, turned_sound))

unused_sound : {M : Type 0} → IsSoundWay {M = M} unused 0
unused_sound {M = M} = grind arith

pub sound : {M : Type 0} (a b : Site) (calls : List (Call M)) → IsSoundLink (link a b calls)
sound a b [] = record { there = unused_sound; back = unused_sound }
sound a b (Puts from to m ∷ calls) = on_link_sound a b from to (put m) (link a b calls) (put_sound m) (sound a b calls)
sound a b (Delivers from to place ∷ calls) = on_link_sound a b from to (deliver place) (link a b calls) (deliver_sound place) (sound a b calls)
sound a b (Loses from to place ∷ calls) = on_link_sound a b from to (lose place) (link a b calls) (lose_sound place) (sound a b calls)
sound a b (Repeats from to place ∷ calls) = on_link_sound a b from to (repeat place) (link a b calls) (repeat_sound place) (sound a b calls)
sound a b (Resends from to ∷ calls) = on_link_sound a b from to resend (link a b calls) resend_sound (sound a b calls)
