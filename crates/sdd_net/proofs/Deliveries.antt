-- A delivery, step by step.
use Rattle.sdd_net.proofs.All.{Ack, Acked, ArePair, Changes, ChangesPair, Channel, FitsWay, IsLive, IsLiveAt, IsOf, IsSoundLink, IsSoundWay, Link, List, Matches, Message, Messages, None, Nothing, Option, Packet, Some, Way, [], ap, arith, deliver, delivered, delivery, length, nat_tests, newly_delivered, packet_at, refl, sent_by, slice_get, subst, sym, with_ack, with_arrival, with_flight, without_at, ℕ, ◌++◌, ◌-◌, ◌∷◌, ◌≡◌, ◌≢◌, ◌≤◌}
use Rattle.sdd_net.proofs.Lists.{All-at, without-past}
use Rattle.sdd_net.proofs.Matching.{last_number_is}
use Rattle.sdd_net.proofs.Sound.{delivered_le}

module _ {M : Type 0} where
  matches_live : (c : Channel M) (w : Way M) → Matches c w → IsLive c
  matches_live c w h = record { sender = ap (λ s. s.live) h.sender; flight = ap (λ f. f.live) h.flight; receiver = h.receiver_live }

  pub fits_live : (o : Option (Channel M)) (w : Way M) → FitsWay o w → IsLiveAt o
  fits_live o w h = grind (arith, nat_tests)

  pub sent_of : (o : Option (Channel M)) (w : Way M) → w.acked ≤ length w.sent → FitsWay o w → sent_by o ≡ length w.sent
  sent_of o w l h = grind (arith, last_number_is)

  -- what a change on one direction leaves of another
  pub stays : (old new : List (Channel M)) (at other : ℕ) (w v : Way M) → Changes old new at w
      → other ≢ at → FitsWay (slice_get old other) v → FitsWay (slice_get new other) v
  stays old new at other w v h ne f = subst (λ o. FitsWay o v) (sym (h.others other ne)) f

  -- a packet in flight is right
  pub packet_is_of : (l : Link M) (k : ℕ) (p : Packet M) → slice_get l.there.flight k ≡ Some p
      → IsSoundLink l → IsOf l.there.sent (delivered l.back) p
  packet_is_of l k p e h = All-at (IsOf l.there.sent (delivered l.back)) l.there.flight k p e h.there.packets

  pub acked_le : (w : Way M) (back : ℕ) → IsSoundWay w back → w.acked ≤ length w.sent
  acked_le w back h = omega (arith, h.acked, delivered_le w back h)

  -- an acknowledgement is of what was sent
  pub ack_known : (l : Link M) (k j : ℕ) (o : Option (Channel M))
      → slice_get l.there.flight j ≡ Some (Ack k) → IsSoundLink l → FitsWay o l.back → k ≤ sent_by o
  ack_known l k j o e h f =
      let of : k ≤ delivered l.back = packet_is_of l j (Ack k) e h in
      omega (arith, delivered_le l.back (delivered l.there) h.back, sent_of o l.back (acked_le l.back (delivered l.there) h.back) f)

  pub delivers_nothing : (old new : List (Channel M)) (there back place : ℕ) (l : Link M)
      → ArePair old there back l → packet_at place l ≡ None
      → Changes old new there (with_flight (without_at l.there.flight (place - 1)) l.there) → ChangesPair old new there back (deliver place l)
  delivers_nothing old new there back place l pair e h = grind (arith, slice_get, without-past, stays)

  pub delivers_ack : (old mid new : List (Channel M)) (there back place k : ℕ) (l : Link M)
      → ArePair old there back l → packet_at place l ≡ Some (Ack k)
      → Changes old mid there (with_flight (without_at l.there.flight (place - 1)) l.there) → Changes mid new back
      (with_ack k l.back) → ChangesPair old new there back (deliver place l)
  delivers_ack old mid new there back place k l pair e h i = grind (arith, nat_tests)

  pub delivers_message : (old mid more new : List (Channel M)) (there back place n : ℕ) (m : M) (l : Link M)
      → ArePair old there back l → packet_at place l ≡ Some (Message n m)
      → Changes old mid there (with_flight (without_at l.there.flight (place - 1)) l.there)
      → Changes mid more there (with_arrival n (with_flight (without_at l.there.flight (place - 1)) l.there))
      → Changes more new back (with_flight (l.back.flight ++ Ack (delivered (with_arrival n l.there)) ∷ []) l.back)
      → ChangesPair old new there back (deliver place l)
  delivers_message old mid more new there back place n m l pair e h i j = grind (arith, nat_tests)

  pub gives_nothing : (place : ℕ) (l : Link M) → packet_at place l ≡ None → Nothing ≡ delivery place l
  gives_nothing place l e = rw e refl

  pub gives_acked : (place k : ℕ) (l : Link M) → packet_at place l ≡ Some (Ack k) → Acked ≡ delivery place l
  gives_acked place k l e = rw e refl

  pub gives_messages : (place n : ℕ) (m : M) (l : Link M) (messages : List M) → packet_at place l ≡ Some (Message n m)
      → messages ≡ newly_delivered l.there (with_arrival n l.there) → Messages messages ≡ delivery place l
  gives_messages place n m l messages e f = rw e (ap Messages f)
