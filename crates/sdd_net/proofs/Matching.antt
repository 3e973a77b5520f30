-- Each step of a channel is the step of the way for which it stands.
use Rattle.sdd_net.proofs.All.{AreSent, Bool, Receives, receives, Channel, HasReceived, IfOk, IsTrue, Kept, List, Matches, Message, None, OnOk, OnSome, Option, Packet, Result, Some, Way, [], acknowledged, ap, arith, drop, drop-append-le, drop-drop, is_empty, last_number, length, length-drop, max, nat_lt, nat_tests, not, numbered, received, slice_get, subst, suc, sym, true, unacked, without_at, ℕ, ◌++◌, ◌+◌, ◌-◌, ◌∙◌, ◌∷◌, ◌≡◌, ◌≤◌}
use Rattle.sdd_net.proofs.Lists.{get-append, without-past}

module _ {M : Type 0} where
  -- what a sender keeps is what was sent and is not acknowledged
  pub acked_is : (c : Channel M) (w : Way M) → Matches c w → c.sender.value.acked ≡ w.acked
  acked_is c w h = ap (λ s. s.value.acked) h.sender

  pub unacked_is : (c : Channel M) (w : Way M) → Matches c w → c.sender.value.unacked ≡ drop w.acked w.sent
  unacked_is c w h = ap (λ s. s.value.unacked) h.sender

  pub flight_is : (c : Channel M) (w : Way M) → Matches c w → c.flight.value ≡ w.flight
  flight_is c w h = ap (λ f. f.value) h.flight

  pub unacked_count : (c : Channel M) (w : Way M) → Matches c w
      → length c.sender.value.unacked ≡ length w.sent - w.acked
  unacked_count c w h = ap length (unacked_is c w h) ∙ length-drop w.acked w.sent

  pub last_number_is : (c : Channel M) (w : Way M) → w.acked ≤ length w.sent → Matches c w
      → last_number c.sender.value ≡ length w.sent
  last_number_is c w l h = omega (arith, acked_is c w h, unacked_count c w h)

  are_sent_more : (sent more : List M) (early : List (ℕ × M)) → AreSent sent early → AreSent (sent ++ more) early
  are_sent_more sent more [] h = tt
  are_sent_more sent more ((n, m) ∷ rest) h = (get-append sent more (n - 1) m h.0, are_sent_more sent more rest h.1)

  pub put_matches : (c d : Channel M) (w : Way M) (m : M) → w.acked ≤ length w.sent → Matches c w
      → d.sender ≡ record { live = true; value = record c.sender.value { unacked = c.sender.value.unacked ++ m ∷ [] } }
      → d.flight ≡ record { live = true; value = c.flight.value ++ Message (last_number c.sender.value + 1) m ∷ [] }
      → d.receiver ≡ c.receiver
      → Matches d (record w { sent = w.sent ++ m ∷ []; flight = w.flight ++ Message (length w.sent + 1) m ∷ [] })
  put_matches c d w m l h s f r = grind (arith, acked_is, unacked_is, drop-append-le, flight_is, last_number_is, are_sent_more)

  -- where only the flight changes
  pub flight_matches : (c d : Channel M) (w : Way M) (flight : List (Packet M)) → Matches c w
      → d.sender ≡ c.sender → d.flight ≡ record { live = true; value = flight }
      → d.receiver ≡ c.receiver → Matches d (record w { flight = flight })
  flight_matches c d w flight h s f r = grind (arith, nat_tests)

  numbered-drop : (n k : ℕ) (ms : List M) → drop n (numbered k ms) ≡ numbered (k + n) (drop n ms)
  numbered-drop (suc n) k (m ∷ ms) = numbered-drop n (k + 1) ms ∙ ap (λ j. numbered j (drop n ms)) (omega arith)
  numbered-drop _ k _ = grind (arith, nat_tests)

  -- the packets of a resend are those of what the sender keeps
  pub resent_is : (c : Channel M) (w : Way M) → Matches c w
      → numbered c.sender.value.acked c.sender.value.unacked ≡ unacked w
  resent_is c w h = rw (acked_is c w h, unacked_is c w h) (sym (numbered-drop w.acked 0 w.sent ∙ ap (λ j. numbered j (drop w.acked w.sent)) (omega arith)))

  pub not_empty : (xs : List M) (a n : ℕ) → length xs ≡ n - a → not (is_empty xs) ≡ nat_lt a n
  not_empty xs a n e = grind (arith, nat_tests)

  pub acked_matches : (c d : Channel M) (w : Way M) (k : ℕ) → Matches c w
      → d.sender ≡ record { live = true; value = acknowledged k c.sender.value }
      → d.flight ≡ c.flight → d.receiver ≡ c.receiver → Matches d (record w { acked = max w.acked k })
  acked_matches c d w k h s f r = grind (arith, nat_tests, acked_is, unacked_is, drop-drop)

  pub message_received : (c : Channel M) (w : Way M) (n : ℕ) (m : M) → 1 ≤ n
      → slice_get w.sent (n - 1) ≡ Some m → Matches c w → Receives n m w.arrived w.sent c.receiver.value
  message_received c w n m one is h = receives n m w.arrived w.sent c.receiver.value one is h.received

  pub received_matches : (c d : Channel M) (w : Way M) (n : ℕ) (m : M) → 1 ≤ n
      → slice_get w.sent (n - 1) ≡ Some m → Matches c w
      → d.sender ≡ c.sender → d.flight ≡ c.flight → d.receiver ≡ record { live = true; value = received n m c.receiver.value }
      → Matches d (record w { arrived = n ∷ w.arrived })
  received_matches c d w n m one is h s f r =
      record {
        sender = s ∙ h.sender;
        flight = f ∙ h.flight;
        receiver_live = ap (λ x. x.live) r;
        received = subst (λ x. HasReceived x.value (n ∷ w.arrived) w.sent) (sym r) (message_received c w n m one is h).represents;
      }

  -- something is unacknowledged
  pub some_unacked : (c : Channel M) (w : Way M) (some : Bool) → Matches c w
      → some ≡ not (is_empty c.sender.value.unacked) → some ≡ nat_lt w.acked (length w.sent)
  some_unacked c w some h e = e ∙ not_empty c.sender.value.unacked w.acked (length w.sent) (unacked_count c w h)

  -- what is left of a flight, whether or not there was a packet at the place
  pub left_is : (result : Option (Packet M)) (old new : Kept (List (Packet M))) (k : ℕ)
      → result ≡ slice_get old.value k → OnSome result (new ≡ record { live = true; value = without_at old.value k }) →
      (result ≡ None → new ≡ old) → IsTrue old.live
      → new ≡ record { live = true; value = without_at old.value k }
  left_is result old new k e some none live = grind (arith, without-past)

-- what two facts about a result that is Ok lead to
pub on_both : {T E : Type 0} (r : Result T E) (A B C : Type 0) → OnOk r A → OnOk r B → (A → B → C) → OnOk r C
on_both r A B C a b f = grind (arith, nat_tests)

pub if_on : {T E : Type 0} (r : Result T E) (A : T → Type 0) (B : T → Type 0) → IfOk r A
    → ((x : T) → A x → B x) → IfOk r B
if_on r A B a f = grind (arith, nat_tests)
