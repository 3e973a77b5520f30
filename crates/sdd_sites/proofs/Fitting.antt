-- What is put on the links fits, so what they hand on does.
use Rattle.sdd_sites.proofs.All.{Ack, AllByRecursion, AllDelivered, AllPut, Bool, Call, Delivers, Link, List, Loses, Message, None, Option, Packet, Puts, Repeats, Resends, Site, Some, [], arrives, deliver, delivered, delivery, drop, false, given_by, if◌then◌else◌, link, lose, newly_delivered, on_link, packet_at, put, repeat, resend, same_site, suc, take, true, turned, with_flight, with_packet, without_packet, zero, ℕ, ◌&&◌, ◌++◌, ◌∷◌}

module _ {M : Type 0} (P : M → Type 0) where
  each_append : (xs ys : List M) → AllByRecursion P xs → AllByRecursion P ys → AllByRecursion P (xs ++ ys)
  each_append [] ys h k = k
  each_append (x ∷ xs) ys h k = (h.0, each_append xs ys h.1 k)

  each_take : (n : ℕ) (xs : List M) → AllByRecursion P xs → AllByRecursion P (take n xs)
  each_take (suc n) (x ∷ xs) h = (h.0, each_take n xs h.1)
  each_take _ _ h = tt

  each_drop : (n : ℕ) (xs : List M) → AllByRecursion P xs → AllByRecursion P (drop n xs)
  each_drop zero xs h = h
  each_drop (suc n) [] h = tt
  each_drop (suc n) (x ∷ xs) h = each_drop n xs h.1

  -- P holds of all that was put on a link and on the link back
  abbrev pub AllSent : Link M → Type 0
  AllSent l = AllByRecursion P l.there.sent × AllByRecursion P l.back.sent

  arrives_keeps : (p : Packet M) (l : Link M) → AllSent l → AllSent (arrives p l)
  arrives_keeps (Message n m) l h = h
  arrives_keeps (Ack k) l h = h

  packet_keeps : (o : Option (Packet M)) (f : Packet M → Link M) (l : Link M) → ((p : Packet M) → AllSent (f p)) → AllSent l → AllSent (with_packet o f l)
  packet_keeps None f l k h = h
  packet_keeps (Some p) f l k h = k p

  put_keeps : (m : M) (l : Link M) → P m → AllSent l → AllSent (put m l)
  put_keeps m l fit h = (each_append l.there.sent (m ∷ []) h.0 (fit, tt), h.1)

  deliver_keeps : (k : ℕ) (l : Link M) → AllSent l → AllSent (deliver k l)
  deliver_keeps k l h = packet_keeps (packet_at k l) (λ p. arrives p (without_packet k l)) l (λ p. arrives_keeps p (without_packet k l) h) h

  lose_keeps : (k : ℕ) (l : Link M) → AllSent l → AllSent (lose k l)
  lose_keeps k l h = packet_keeps (packet_at k l) (λ p. without_packet k l) l (λ p. h) h

  repeat_keeps : (k : ℕ) (l : Link M) → AllSent l → AllSent (repeat k l)
  repeat_keeps k l h = packet_keeps (packet_at k l) (λ p. record l { there = with_flight (l.there.flight ++ p ∷ []) l.there }) l (λ p. h) h

  way_keeps : (c d : Bool) (f : Link M → Link M) (l : Link M) → ((k : Link M) → AllSent k → AllSent (f k)) → AllSent l
      → AllSent (if c then f l else if d then turned (f (turned l)) else l)
  way_keeps true d f l keeps h = keeps l h
  way_keeps false true f l keeps h = let k = keeps (turned l) (h.1, h.0) in (k.1, k.0)
  way_keeps false false f l keeps h = h

  call_keeps : (a b from to : Site) (f : Link M → Link M) (l : Link M) → ((k : Link M) → AllSent k → AllSent (f k))
      → AllSent l → AllSent (on_link a b from to f l)
  call_keeps a b from to f l keeps h = way_keeps (same_site a from && same_site b to) (same_site a to && same_site b from) f l keeps h

  pub sent_fit : (a b : Site) (calls : List (Call M)) → AllPut P calls → AllSent (link a b calls)
  sent_fit a b [] h = (tt, tt)
  sent_fit a b (Puts from to m ∷ calls) h = call_keeps a b from to (put m) (link a b calls) (λ k. put_keeps m k h.0) (sent_fit a b calls h.1)
  sent_fit a b (Delivers from to k ∷ calls) h = call_keeps a b from to (deliver k) (link a b calls) (deliver_keeps k) (sent_fit a b calls h)
  sent_fit a b (Loses from to k ∷ calls) h = call_keeps a b from to (lose k) (link a b calls) (lose_keeps k) (sent_fit a b calls h)
  sent_fit a b (Repeats from to k ∷ calls) h = call_keeps a b from to (repeat k) (link a b calls) (repeat_keeps k) (sent_fit a b calls h)
  sent_fit a b (Resends from to ∷ calls) h = call_keeps a b from to resend (link a b calls) (λ k i. i) (sent_fit a b calls h)

  given_fit : (o : Option (Packet M)) (ms : List M) → AllByRecursion P ms → AllDelivered P (given_by o ms)
  given_fit (Some (Message n m)) ms h = h
  given_fit _ ms h = tt

  pub delivery_fits : (k : ℕ) (l : Link M) → AllSent l → AllDelivered P (delivery k l)
  delivery_fits k l h =
      let new = (deliver k l).there in
      given_fit (packet_at k l) (newly_delivered l.there new)
      (each_drop (delivered l.there) (take (delivered new) new.sent) (each_take (delivered new) new.sent (deliver_keeps k l h).0))
