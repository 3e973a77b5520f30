-- One map over the calls is the same map over the links, and over what their deliveries hand on.
use Rattle.sdd_log.proofs.All.{Call, Delivers, Link, List, Loses, Message, None, Option, Packet, Puts, Repeats, Resends, Site, Some, Way, [], ap, arith, arrives, call_as, deliver, delivered, delivered_as, delivery, drop, length-map, link, link_as, lose, map, map-append, numbered, on_link, packet_as, packet_at, put, refl, repeat, resend, slice_get, suc, take, with_flight, with_packet, without_packet, ℕ, ◌+◌, ◌-◌, ◌∙◌, ◌∷◌, ◌≡◌}

module _ {A B : Type 0} (f : A → B) where
  abbrev map_option : {X Y : Type 0} → (X → Y) → Option X → Option Y
  map_option h None = None
  map_option h (Some x) = Some (h x)

  get_map : {X Y : Type 0} (h : X → Y) (xs : List X) (i : ℕ) → slice_get (map h xs) i ≡ map_option h (slice_get xs i)
  get_map h (x ∷ xs) (suc i) = get_map h xs i
  get_map h _ _ = refl

  take_map : {X Y : Type 0} (h : X → Y) (n : ℕ) (xs : List X) → take n (map h xs) ≡ map h (take n xs)
  take_map h (suc n) (x ∷ xs) = ap (λ l. h x ∷ l) (take_map h n xs)
  take_map h _ _ = refl

  drop_map : {X Y : Type 0} (h : X → Y) (n : ℕ) (xs : List X) → drop n (map h xs) ≡ map h (drop n xs)
  drop_map h (suc n) (x ∷ xs) = drop_map h n xs
  drop_map h _ _ = refl

  numbered_map : (k : ℕ) (ms : List A) → numbered k (map f ms) ≡ map (packet_as f) (numbered k ms)
  numbered_map k [] = refl
  numbered_map k (m ∷ ms) = ap (λ l. Message (k + 1) (f m) ∷ l) (numbered_map (k + 1) ms)

  put_map : (m : A) (l : Link A) → put (f m) (link_as f l) ≡ link_as f (put m l)
  put_map m l = grind (arith, map-append, length-map)

  flown : (p q : List (Packet B)) (w : Way B) (back : Way B) → p ≡ q
      → ◌≡◌ {A = Link B} (record { there = with_flight p w; back = back }) (record { there = with_flight q w; back = back })
  flown p q w back e = ap (λ x. record { there = with_flight x w; back = back }) e

  without_packet_map : (k : ℕ) (l : Link A) → without_packet k (link_as f l) ≡ link_as f (without_packet k l)
  without_packet_map k l = grind (arith, flown, take_map, drop_map, map-append)

  at_packet_map : (o : Option (Packet A)) (h : Packet B → Link B) (j : Packet A → Link A) (l : Link A)
      → ((p : Packet A) → h (packet_as f p) ≡ link_as f (j p)) → with_packet (map_option (packet_as f) o) h (link_as f l) ≡ link_as f (with_packet o j l)
  at_packet_map o h j l e = grind arith

  deliver_map : (k : ℕ) (l : Link A) → deliver k (link_as f l) ≡ link_as f (deliver k l)
  deliver_map k l =
      ap (λ o. with_packet o (λ p. arrives p (without_packet k (link_as f l))) (link_as f l)) (get_map (packet_as f) l.there.flight (k - 1))
      ∙ at_packet_map (packet_at k l) (λ p. arrives p (without_packet k (link_as f l))) (λ p. arrives p (without_packet k l)) l
      (λ p. ap (λ z. arrives (packet_as f p) z) (without_packet_map k l) ∙ (grind (arith, map-append)))

  lose_map : (k : ℕ) (l : Link A) → lose k (link_as f l) ≡ link_as f (lose k l)
  lose_map k l = grind (arith, get_map, at_packet_map, without_packet_map)

  repeat_map : (k : ℕ) (l : Link A) → repeat k (link_as f l) ≡ link_as f (repeat k l)
  repeat_map k l = grind (arith, get_map, at_packet_map, flown, map-append)

  resend_map : (l : Link A) → resend (link_as f l) ≡ link_as f (resend l)
  resend_map l = grind (arith, flown, numbered_map, drop_map, packet_as, numbered, map-append)

  step_map : (a b from to : Site) (h : Link B → Link B) (j : Link A → Link A) (k : Link B) (l : Link A) → k ≡ link_as f l
      → ((z : Link A) → h (link_as f z) ≡ link_as f (j z)) → on_link a b from to h k ≡ link_as f (on_link a b from to j l)
  step_map a b from to h j k l e q = grind (arith)

  pub link_map : (a b : Site) (calls : List (Call A)) → link a b (map (call_as f) calls) ≡ link_as f (link a b calls)
  link_map a b [] = refl
  link_map a b (Puts from to m ∷ calls) = step_map a b from to (put (f m)) (put m) (link a b (map (call_as f) calls)) (link a b calls) (link_map a b calls)
      (put_map m)
  link_map a b (Delivers from to k ∷ calls) = step_map a b from to (deliver k) (deliver k) (link a b (map (call_as f) calls)) (link a b calls)
      (link_map a b calls) (deliver_map k)
  link_map a b (Loses from to k ∷ calls) = step_map a b from to (lose k) (lose k) (link a b (map (call_as f) calls)) (link a b calls) (link_map a b calls)
      (lose_map k)
  link_map a b (Repeats from to k ∷ calls) = step_map a b from to (repeat k) (repeat k) (link a b (map (call_as f) calls)) (link a b calls)
      (link_map a b calls) (repeat_map k)
  link_map a b (Resends from to ∷ calls) = step_map a b from to resend resend (link a b (map (call_as f) calls)) (link a b calls)
      (link_map a b calls) resend_map

  -- what a delivery hands on is spelled too
  pub delivery_map : (k : ℕ) (l : Link A) → delivery k (link_as f l) ≡ delivered_as f (delivery k l)
  delivery_map k l = grind (arith, get_map, map_option, deliver_map, delivered, take_map, drop_map)
