-- What a link hands on is what was put on it, from 1 to `delivered`, in order.
use Rattle.sdd_net.proofs.All.{top_rises, Bool, Call, Delivers, IsTrue, Link, List, Option, Packet, Puts, Resends, Site, [], and_parts, ap, append-nil, arith, arrives, delivered, drop, due, given_by, handed, if◌then◌else◌, is_empty, is_quiet_link, leb-true, length, link, lose, messages_of, nat_le, nat_tests, newly_delivered, put, refl, repeat, resend, same_site, sym, take, take-append-drop, take-append-le, take-take, take_all, turned, with_flight, with_packet, without_packet, ℕ, ◌&&◌, ◌++◌, ◌∙◌, ◌∷◌, ◌≡◌, ◌≤◌}
use Rattle.sdd_net.proofs.Sound.{sound, delivered_le}

take-on : {A : Type 0} (j k : ℕ) (xs : List A) → j ≤ k → take j xs ++ drop j (take k xs) ≡ take k xs
take-on j k xs l = ap (λ ys. ys ++ drop j (take k xs)) (sym (take-take j k xs l)) ∙ take-append-drop j (take k xs)

module _ {M : Type 0} where
  puts : (c d : Bool) (m : M) (l : Link M) (ms : List M) → delivered l.there ≤ length l.there.sent → ms ≡ due l.there
      → ms ≡ due (if c then put m l else if d then turned (put m (turned l)) else l).there
  puts c d m l ms le e = grind (arith, take-append-le)

  hands : (o : Option (Packet M)) (place : ℕ) (l : Link M) (ms : List M) → ms ≡ due l.there
      → ms ++ messages_of (given_by o (newly_delivered l.there (with_packet o (λ p. arrives p (without_packet place l)) l).there)) ≡ due
      (with_packet o (λ p. arrives p (without_packet place l)) l).there
  hands o place l ms e = grind (arith, take-on, top_rises, append-nil)

  -- a delivery on the link back hands nothing on here
  back_hands : (o : Option (Packet M)) (place : ℕ) (l : Link M) (ms : List M) → ms ≡ due l.back
      → ms ≡ due (with_packet o (λ p. arrives p (without_packet place l)) l).back
  back_hands o place l ms e = grind (arith, nat_tests)

  -- a change of the flight alone
  flies : (o : Option (Packet M)) (f : Packet M → List (Packet M)) (l : Link M) (ms : List M) → ms ≡ due l.there
      → ms ≡ due (with_packet o (λ p. record l { there = with_flight (f p) l.there }) l).there
  flies o f l ms e = grind (arith, nat_tests)

  flies_back : (o : Option (Packet M)) (f : Packet M → List (Packet M)) (l : Link M) (ms : List M) → ms ≡ due l.back
      → ms ≡ due (with_packet o (λ p. record l { there = with_flight (f p) l.there }) l).back
  flies_back o f l ms e = grind (arith, nat_tests)

  loses : (c d : Bool) (place : ℕ) (l : Link M) (ms : List M) → ms ≡ due l.there
      → ms ≡ due (if c then lose place l else if d then turned (lose place (turned l)) else l).there
  loses c d place l ms e = grind (arith, nat_tests)

  repeats : (c d : Bool) (place : ℕ) (l : Link M) (ms : List M) → ms ≡ due l.there
      → ms ≡ due (if c then repeat place l else if d then turned (repeat place (turned l)) else l).there
  repeats c d place l ms e = grind (arith, nat_tests)

  resends : (c d : Bool) (l : Link M) (ms : List M) → ms ≡ due l.there
      → ms ≡ due (if c then resend l else if d then turned (resend (turned l)) else l).there
  resends c d l ms e = grind (arith, nat_tests)

pub in_order : {M : Type 0} (a b : Site) (calls : List (Call M)) → handed a b calls ≡ due (link a b calls).there
in_order a b [] = refl
in_order a b (Puts from to m ∷ calls) =
    puts (same_site a from && same_site b to) (same_site a to && same_site b from) m (link a b calls) (handed a b calls)
    (delivered_le (link a b calls).there (delivered (link a b calls).back) (sound a b calls).there) (in_order a b calls)
in_order a b (Delivers from to place ∷ calls) = grind (arith, hands, append-nil, back_hands, (in_order a b calls))
in_order a b (Resends from to ∷ calls) = resends (same_site a from && same_site b to) (same_site a to && same_site b from) (link a b calls) (handed a b calls) (in_order a b calls)
in_order a b (e ∷ calls) = grind (arith, loses, same_site, link, handed, repeats, (in_order a b calls))

pub whole : {M : Type 0} (a b : Site) (calls : List (Call M))
    → IsTrue (is_quiet_link (link a b calls)) → handed a b calls ≡ (link a b calls).there.sent
whole a b calls h =
    let w = (link a b calls).there in
    let all : length w.sent ≤ w.acked = leb-true (length w.sent) w.acked (and_parts (is_empty w.flight) (nat_le (length w.sent) w.acked) h).1 in
    in_order a b calls ∙ take_all (delivered w) w.sent (omega (arith, ((sound a b calls).there).acked))
