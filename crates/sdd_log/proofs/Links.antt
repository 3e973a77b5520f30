-- What a call on a link leaves as it was.
use Rattle.sdd_log.proofs.All.{Acked, Call, Delivers, Link, List, Loses, Messages, Nothing, Option, Packet, Puts, Repeats, Resends, Site, Some, Way, [], ap, arith, arrives, delivered, drop, false, get-append, given_by, is_empty, is_none, length, length-drop, length-take-le, link, ltb-false, ltb-true, nat_lt, newly_delivered, numbered, on_link, put, refl, resend, same_site, slice_get, suc, take, top, true, turned, unacked, with_packet, without_packet, zero, ℕ, ◌&&◌, ◌+◌, ◌-◌, ◌<◌, ◌∷◌, ◌≡◌, ◌≤◌}

-- Both ways of a link, before a call and after it: the same numbers arrived, and what was put stays.

abbrev SameArrived : {M : Type 0} → Link M → Link M → Type 0
SameArrived l k = (k.there.arrived ≡ l.there.arrived) × (k.back.arrived ≡ l.back.arrived)

abbrev KeepsSent : {M : Type 0} → Way M → Way M → Type 0
KeepsSent {M = M} v w = (i : ℕ) (m : M) → slice_get v.sent i ≡ Some m → slice_get w.sent i ≡ Some m

abbrev KeepBoth : {M : Type 0} → Link M → Link M → Type 0
KeepBoth l k = KeepsSent l.there k.there × KeepsSent l.back k.back

module _ {M : Type 0} where
  on_this : (P : Link M → Link M → Type 0) → ((l : Link M) → P l l) → ((l k : Link M) → P (turned l) k → P l (turned k))
      → (a b from to : Site) (f : Link M → Link M) (l : Link M) → ((k : Link M) → P k (f k)) → P l (on_link a b from to f l)
  on_this P same flip a b from to f l h = (grind arith)

  keeps_arrived : (a b from to : Site) (f : Link M → Link M) (l : Link M) → ((k : Link M) → SameArrived k (f k)) → SameArrived l (on_link a b from to f l)
  keeps_arrived a b from to f l h = on_this SameArrived (λ l. (refl, refl)) (λ l k p. (p.1, p.0)) a b from to f l h

  by_packet : (P : Link M → Type 0) (o : Option (Packet M)) (f : Packet M → Link M) (l : Link M) → P l → ((p : Packet M) → P (f p)) → P (with_packet o f l)
  by_packet P o f l h k = grind arith

  -- all calls but a delivery leave what is delivered

  pub delivered_put : (a b from to : Site) (m : M) (calls : List (Call M))
      → delivered (link a b (Puts from to m ∷ calls)).there ≡ delivered (link a b calls).there
  delivered_put a b from to m calls = ap top (keeps_arrived a b from to (put m) (link a b calls) (λ k. (refl, refl))).0

  pub delivered_lose : (a b from to : Site) (place : ℕ) (calls : List (Call M))
      → delivered (link a b (Loses from to place ∷ calls)).there ≡ delivered (link a b calls).there
  delivered_lose a b from to place calls = grind (arith, keeps_arrived, by_packet, SameArrived)

  pub delivered_repeat : (a b from to : Site) (place : ℕ) (calls : List (Call M))
      → delivered (link a b (Repeats from to place ∷ calls)).there ≡ delivered (link a b calls).there
  delivered_repeat a b from to place calls = grind (arith, keeps_arrived, by_packet, SameArrived)

  pub delivered_resend : (a b from to : Site) (calls : List (Call M)) → delivered (link a b (Resends from to ∷ calls)).there ≡ delivered (link a b calls).there
  delivered_resend a b from to calls = ap top (keeps_arrived a b from to resend (link a b calls) (λ k. (refl, refl))).0

  -- a delivery on one link leaves what is delivered on every other

  pub delivered_deliver : (a b from to : Site) (place : ℕ) (calls : List (Call M)) → (same_site a from && same_site b to) ≡ false
      → delivered (link a b (Delivers from to place ∷ calls)).there ≡ delivered (link a b calls).there
  delivered_deliver a b from to place calls e = grind (arith)

  -- what was put stays put

  same_sent : (l : Link M) → KeepBoth l l
  same_sent l = ((λ i m e. e), (λ i m e. e))

  keeps_sent : (a b from to : Site) (f : Link M → Link M) (l : Link M) → ((k : Link M) → KeepBoth k (f k)) → KeepBoth l (on_link a b from to f l)
  keeps_sent a b from to f l h = on_this KeepBoth same_sent (λ l k p. (p.1, p.0)) a b from to f l h

  put_sent : (m : M) (k : Link M) → KeepBoth k (put m k)
  put_sent m k = ((λ i x e. get-append k.there.sent (m ∷ []) i x e), (λ i x e. e))

  pub sent_stays : (a b : Site) (c : Call M) (calls : List (Call M)) → KeepsSent (link a b calls).there (link a b (c ∷ calls)).there
  sent_stays a b (Puts from to m) calls = (keeps_sent a b from to (put m) (link a b calls) (put_sent m)).0
  sent_stays a b c calls = grind (arith, keeps_sent, by_packet, KeepBoth, same_sent, resend, link)

  -- what a delivery's answer tells

  pub by_nothing : (o : Option (Packet M)) (place : ℕ) (l : Link M) (ms : List M) → given_by o ms ≡ Nothing
      → (delivered (with_packet o (λ p. arrives p (without_packet place l)) l).there ≡ delivered l.there) × (is_none o ≡ true)
  by_nothing o place l ms e = grind arith

  pub by_acked : (o : Option (Packet M)) (place : ℕ) (l : Link M) (ms : List M) → given_by o ms ≡ Acked
      → (delivered (with_packet o (λ p. arrives p (without_packet place l)) l).there ≡ delivered l.there) × (is_none o ≡ false)
  by_acked o place l ms e = grind arith

  pub by_messages : (o : Option (Packet M)) (ms given : List M) → given_by o ms ≡ Messages given → (given ≡ ms) × (is_none o ≡ false)
  by_messages o ms given e = grind arith

  -- the messages of a delivery are those from `delivered` on

  get_take : (n : ℕ) (xs : List M) (i : ℕ) (x : M) → slice_get (take n xs) i ≡ Some x → slice_get xs i ≡ Some x
  get_take zero xs i x e = cc
  get_take (suc n) (y ∷ xs) (suc i) x e = get_take n xs i x e
  get_take (suc n) _ _ x e = e

  get_drop : (k : ℕ) (xs : List M) (i : ℕ) (x : M) → slice_get (drop k xs) i ≡ Some x → slice_get xs (k + i) ≡ Some x
  get_drop zero xs i x e = let z : 0 + i ≡ i = omega arith in rw z e
  get_drop (suc k) [] i x e = e
  get_drop (suc k) (y ∷ xs) i x e = let s : suc k + i ≡ suc (k + i) = omega arith in rw s (get_drop k xs i x e)

  pub newly_get : (old new : Way M) (given : List M) (i : ℕ) (m : M) → given ≡ newly_delivered old new → slice_get given i ≡ Some m
      → slice_get new.sent (delivered old + i) ≡ Some m
  newly_get old new given i m e h = grind (arith, get_take, get_drop, slice_get)

  pub newly_length : (old new : Way M) (given : List M) → given ≡ newly_delivered old new → delivered old ≤ delivered new → delivered new ≤ length new.sent
      → delivered old + length given ≡ delivered new
  newly_length old new given e le within = grind (arith, length-drop, length-take-le)

  -- whether something is unacknowledged

  some_left : (k n : ℕ) (ms : List M) → k < length ms → is_empty (drop k (numbered n ms)) ≡ false
  some_left k n [] h = absurd (omega arith)
  some_left zero n (m ∷ ms) h = refl
  some_left (suc k) n (m ∷ ms) h = some_left k (n + 1) ms (omega arith)

  none_left : (k n : ℕ) (ms : List M) → length ms ≤ k → is_empty (drop k (numbered n ms)) ≡ true
  none_left zero n [] h = refl
  none_left (suc k) n [] h = refl
  none_left zero n (m ∷ ms) h = absurd (omega arith)
  none_left (suc k) n (m ∷ ms) h = none_left k (n + 1) ms (omega arith)

  pub unacked_some : (w : Way M) → nat_lt w.acked (length w.sent) ≡ true → is_empty (unacked w) ≡ false
  unacked_some w e = some_left w.acked 0 w.sent (ltb-true w.acked (length w.sent) e)

  pub unacked_none : (w : Way M) → nat_lt w.acked (length w.sent) ≡ false → is_empty (unacked w) ≡ true
  unacked_none w e = none_left w.acked 0 w.sent (ltb-false w.acked (length w.sent) e)
