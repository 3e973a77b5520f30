-- How an event and what it makes due change the way of a link: of the packets in flight all but one that is taken stay, in
-- their order, and after them stand those that are put, of which those of new messages are numbered on.
use Rattle.sdd_moments.proofs.All.{Ack, All-at, Bool, IsOf, IsSoundWay, Link, List, Message, None, Option, Packet, Some, Way, [], and_false, ap, append-nil, append_assoc, arith, arrives, deliver, drop, false, filter, filter-append, if◌then◌else◌, is_some, le-ltb, length, lose, lt-ltb, nat_lt, numbered, packet_at, put, refl, repeat, resend, slice_get, subst, suc, sym, true, turned, unacked, with_message, with_packet, without_at, without_packet, zero, ℕ, ◌&&◌, ◌++◌, ◌+◌, ◌-◌, ◌<◌, ◌∙◌, ◌∷◌, ◌≡◌, ◌≤◌}

-- a packet of a message with a number above k
abbrev pub is_above : {M : Type 0} → ℕ → Packet M → Bool
is_above k (Message n m) = nat_lt k n
is_above k (Ack upto) = false

-- so many packets stay, and after them stand others
pub record Grows {M : Type 0} (old new : Way M) (left : ℕ) : Type 0 where
  pub kept : List (Packet M)
  pub added : List (Packet M)
  pub flight_is : new.flight ≡ kept ++ added
  pub left_is : length kept ≡ left
  pub more : List M
  pub sent_is : new.sent ≡ old.sent ++ more
  pub news : filter (is_above (length old.sent)) added ≡ numbered (length old.sent) more

pub numbered_join : {M : Type 0} (k : ℕ) (xs ys : List M) → numbered k (xs ++ ys) ≡ numbered k xs ++ numbered (k + length xs) ys
numbered_join k [] ys = let e : k ≡ k + 0 = omega arith in ap (λ n. numbered n ys) e
numbered_join k (x ∷ xs) ys =
    let e : k + 1 + length xs ≡ k + length (x ∷ xs) = omega arith in
    ap (λ ps. Message (k + 1) x ∷ ps) (numbered_join (k + 1) xs ys ∙ ap (λ n. numbered (k + 1) xs ++ numbered n ys) e)

pub length_numbered : {M : Type 0} (k : ℕ) (xs : List M) → length (numbered k xs) ≡ length xs
length_numbered k [] = refl
length_numbered k (x ∷ xs) = ap suc (length_numbered (k + 1) xs)

pub length_joined : {M : Type 0} (xs ys : List M) → length (xs ++ ys) ≡ length xs + length ys
length_joined [] ys = let e : length ys ≡ 0 + length ys = omega arith in e
length_joined (x ∷ xs) ys = omega (arith, length_joined xs ys)

-- a message that is put

new_one : {M : Type 0} (k n : ℕ) (m : M) → k < n → filter (is_above k) (Message n m ∷ []) ≡ Message n m ∷ []
new_one k n m l = rw (lt-ltb k n l) refl

pub with_put : {M : Type 0} (old w : Way M) (left : ℕ) (m : M) → Grows old w left → Grows old (with_message m w) left
with_put old w left m g =
    let k = length old.sent in
    let n : ℕ = length w.sent + 1 in
    let count : length w.sent ≡ k + length g.more = ap length g.sent_is ∙ length_joined old.sent g.more in
    let number : n ≡ k + length g.more + 1 = ap (λ j. j + 1) count in
    record {
      kept = g.kept;
      added = g.added ++ Message n m ∷ [];
      flight_is = ap (λ ps. ps ++ Message n m ∷ []) g.flight_is ∙ append_assoc g.kept g.added (Message n m ∷ []);
      left_is = g.left_is;
      more = g.more ++ m ∷ [];
      sent_is = ap (λ ms. ms ++ m ∷ []) g.sent_is ∙ append_assoc old.sent g.more (m ∷ []);
      news =
          filter-append (is_above k) g.added (Message n m ∷ [])
          ∙ ap (λ ps. ps ++ filter (is_above k) (Message n m ∷ [])) g.news
          ∙ ap (λ ps. numbered k g.more ++ ps) (new_one k n m (omega (arith, number)) ∙ ap (λ j. Message j m ∷ []) number)
          ∙ sym (numbered_join k g.more (m ∷ []));
    }

-- an event

pub same : {M : Type 0} (w : Way M) → Grows w w (length w.flight)
same w = record {
  kept = w.flight;
  added = [];
  flight_is = sym (append-nil w.flight);
  left_is = refl;
  more = [];
  sent_is = sym (append-nil w.sent);
  news = refl;
}

length_without : {A : Type 0} (xs : List A) (i : ℕ) (x : A) → slice_get xs i ≡ Some x → length (without_at xs i) ≡ length xs - 1
length_without (y ∷ ys) zero x e = omega arith
length_without (y ∷ z ∷ ys) (suc i) x e =
    let at : suc i + 1 ≡ suc (i + 1) = omega arith in rw at (omega (arith, length_without (z ∷ ys) i x e))
length_without _ _ x e = cc

-- one packet is taken
pub taken : {M : Type 0} (w new : Way M) (k : ℕ) (p : Packet M) → slice_get w.flight k ≡ Some p
    → new.flight ≡ without_at w.flight k → new.sent ≡ w.sent → Grows w new (length w.flight - 1)
taken w new k p e f s = record {
  kept = without_at w.flight k;
  added = [];
  flight_is = f ∙ sym (append-nil _);
  left_is = length_without w.flight k p e;
  more = [];
  sent_is = s ∙ sym (append-nil _);
  news = refl;
}

-- packets are put that are of no new message
pub repeated : {M : Type 0} (w new : Way M) (packets : List (Packet M)) → filter (is_above (length w.sent)) packets ≡ []
    → new.flight ≡ w.flight ++ packets → new.sent ≡ w.sent → Grows w new (length w.flight)
repeated w new packets none f s = record {
  kept = w.flight;
  added = packets;
  flight_is = f;
  left_is = refl;
  more = [];
  sent_is = s ∙ sym (append-nil _);
  news = none;
}

within : {A : Type 0} (xs : List A) (n : ℕ) (m : A) → 1 ≤ n → slice_get xs (n - 1) ≡ Some m → n ≤ length xs
within [] n m l e = cc
within (x ∷ xs) zero m l e = absurd (omega (arith, l))
within (x ∷ xs) (suc zero) m l e = omega arith
within (x ∷ xs) (suc (suc n)) m l e =
    let z : suc (suc n) - 1 ≡ suc n = omega arith in
    let y : suc n - 1 ≡ n = omega arith in
    let there : slice_get xs n ≡ Some m = subst (λ j. slice_get (x ∷ xs) j ≡ Some m) z e in
    omega (arith, within xs (suc n) m (omega arith) (subst (λ j. slice_get xs j ≡ Some m) (sym y) there))

-- a packet in flight is of a message that was put
pub not_new : {M : Type 0} (sent : List M) (back : ℕ) (p : Packet M) → IsOf sent back p → filter (is_above (length sent)) (p ∷ []) ≡ []
not_new sent back (Message n m) h = rw (le-ltb (length sent) n (within sent n m h.0 h.1)) refl
not_new sent back (Ack k) h = refl

none_above : {M : Type 0} (b k : ℕ) (ms : List M) → k + length ms ≤ b → filter (is_above b) (numbered k ms) ≡ []
none_above b k [] l = refl
none_above b k (m ∷ ms) l = rw (le-ltb b (k + 1) (omega (arith, l))) (none_above b (k + 1) ms (omega (arith, l)))

none_dropped : {M : Type 0} (b a k : ℕ) (ms : List M) → k + length ms ≤ b → filter (is_above b) (drop a (numbered k ms)) ≡ []
none_dropped b zero k ms l = none_above b k ms l
none_dropped b (suc a) k [] l = refl
none_dropped b (suc a) k (m ∷ ms) l = none_dropped b a (k + 1) ms (omega (arith, l))

pub none_resent : {M : Type 0} (w : Way M) → filter (is_above (length w.sent)) (unacked w) ≡ []
none_resent w = none_dropped (length w.sent) w.acked 0 w.sent (omega arith)

-- what a call does to the link on which it is, and to the one back

abbrev pub left_if : Bool → ℕ → ℕ
left_if taken flying = if taken then flying - 1 else flying

gone : {M : Type 0} (k : ℕ) (l : Link M) (p : Packet M) → packet_at k l ≡ Some p
    → Grows l.there (arrives p (without_packet k l)).there (length l.there.flight - 1)
gone k l (Message n m) e = taken l.there _ (k - 1) (Message n m) e refl refl
gone k l (Ack j) e = taken l.there _ (k - 1) (Ack j) e refl refl

pub deliver_there : {M : Type 0} (k : ℕ) (l : Link M) → Grows l.there (deliver k l).there (left_if (is_some (packet_at k l)) (length l.there.flight))
deliver_there k l =
    elim (packet_at k l) as (λ o. packet_at k l ≡ o
    → Grows l.there (with_packet o (λ p. arrives p (without_packet k l)) l).there (left_if (is_some o) (length l.there.flight))) [
      | None ↦ λ e. same l.there
      | Some p ↦ λ e. gone k l p e
    ] refl

-- where the packet is only looked up, the way back is that of what is done with it
by_packet : {M : Type 0} (o : Option (Packet M)) (f : Packet M → Link M) (l : Link M)
    → ((p : Packet M) → Grows l.back (f p).back (length l.back.flight)) → Grows l.back (with_packet o f l).back (length l.back.flight)
by_packet None f l h = same l.back
by_packet (Some p) f l h = h p

answered : {M : Type 0} (k : ℕ) (l : Link M) (p : Packet M) → Grows l.back (arrives p (without_packet k l)).back (length l.back.flight)
answered k l (Message n m) = repeated l.back _ (Ack _ ∷ []) refl refl refl
answered k l (Ack j) = repeated l.back _ [] refl (sym (append-nil l.back.flight)) refl

pub deliver_back : {M : Type 0} (k : ℕ) (l : Link M) → Grows l.back (deliver k l).back (length l.back.flight)
deliver_back k l = by_packet (packet_at k l) (λ p. arrives p (without_packet k l)) l (answered k l)

pub lose_there : {M : Type 0} (k : ℕ) (l : Link M) → Grows l.there (lose k l).there (left_if (is_some (packet_at k l)) (length l.there.flight))
lose_there k l =
    elim (packet_at k l) as (λ o. packet_at k l ≡ o
    → Grows l.there (with_packet o (λ p. without_packet k l) l).there (left_if (is_some o) (length l.there.flight))) [
      | None ↦ λ e. same l.there
      | Some p ↦ λ e. taken l.there _ (k - 1) p e refl refl
    ] refl

pub lose_back : {M : Type 0} (k : ℕ) (l : Link M) → Grows l.back (lose k l).back (length l.back.flight)
lose_back k l = by_packet (packet_at k l) (λ p. without_packet k l) l (λ p. same l.back)

pub repeat_there : {M : Type 0} (k back : ℕ) (l : Link M) → IsSoundWay l.there back → Grows l.there (repeat k l).there (length l.there.flight)
repeat_there k back l h =
    elim (packet_at k l) as (λ o. packet_at k l ≡ o
    → Grows l.there (with_packet o (λ p. record l { there = record l.there { flight = l.there.flight ++ p ∷ [] } }) l).there (length l.there.flight)) [
      | None ↦ λ e. same l.there
      | Some p ↦ λ e. repeated l.there _ (p ∷ []) (not_new l.there.sent back p (All-at (IsOf l.there.sent back) l.there.flight (k - 1) p e h.packets)) refl refl
    ] refl

pub repeat_back : {M : Type 0} (k : ℕ) (l : Link M) → Grows l.back (repeat k l).back (length l.back.flight)
repeat_back k l =
    by_packet (packet_at k l) (λ p. record l { there = record l.there { flight = l.there.flight ++ p ∷ [] } }) l (λ p. same l.back)

pub resend_there : {M : Type 0} (l : Link M) → Grows l.there (resend l).there (length l.there.flight)
resend_there l = repeated l.there _ (unacked l.there) (none_resent l.there) refl refl

-- the same for a link seen from either end

pub and_true : (t : Bool) → (t && true) ≡ t
and_true true = refl
and_true false = refl

pub taking_way : {M : Type 0} (c d t : Bool) (f : Link M → Link M) (l : Link M)
    → (c ≡ true → Grows l.there (f l).there (left_if t (length l.there.flight)))
    → Grows (turned l).back (f (turned l)).back (length (turned l).back.flight)
    → Grows l.there (if c then f l else if d then turned (f (turned l)) else l).there (left_if (t && c) (length l.there.flight))
taking_way true d t f l h k = subst (λ b. Grows l.there (f l).there (left_if b (length l.there.flight))) (sym (and_true t)) (h refl)
taking_way false true t f l h k =
    subst (λ b. Grows l.there (turned (f (turned l))).there (left_if b (length l.there.flight))) (sym (and_false t)) k
taking_way false false t f l h k = subst (λ b. Grows l.there l.there (left_if b (length l.there.flight))) (sym (and_false t)) (same l.there)

pub plain_way : {M : Type 0} (c d t : Bool) (f : Link M → Link M) (l : Link M)
    → Grows l.there (f l).there (length l.there.flight)
    → Grows (turned l).back (f (turned l)).back (length (turned l).back.flight)
    → Grows l.there (if c then f l else if d then turned (f (turned l)) else l).there (left_if (t && false) (length l.there.flight))
plain_way true d t f l h k = subst (λ b. Grows l.there (f l).there (left_if b (length l.there.flight))) (sym (and_false t)) h
plain_way false true t f l h k =
    subst (λ b. Grows l.there (turned (f (turned l))).there (left_if b (length l.there.flight))) (sym (and_false t)) k
plain_way false false t f l h k = subst (λ b. Grows l.there l.there (left_if b (length l.there.flight))) (sym (and_false t)) (same l.there)

pub no_way : {M : Type 0} (t : Bool) (w : Way M) → Grows w w (left_if (t && false) (length w.flight))
no_way t w = subst (λ b. Grows w w (left_if b (length w.flight))) (sym (and_false t)) (same w)

pub put_way : {M : Type 0} (old : Way M) (left : ℕ) (c d : Bool) (m : M) (l : Link M) → Grows old l.there left
    → Grows old (if c then put m l else if d then turned (put m (turned l)) else l).there left
put_way old left true d m l g = with_put old l.there left m g
put_way old left false true m l g = g
put_way old left false false m l g = g
