-- What holds of a link once the packets are delivered that were in flight when its round began.
use Rattle.sdd_bounds.proofs.All.{Ack, Link, List, Message, Packet, Way, [], ap, append_assoc, arith, arrives, contains, dec_le, deliver, delivered, drop, eq-eqb, false, false≢true, length, length-drop, max, numbered, refl, subst, suc, sym, top, top_is, top_rises, true, turned, with_flight, zero, ℕ, ◌++◌, ◌+◌, ◌-◌, ◌||◌, ◌∙◌, ◌∷◌, ◌≡◌, ◌≤◌}
use Rattle.sdd_bounds.proofs.Stages.{AreAcks, HasAcksOnly, IsAcked, IsCovered, IsEmptied, acked_comes, acked_last, acked_more, acks_push}

-- a delivery takes the first packet
delivers_first : {M : Type 0} (l : Link M) (p : Packet M) (rest : List (Packet M)) → l.there.flight ≡ p ∷ rest
    → deliver 1 l ≡ arrives p (record { there = with_flight rest l.there; back = l.back })
delivers_first l p rest e = ap (λ flight. deliver 1 (record { there = with_flight flight l.there; back = l.back })) e

-- First: what is left to deliver, and behind it acknowledgements alone.

pub record IsBehind {M : Type 0} (left flight : List (Packet M)) : Type 0 where
  pub more : List (Packet M)
  pub is : flight ≡ left ++ more
  pub acks : AreAcks more

pub record HasAcksBehind {M : Type 0} (left left_back : List (Packet M)) (l : Link M) : Type 0 where
  pub there : IsBehind left l.there.flight
  pub back : IsBehind left_back l.back.flight

pub acks_turned : {M : Type 0} (f b : List (Packet M)) (l : Link M) → HasAcksBehind f b l → HasAcksBehind b f (turned l)
acks_turned f b l h = record { there = h.back; back = h.there }

acks_arrive : {M : Type 0} (p : Packet M) (f b more : List (Packet M)) (l : Link M) → AreAcks more → IsBehind b l.back.flight
    → HasAcksBehind f b (arrives p (record { there = with_flight (f ++ more) l.there; back = l.back }))
acks_arrive (Message n m) f b more l a h =
    let ack = delivered (record l.there { arrived = n ∷ l.there.arrived }) in
    record {
      there = record { more = more; is = refl; acks = a };
      back = record { more = h.more ++ Ack ack ∷ []; is = ap (λ flight. flight ++ Ack ack ∷ []) h.is ∙ append_assoc b h.more (Ack ack ∷ []); acks = acks_push h.more ack h.acks };
    }
acks_arrive (Ack k) f b more l a h = record { there = record { more = more; is = refl; acks = a }; back = h }

pub acks_step : {M : Type 0} (p : Packet M) (f b : List (Packet M)) (l : Link M) → HasAcksBehind (p ∷ f) b l → HasAcksBehind f b (deliver 1 l)
acks_step p f b l h =
    subst (HasAcksBehind f b) (sym (delivers_first l p (f ++ h.there.more) h.there.is)) (acks_arrive p f b h.there.more l h.there.acks h.back)

pub acks_done : {M : Type 0} (l : Link M) → HasAcksBehind [] [] l → HasAcksOnly l
acks_done l h = record { there = subst AreAcks (sym h.there.is) h.there.acks; back = subst AreAcks (sym h.back.is) h.back.acks }

-- Second: acknowledgements are delivered, which put nothing in flight. Where they covered all that was sent, it is covered.

pub record IsAcking {M : Type 0} (C : Type 0) (left left_back : List (Packet M)) (l : Link M) : Type 0 where
  pub there : l.there.flight ≡ left
  pub back : l.back.flight ≡ left_back
  pub acks : AreAcks left
  pub acks_back : AreAcks left_back
  pub covered : C → IsAcked (length l.there.sent) l.there.acked left_back
  pub covered_back : C → IsAcked (length l.back.sent) l.back.acked left

pub acking_turned : {M : Type 0} (C : Type 0) (f b : List (Packet M)) (l : Link M) → IsAcking C f b l → IsAcking C b f (turned l)
acking_turned C f b l h = record { there = h.back; back = h.there; acks = h.acks_back; acks_back = h.acks; covered = h.covered_back; covered_back = h.covered }

pub acking_step : {M : Type 0} (C : Type 0) (p : Packet M) (f b : List (Packet M)) (l : Link M) → IsAcking C (p ∷ f) b l → IsAcking C f b (deliver 1 l)
acking_step C (Message n m) f b l h = absurd h.acks
acking_step C (Ack k) f b l h =
    subst (IsAcking C f b) (sym (delivers_first l (Ack k) f h.there))
    (record {
      there = refl;
      back = h.back;
      acks = h.acks;
      acks_back = h.acks_back;
      covered = h.covered;
      covered_back = λ c. acked_comes (length l.back.sent) k l.back.acked f (h.covered_back c);
    })

pub acking_done : {M : Type 0} (C : Type 0) (l : Link M) → IsAcking C [] [] l → IsEmptied l × (C → IsCovered l)
acking_done C l h = (
  record { there = h.there; back = h.back },
  λ c. record {
    acks = record { there = subst AreAcks (sym h.there) tt; back = subst AreAcks (sym h.back) tt };
    there = subst (IsAcked (length l.there.sent) l.there.acked) (sym h.back) (h.covered c);
    back = subst (IsAcked (length l.back.sent) l.back.acked) (sym h.there) (h.covered_back c);
  },
)

-- Third: all messages from the first unacknowledged one on are delivered, so that an acknowledgement of the last is put.

-- so far k messages are delivered and covered
pub record IsResent {M : Type 0} (k : ℕ) (left more more_back : List (Packet M)) (w : Way M) : Type 0 where
  pub rest : left ≡ drop k (numbered 0 w.sent)
  pub got : k ≤ delivered w
  pub flight : w.flight ≡ left ++ more
  pub acks : AreAcks more
  pub acked : IsAcked k w.acked more_back

pub record AreResent {M : Type 0} (left left_back : List (Packet M)) (l : Link M) : Type 0 where
  pub k : ℕ
  pub j : ℕ
  pub more : List (Packet M)
  pub more_back : List (Packet M)
  pub there : IsResent k left more more_back l.there
  pub back : IsResent j left_back more_back more l.back

pub resent_turned : {M : Type 0} (f b : List (Packet M)) (l : Link M) → AreResent f b l → AreResent b f (turned l)
resent_turned f b l h = record { k = h.j; j = h.k; more = h.more_back; more_back = h.more; there = h.back; back = h.there }

first_left : {M : Type 0} (k i : ℕ) (sent : List M) (p : Packet M) (rest : List (Packet M)) → p ∷ rest ≡ drop k (numbered i sent)
    → (m : M) × (p ≡ Message (suc (k + i)) m) × (rest ≡ drop (suc k) (numbered i sent))
first_left zero i [] p rest e = cc
first_left zero i (m ∷ sent) p rest e = let n : i + 1 ≡ suc (0 + i) = omega arith in (m, cc, cc)
first_left (suc k) i [] p rest e = cc
first_left (suc k) i (m ∷ sent) p rest e =
    let r = first_left k (i + 1) sent p rest e in
    let n : suc (k + (i + 1)) ≡ suc (suc k + i) = omega arith in
    (r.0, r.1 ∙ ap (λ x. Message x r.0) n, r.2)

-- one number more
top_next : (k : ℕ) (ns : List ℕ) → k ≤ top ns → suc k ≤ top (suc k ∷ ns)
top_next k ns l = elim (dec_le (suc k) (top (suc k ∷ ns))) [
  | yes p ↦ p
  | no p ↦ absurd (let same : top (suc k ∷ ns) ≡ k = omega (arith, p, top_rises (suc k) ns) in
      let missing : contains (suc k ∷ ns) (suc k) ≡ false = subst (λ n. contains (suc k ∷ ns) (suc n) ≡ false) same (top_is (suc k ∷ ns)).1 in
      false≢true (sym missing ∙ ap (λ b. b || contains ns (suc k)) (eq-eqb (suc k) (suc k) refl)))
]

pub resent_step : {M : Type 0} (p : Packet M) (f b : List (Packet M)) (l : Link M) → AreResent (p ∷ f) b l → AreResent f b (deliver 1 l)
resent_step {M = M} p f b l h =
    let first = first_left h.k 0 l.there.sent p f h.there.rest in
    let number : suc (h.k + 0) ≡ suc h.k = omega arith in
    let is : p ≡ Message (suc h.k) first.0 = first.1 ∙ ap (λ n. Message n first.0) number in
    let ack = top (suc h.k ∷ l.there.arrived) in
    let next = top_next h.k l.there.arrived h.there.got in
    subst (AreResent f b) (sym (delivers_first l p (f ++ h.more) h.there.flight))
    (subst (λ q. AreResent f b (arrives q (record { there = with_flight (f ++ h.more) l.there; back = l.back }))) (sym is)
    (record {
      k = suc h.k;
      j = h.j;
      more = h.more;
      more_back = h.more_back ++ Ack ack ∷ [];
      there = record { rest = first.2; got = next; flight = refl; acks = h.there.acks; acked = acked_last (suc h.k) ack l.there.acked h.more_back next };
      back = record {
        rest = h.back.rest;
        got = h.back.got;
        flight = ap (λ flight. flight ++ Ack ack ∷ []) h.back.flight ∙ append_assoc b h.more_back (Ack ack ∷ []);
        acks = acks_push h.more_back ack h.back.acks;
        acked = h.back.acked;
      };
    }))

pub length_numbered : {M : Type 0} (i : ℕ) (sent : List M) → length (numbered i sent) ≡ length sent
length_numbered i [] = refl
length_numbered i (m ∷ sent) = ap suc (length_numbered (i + 1) sent)

none_left : {M : Type 0} (k : ℕ) (sent : List M) → [] ≡ drop k (numbered 0 sent) → length sent ≤ k
none_left k sent e = omega (arith, ap length e, length-drop k (numbered 0 sent), length_numbered 0 sent)

pub resent_done : {M : Type 0} (l : Link M) → AreResent [] [] l → IsCovered l
resent_done l h = record {
  acks = record { there = subst AreAcks (sym h.there.flight) h.there.acks; back = subst AreAcks (sym h.back.flight) h.back.acks };
  there = subst (IsAcked (length l.there.sent) l.there.acked) (sym h.back.flight)
      (acked_more (length l.there.sent) h.k l.there.acked l.there.acked h.more_back (none_left h.k l.there.sent h.there.rest) (omega arith) h.there.acked);
  back = subst (IsAcked (length l.back.sent) l.back.acked) (sym h.there.flight)
      (acked_more (length l.back.sent) h.j l.back.acked l.back.acked h.more (none_left h.j l.back.sent h.back.rest) (omega arith) h.back.acked);
}
