-- How far a link is from being quiet, by rounds in which nothing is put: after the first only acknowledgements are in
-- flight; after the second nothing is, or all is acknowledged or about to be; after the third that; after the fourth the
-- link is quiet.
use Rattle.sdd_bounds.proofs.All.{Ack, Link, List, Message, Packet, [], arith, length, max, suc, turned, zero, ℕ, ◌++◌, ◌∷◌, ◌≡◌, ◌≤◌, ◌⊎◌, inl, inr}

-- a flight of acknowledgements alone
abbrev pub AreAcks : {M : Type 0} → List (Packet M) → Type 0
AreAcks [] = Unit {0}
AreAcks (Message n m ∷ packets) = ⊥
AreAcks (Ack k ∷ packets) = AreAcks packets

-- messages 1 to k are acknowledged, or an acknowledgement in flight says so
abbrev pub IsAcked : {M : Type 0} → ℕ → ℕ → List (Packet M) → Type 0
IsAcked k acked [] = k ≤ acked
IsAcked k acked (Message n m ∷ packets) = IsAcked k acked packets
IsAcked k acked (Ack j ∷ packets) = (k ≤ j) ⊎ IsAcked k acked packets

pub record HasAcksOnly {M : Type 0} (l : Link M) : Type 0 where
  pub there : AreAcks l.there.flight
  pub back : AreAcks l.back.flight

pub record IsEmptied {M : Type 0} (l : Link M) : Type 0 where
  pub there : l.there.flight ≡ []
  pub back : l.back.flight ≡ []

-- all that was sent is acknowledged, or an acknowledgement in flight says so
pub record IsCovered {M : Type 0} (l : Link M) : Type 0 where
  pub acks : HasAcksOnly l
  pub there : IsAcked (length l.there.sent) l.there.acked l.back.flight
  pub back : IsAcked (length l.back.sent) l.back.acked l.there.flight

-- what holds after so many rounds
abbrev pub IsAtStage : {M : Type 0} → ℕ → Link M → Type 0
IsAtStage zero l = Unit {0}
IsAtStage (suc zero) l = HasAcksOnly l
IsAtStage (suc (suc zero)) l = IsEmptied l ⊎ IsCovered l
IsAtStage (suc (suc (suc zero))) l = IsCovered l
IsAtStage (suc (suc (suc (suc k)))) l = IsEmptied l × IsCovered l

-- acknowledgements that come, and one more in flight

pub acks_push : {M : Type 0} (packets : List (Packet M)) (k : ℕ) → AreAcks packets → AreAcks (packets ++ Ack k ∷ [])
acks_push [] k h = tt
acks_push (Message n m ∷ packets) k h = absurd h
acks_push (Ack j ∷ packets) k h = acks_push packets k h

pub acked_at : {M : Type 0} (k acked : ℕ) (packets : List (Packet M)) → k ≤ acked → IsAcked k acked packets
acked_at k acked [] l = l
acked_at k acked (Message n m ∷ packets) l = acked_at k acked packets l
acked_at k acked (Ack j ∷ packets) l = inr (acked_at k acked packets l)

pub acked_more : {M : Type 0} (j k old new : ℕ) (packets : List (Packet M)) → j ≤ k → old ≤ new → IsAcked k old packets → IsAcked j new packets
acked_more j k old new [] l m h = omega arith
acked_more j k old new (Message n x ∷ packets) l m h = acked_more j k old new packets l m h
acked_more j k old new (Ack i ∷ packets) l m h = elim h [ inl p ↦ inl (omega arith) | inr p ↦ inr (acked_more j k old new packets l m p) ]

pub acked_push : {M : Type 0} (k acked : ℕ) (packets : List (Packet M)) (p : Packet M) → IsAcked k acked packets → IsAcked k acked (packets ++ p ∷ [])
acked_push k acked [] (Message n m) h = h
acked_push k acked [] (Ack j) h = inr h
acked_push k acked (Message n m ∷ packets) p h = acked_push k acked packets p h
acked_push k acked (Ack j ∷ packets) p h = elim h [ inl q ↦ inl q | inr q ↦ inr (acked_push k acked packets p q) ]

pub acked_last : {M : Type 0} (k j acked : ℕ) (packets : List (Packet M)) → k ≤ j → IsAcked k acked (packets ++ Ack j ∷ [])
acked_last k j acked [] l = inl l
acked_last k j acked (Message n m ∷ packets) l = acked_last k j acked packets l
acked_last k j acked (Ack i ∷ packets) l = inr (acked_last k j acked packets l)

-- the first one comes
pub acked_comes : {M : Type 0} (k j acked : ℕ) (packets : List (Packet M)) → IsAcked k acked (Ack j ∷ packets) → IsAcked k (max acked j) packets
acked_comes k j acked packets h = elim h [
  | inl p ↦ acked_at k (max acked j) packets (omega arith)
  | inr p ↦ acked_more k k acked (max acked j) packets (omega arith) (omega arith) p
]
