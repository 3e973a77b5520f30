-- What an event and what it makes due leave of a flight: all packets of the one before, in their order, without the one that the
-- event takes; others stand behind them.
use Rattle.std.specs.Prelude.{ℕ, ◌-◌, ◌≡◌, Bool, true, false, ◌&&◌, if◌then◌else◌, List, [], ◌∷◌, ◌++◌, length, is_some, Some, None, refl}
use Rattle.std.proofs.Common.{ap, append-nil, append_assoc, subst, sym, ◌∙◌}
use Rattle.std.specs.Prelude.{◌+◌}
use Rattle.sdd_net.specs.Links.{Link, Way, arrives, deliver, lose, packet_at, put, repeat, resend, turned, unacked, with_message, with_packet, without_at, without_packet}
use Rattle.sdd_net.specs.declared.packet.Packet.{Packet}
use Rattle.sdd_net.specs.declared.packet.Packet.TheVariants.{Message, Ack}

-- these packets, and then others
abbrev pub Begins : {M : Type 0} → List (Packet M) → Way M → Type 0
Begins {M = M} kept w = (added : List (Packet M)) × (w.flight ≡ kept ++ added)

-- the packets without the one at the place, counted from 0, where one is taken
abbrev pub kept_if : {A : Type 0} → Bool → ℕ → List A → List A
kept_if taken k xs = if taken then without_at xs k else xs

pub same_flight : {M : Type 0} (w : Way M) → Begins w.flight w
same_flight w = ([], sym (append-nil w.flight))

pub with_put : {M : Type 0} (kept : List (Packet M)) (w : Way M) (m : M) → Begins kept w → Begins kept (with_message m w)
with_put kept w m b =
    (b.0 ++ Message (length w.sent + 1) m ∷ [], ap (λ ps. ps ++ Message (length w.sent + 1) m ∷ []) b.1 ∙ append_assoc kept b.0 (Message (length w.sent + 1) m ∷ []))

-- what a call does to the link on which it is, and to the one back

gone : {M : Type 0} (k : ℕ) (l : Link M) (p : Packet M) → Begins (without_at l.there.flight (k - 1)) (arrives p (without_packet k l)).there
gone k l (Message n m) = ([], sym (append-nil _))
gone k l (Ack j) = ([], sym (append-nil _))

pub deliver_there : {M : Type 0} (k : ℕ) (l : Link M) → Begins (kept_if (is_some (packet_at k l)) (k - 1) l.there.flight) (deliver k l).there
deliver_there k l =
    elim (packet_at k l) as (λ o. Begins (kept_if (is_some o) (k - 1) l.there.flight) (with_packet o (λ p. arrives p (without_packet k l)) l).there) [
      | None ↦ same_flight l.there
      | Some p ↦ gone k l p
    ]

answered : {M : Type 0} (k : ℕ) (l : Link M) (p : Packet M) → Begins l.back.flight (arrives p (without_packet k l)).back
answered k l (Message n m) = (Ack _ ∷ [], refl)
answered k l (Ack j) = ([], sym (append-nil l.back.flight))

pub deliver_back : {M : Type 0} (k : ℕ) (l : Link M) → Begins l.back.flight (deliver k l).back
deliver_back k l =
    elim (packet_at k l) as (λ o. Begins l.back.flight (with_packet o (λ p. arrives p (without_packet k l)) l).back) [
      | None ↦ same_flight l.back
      | Some p ↦ answered k l p
    ]

pub lose_there : {M : Type 0} (k : ℕ) (l : Link M) → Begins (kept_if (is_some (packet_at k l)) (k - 1) l.there.flight) (lose k l).there
lose_there k l =
    elim (packet_at k l) as (λ o. Begins (kept_if (is_some o) (k - 1) l.there.flight) (with_packet o (λ p. without_packet k l) l).there) [
      | None ↦ same_flight l.there
      | Some p ↦ ([], sym (append-nil _))
    ]

pub lose_back : {M : Type 0} (k : ℕ) (l : Link M) → Begins l.back.flight (lose k l).back
lose_back k l =
    elim (packet_at k l) as (λ o. Begins l.back.flight (with_packet o (λ p. without_packet k l) l).back) [ None ↦ same_flight l.back | Some p ↦ same_flight l.back ]

abbrev repeated : {M : Type 0} → Link M → Packet M → Link M
repeated l p = record l { there = record l.there { flight = l.there.flight ++ p ∷ [] } }

pub repeat_there : {M : Type 0} (k : ℕ) (l : Link M) → Begins l.there.flight (repeat k l).there
repeat_there k l =
    elim (packet_at k l) as (λ o. Begins l.there.flight (with_packet o (repeated l) l).there) [
      | None ↦ same_flight l.there
      | Some p ↦ (p ∷ [], refl)
    ]

pub repeat_back : {M : Type 0} (k : ℕ) (l : Link M) → Begins l.back.flight (repeat k l).back
repeat_back k l =
    elim (packet_at k l) as (λ o. Begins l.back.flight (with_packet o (repeated l) l).back) [ None ↦ same_flight l.back | Some p ↦ same_flight l.back ]

pub resend_there : {M : Type 0} (l : Link M) → Begins l.there.flight (resend l).there
resend_there l = (unacked l.there, refl)

-- the same for a link seen from either end: whether the call is on it, or on the one back

and_true : (t : Bool) → (t && true) ≡ t
and_true true = refl
and_true false = refl

and_false : (t : Bool) → (t && false) ≡ false
and_false true = refl
and_false false = refl

pub taking_way : {M : Type 0} (c d t : Bool) (k : ℕ) (f : Link M → Link M) (l : Link M)
    → (c ≡ true → Begins (kept_if t k l.there.flight) (f l).there)
    → Begins (turned l).back.flight (f (turned l)).back
    → Begins (kept_if (t && c) k l.there.flight) (if c then f l else if d then turned (f (turned l)) else l).there
taking_way true d t k f l h b = subst (λ u. Begins (kept_if u k l.there.flight) (f l).there) (sym (and_true t)) (h refl)
taking_way false true t k f l h b =
    subst (λ u. Begins (kept_if u k l.there.flight) (turned (f (turned l))).there) (sym (and_false t)) b
taking_way false false t k f l h b = subst (λ u. Begins (kept_if u k l.there.flight) l.there) (sym (and_false t)) (same_flight l.there)

pub plain_way : {M : Type 0} (c d : Bool) (f : Link M → Link M) (l : Link M)
    → Begins l.there.flight (f l).there → Begins (turned l).back.flight (f (turned l)).back
    → Begins l.there.flight (if c then f l else if d then turned (f (turned l)) else l).there
plain_way true d f l h b = h
plain_way false true f l h b = b
plain_way false false f l h b = same_flight l.there

pub put_way : {M : Type 0} (kept : List (Packet M)) (c d : Bool) (m : M) (l : Link M) → Begins kept l.there
    → Begins kept (if c then put m l else if d then turned (put m (turned l)) else l).there
put_way kept true d m l b = with_put kept l.there m b
put_way kept false true m l b = b
put_way kept false false m l b = b
