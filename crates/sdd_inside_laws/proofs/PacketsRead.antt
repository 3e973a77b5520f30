-- The packets of a link that are told: how they stand in the flight, and which messages are told with them.
use Rattle.std.proofs.Common.{ap, arith, inl, inr, le-leb, le-ltb, lt-ltb, ◌∙◌}
use Rattle.std.proofs.lemmas.Bool.{cases_lt, lt-leb}
use Rattle.std.specs.Prelude.{ℕ, zero, suc, ◌+◌, ◌-◌, ◌≡◌, true, false, if◌then◌else◌, nat_le, List, [], ◌∷◌, ◌++◌, filter, filter_map, flat_map, length, map, slice_get, Option, Some, None, refl}
use Rattle.sdd_app_inside.specs.watch.obligations.All.{Ack, Message, Msg, Packet}
use Rattle.sdd_app_inside.specs.watch.obligations.net.Links.{numbered, without_at}
use Rattle.sdd_inside.specs.Differences.{changes, in_flight}
use Rattle.sdd_inside.specs.declared.delta.InFlight.TheVariants.{Again, First}
use Rattle.sdd_inside_laws.specs.Reader.{flying, told}
use Rattle.sdd_app_inside.proofs.watch.moments.Flights.{is_above}
use Rattle.sdd_app_inside.specs.watch.moments.AtEvent.{taken}

-- as it stands in the flight

flies : (k : ℕ) (p : Packet Msg) → flying (in_flight k p) ≡ taken p
flies k (Message n m) = elim (nat_le n k) as (λ b. flying (if b then Again n else First n m) ≡ taken (Message n m)) [ true ↦ refl | false ↦ refl ]
flies k (Ack upto) = refl

pub all_fly : (k : ℕ) (ps : List (Packet Msg)) → map flying (map (in_flight k) ps) ≡ map taken ps
all_fly k [] = refl
all_fly k (p ∷ ps) = λ i. flies k p i ∷ all_fly k ps i

-- the messages

abbrev message_of : Packet Msg → Option Msg
message_of (Message n m) = Some m
message_of (Ack upto) = None

each_message : (k : ℕ) (ms : List Msg) → filter_map message_of (numbered k ms) ≡ ms
each_message k [] = refl
each_message k (m ∷ ms) = ap (λ xs. m ∷ xs) (each_message (k + 1) ms)

tells_new : (k : ℕ) (ps : List (Packet Msg)) → filter_map told (map (in_flight k) ps) ≡ filter_map message_of (filter (is_above k) ps)
tells_new k [] = refl
tells_new k (Ack upto ∷ ps) = tells_new k ps
tells_new k (Message n m ∷ ps) = elim (cases_lt k n) [
  | inl above ↦ rw (lt-ltb k n above, lt-leb n k above) (ap (λ xs. m ∷ xs) (tells_new k ps))
  | inr old ↦ rw (le-ltb k n old, le-leb n k old) (tells_new k ps)
]

pub new_messages : (k : ℕ) (ps : List (Packet Msg)) (more : List Msg) → filter (is_above k) ps ≡ numbered k more
    → filter_map told (map (in_flight k) ps) ≡ more
new_messages k ps more e = tells_new k ps ∙ ap (filter_map message_of) e ∙ each_message k more

-- how many packets are left

pub fewer : {A : Type 0} (xs : List A) (k : ℕ) (x : A) → slice_get xs k ≡ Some x → length (without_at xs k) ≡ length xs - 1
fewer (y ∷ ys) zero x e = omega arith
fewer (y ∷ z ∷ ys) (suc k) x e =
    let at : suc k + 1 ≡ suc (k + 1) = omega arith in rw at (omega (arith, fewer (z ∷ ys) k x e))
fewer _ _ x e = cc

-- what is told of each of two lists of parts
pub each_change : {A B C : Type 0} (f : A → A → List B) (p q : C → A) (xs : List C)
    → changes f (map p xs) (map q xs) ≡ flat_map (λ x. f (p x) (q x)) xs
each_change f p q [] = refl
each_change f p q (x ∷ xs) = ap (λ ys. f (p x) (q x) ++ ys) (each_change f p q xs)
