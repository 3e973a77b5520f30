-- Which calls the mail represents: those that its network of spellings represents, each message spelled.
use Rattle.std.specs.Prelude.{ℕ, ◌≡◌, IsTrue, List, [], ◌∷◌, map}
use Rattle.std.specs.List.{AllByRecursion}
use Rattle.sdd_needs.specs.All.{Ack, Call, Delivered, Directions, FitsMsg, Kept, Message, Messages, Msg, Packet, Puts, Represents, call_as, delivered_as, spelled}

-- what contracts see of a mail: whether it is live, and the network of spellings
abbrev pub NetValue : Type 0
NetValue = Kept (Directions (List ℕ))

-- the calls with the messages' spellings
abbrev pub in_bytes : List (Call Msg) → List (Call (List ℕ))
in_bytes calls = map (call_as spelled) calls

-- P holds of each message that is put
abbrev pub AllPut : {M : Type 0} → (M → Type 0) → List (Call M) → Type 0
AllPut P [] = Unit {0}
AllPut P (Puts a b m ∷ calls) = P m × AllPut P calls
AllPut P (_ ∷ calls) = AllPut P calls

-- P holds of each message that is handed on
abbrev pub AllDelivered : {M : Type 0} → (M → Type 0) → Delivered M → Type 0
AllDelivered P (Messages ms) = AllByRecursion P ms
AllDelivered P _ = Unit {0}

-- a network of spellings, with the links between so many modules, represents these calls
pub record Carries (net : Kept (Directions (List ℕ))) (tms dms : ℕ) (calls : List (Call Msg)) : Type 0 where
  pub live : IsTrue net.live
  pub tms_are : net.value.tms ≡ tms
  pub dms_are : net.value.dms ≡ dms
  pub represents : Represents net (in_bytes calls)
  pub fit : AllPut FitsMsg calls

-- bytes spell a message
abbrev pub IsSpelling : List ℕ → Type 0
IsSpelling bytes = (msg : Msg) × FitsMsg msg × (bytes ≡ spelled msg)

-- a packet's message fits, where it has one
abbrev pub PacketFits : Packet Msg → Type 0
PacketFits (Message n m) = FitsMsg m
PacketFits (Ack upto) = Unit {0}

-- a packet in bytes spells its message, where it has one
abbrev pub IsPacketSpelling : Packet (List ℕ) → Type 0
IsPacketSpelling (Message n bytes) = IsSpelling bytes
IsPacketSpelling (Ack upto) = Unit {0}

-- what is handed on in bytes are the spellings of this
pub record Spells (given : Delivered (List ℕ)) (found : Delivered Msg) : Type 0 where
  pub spelled_so : given ≡ delivered_as spelled found
  pub fit : AllDelivered FitsMsg found
