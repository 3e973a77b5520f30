-- Changes whose numbers are printed whole: each that a reader needs has 64 bits at most, as those of the program have.
use Rattle.std.specs.Prelude.{ℕ, ◌<◌, ◌^◌, ◌≡◌, Some}
use Rattle.std.specs.List.{AllByRecursion}
use Rattle.sdd_inside.specs.declared.delta.Delta.{Delta}
use Rattle.sdd_inside.specs.declared.delta.Handed.{Handed}
use Rattle.sdd_inside.specs.declared.delta.InFlight.{InFlight}
use Rattle.sdd_inside.specs.declared.delta.InFlight.TheVariants as packets
use Rattle.sdd_inside.specs.declared.delta.PipeDelta.{PipeDelta}
use Rattle.sdd_inside.specs.declared.delta.Put.{Put}
use Rattle.sdd_inside.specs.declared.delta.QueueDelta.{QueueDelta}
use Rattle.sdd_inside_read.specs.Told.{Taking, taking}
use Rattle.sdd_script.specs.All.{D, Site, T}
use Rattle.sdd_script.specs.base.declared.site.Site.TheVariants.{U}

abbrev pub IsSmall : ℕ → Type 0
IsSmall n = n < 2 ^ 64

abbrev pub IsSmallSite : Site → Type 0
IsSmallSite U = Unit {0}
IsSmallSite (T tm) = IsSmall tm.0
IsSmallSite (D dm) = IsSmall dm.0

abbrev pub IsSmallTaking : Taking → Type 0
IsSmallTaking t = IsSmallSite t.from × IsSmallSite t.to × IsSmall t.place

abbrev pub IsSmallHanded : Handed → Type 0
IsSmallHanded h = IsSmallSite h.from × IsSmallSite h.to × IsSmall h.upto

abbrev pub IsSmallPacket : InFlight → Type 0
IsSmallPacket (packets.Ack upto) = IsSmall upto
IsSmallPacket (packets.Again n) = IsSmall n
IsSmallPacket (packets.First n message) = IsSmall n

abbrev pub IsSmallPut : Put → Type 0
IsSmallPut p = IsSmallSite p.from × IsSmallSite p.to × AllByRecursion IsSmallPacket p.packets

abbrev pub IsSmallQueue : QueueDelta → Type 0
IsSmallQueue q = IsSmall q.gone

abbrev pub IsSmallPipe : PipeDelta → Type 0
IsSmallPipe p = IsSmall p.dm.0 × AllByRecursion IsSmall p.came × IsSmall p.processed × IsSmall p.passed.0

pub record HasSmallNumbers (d : Delta) : Type 0 where
  pub taken : (t : Taking) → taking d ≡ Some t → IsSmallTaking t
  pub handed : AllByRecursion IsSmallHanded d.handed
  pub put : AllByRecursion IsSmallPut d.put
  pub queues : AllByRecursion IsSmallQueue d.queues
  pub pipes : AllByRecursion IsSmallPipe d.pipes
