-- Sites, packets and messages are read back from their JSON.
use Rattle.std.proofs.Common.{ap, append-nil, ◌∙◌}
use Rattle.std.proofs.lemmas.Bool.{and_parts}
use Rattle.std.proofs.Math.Seq.{drop-append_seam}
use Rattle.std.specs.Fmt.{decimal}
use Rattle.std.specs.List.{AllByRecursion, list_all}
use Rattle.std.specs.Prelude.{ℕ, ◌≡◌, ◌==◌, ◌||◌, Bool, true, false, if◌then◌else◌, List, [], ◌∷◌, ◌++◌, codes, drop, length, map, refl}
use Rattle.sdd_inside.specs.Json.{also, array, escaped, member, object, quoted}
use Rattle.sdd_inside.specs.Lines.{handed_json, put_json}
use Rattle.sdd_inside.specs.Messages.{ack_json, message_json, packet_json}
use Rattle.sdd_inside.specs.Words.{dm_json, site_json}
use Rattle.sdd_inside.specs.declared.delta.Handed.{Handed}
use Rattle.sdd_inside.specs.declared.delta.InFlight.{InFlight}
use Rattle.sdd_inside.specs.declared.delta.InFlight.TheVariants as packets
use Rattle.sdd_inside.specs.declared.delta.Put.{Put}
use Rattle.sdd_inside_read.proofs.DigitsPass.{decimal_plain, number_again, some_digit, whole_number}
use Rattle.sdd_inside_read.proofs.Ends.{HasByte, alone, before_cut, items_again, within_ends}
use Rattle.sdd_inside_read.proofs.JsonPass.{object_is, whole_array, whole_member, whole_triple}
use Rattle.sdd_inside_read.proofs.MembersRead.{each_again, triple_items}
use Rattle.sdd_inside_read.proofs.MessagesPass.{whole_packet}
use Rattle.sdd_inside_read.proofs.NamesPass.{whole_site}
use Rattle.sdd_inside_read.proofs.Passing.{IsWhole, is_plain, means_nothing}
use Rattle.sdd_inside_read.proofs.StringsPass.{string_again}
use Rattle.sdd_inside_read.specs.LineReader.{first_in, handed_in, object_in, packet_in, put_in}
use Rattle.sdd_inside_read.specs.Pieces.{Comma, Within, behind, between_ends, first_piece, items_of, pieces}
use Rattle.sdd_inside_read.specs.Small.{IsSmall, IsSmallHanded, IsSmallPacket, IsSmallPut, IsSmallSite}
use Rattle.sdd_inside_read.specs.Told.{Again, told_packet, told_put}
use Rattle.sdd_inside_read.specs.Told.{Ack as ToldAck, First as ToldFirst}
use Rattle.sdd_inside_read.specs.Values.{module_named, module_of, number_of, site_named, site_of, value_in}
use Rattle.sdd_report.specs.Names.{module_word, site_word}
use Rattle.sdd_script.specs.All.{Catalogue, D, Site, T, Txn, dm_no, tm_no}
use Rattle.sdd_script.specs.base.declared.number.DmNo.{DmNo}
use Rattle.sdd_script.specs.base.declared.site.Site.TheVariants.{U}
use Rattle.sdd_wire.specs.declared.msg.Msg.{Msg}
use Rattle.sdd_wire.specs.declared.msg.Msg.TheVariants as messages

pub quote_begins : (text : List ℕ) → HasByte (quoted text)
quote_begins text = (34, escaped text ++ 34 ∷ [], refl)

-- sites

pub named_again : (s : Site) → IsSmallSite s → site_named (site_word s) ≡ s
named_again U small = refl
named_again (T tm) small = ap (λ n. T (tm_no n)) (number_again tm.0 small)
named_again (D dm) small = ap (λ n. D (dm_no n)) (number_again dm.0 small)

pub site_again : (cat : Catalogue) (txns : List Txn) (s : Site) → IsSmallSite s → site_of (site_json cat txns s) ≡ s
site_again cat txns s small = ap site_named (string_again (site_word s)) ∙ named_again s small

pub module_again : (cat : Catalogue) (txns : List Txn) (d : DmNo) → IsSmall d.0 → module_of (dm_json cat txns d) ≡ d
module_again cat txns d small = ap module_named (string_again (module_word d.0)) ∙ ap dm_no (number_again d.0 small)

-- messages that are handed over

pub handed_again : (cat : Catalogue) (txns : List Txn) (h : Handed) → IsSmallHanded h → handed_in (items_of (handed_json cat txns h)) ≡ h
handed_again cat txns h small =
    let from = site_again cat txns h.from small.0 in
    let to = site_again cat txns h.to small.1 in
    let upto = number_again h.upto small.2 in
    ap handed_in (triple_items (site_json cat txns h.from) (site_json cat txns h.to) (decimal h.upto) (quote_begins (site_word h.from))
    (whole_site cat txns h.from) (whole_site cat txns h.to) (whole_number h.upto))
    ∙ (λ i. record { from = from i; to = to i; upto = upto i })

pub whole_handed : (cat : Catalogue) (txns : List Txn) (h : Handed) → IsWhole (handed_json cat txns h)
whole_handed cat txns h =
    whole_triple (site_json cat txns h.from) (site_json cat txns h.to) (decimal h.upto) (whole_site cat txns h.from) (whole_site cat txns h.to)
    (whole_number h.upto)

-- packets

-- a message's members stand behind a comma
message_behind : (cat : Catalogue) (txns : List Txn) (m : Msg) → message_json cat txns m ≡ 44 ∷ drop 1 (message_json cat txns m)
unfolding also
message_behind cat txns (messages.Read ts class txn attempt conds uses) = refl
message_behind cat txns (messages.Ready ts class counts) = refl
message_behind cat txns (messages.Reject ts class by write) = refl
message_behind cat txns (messages.Fetch ts class use_no column) = refl
message_behind cat txns (messages.Values ts class use_no values) = refl
message_behind cat txns (messages.Reduce ts class use_no column values) = refl
message_behind cat txns (messages.Reduced ts class use_no count) = refl
message_behind cat txns (messages.Ship ts class) = refl
message_behind cat txns (messages.Rows ts class rows) = refl
message_behind cat txns (messages.Write ts class txn changes) = refl
message_behind cat txns (messages.Null class time) = refl
message_behind cat txns (messages.Ask class time) = refl
message_behind cat txns messages.Hold = refl
message_behind cat txns (messages.Held time) = refl
message_behind cat txns (messages.Done ts) = refl
message_behind cat txns (messages.Release ts) = refl

-- an object of which the first member is known
object_with : (first more rest : List ℕ) → IsWhole first → more ≡ 44 ∷ rest
    → object_in (first ++ more) ≡ first_in first (first ++ more) (behind (member (codes "ack") []) first)
object_with first more rest h is =
    let piece : first_piece (pieces Comma (Within 0) (first ++ more)) ≡ first =
    ap (λ t. first_piece (pieces Comma (Within 0) (first ++ t))) is ∙ ap first_piece (before_cut Comma first rest h) in
    λ i. first_in (piece i) (first ++ more) (behind (member (codes "ack") []) (piece i))

object_alone : (first : List ℕ) → IsWhole first → object_in first ≡ first_in first first (behind (member (codes "ack") []) first)
object_alone first h =
    let piece : first_piece (pieces Comma (Within 0) first) ≡ first = ap first_piece (alone Comma first h) in
    λ i. first_in (piece i) first (behind (member (codes "ack") []) (piece i))

of_object : (first more : List ℕ) → packet_in (object first more) ≡ object_in (first ++ more)
of_object first more =
    ap packet_in (object_is first more) ∙ ap object_in (within_ends 123 125 (first ++ more))

ack_again : (upto : ℕ) → IsSmall upto → packet_in (ack_json upto) ≡ ToldAck upto
ack_again upto small =
    let first : List ℕ = member (codes "ack") (decimal upto) in
    of_object first [] ∙ ap object_in (append-nil first)
    ∙ object_alone first (whole_member (codes "ack") (decimal upto) refl (whole_number upto))
    ∙ ap ToldAck (number_again upto small)

first_again : (cat : Catalogue) (txns : List Txn) (n : ℕ) (m : Msg) → IsSmall n
    → packet_in (object (member (codes "n") (decimal n)) (message_json cat txns m)) ≡ ToldFirst n (message_json cat txns m)
first_again cat txns n m small =
    let first : List ℕ = member (codes "n") (decimal n) in
    let more : List ℕ = message_json cat txns m in
    let number : number_of (value_in (codes "n") (first ∷ [])) ≡ n = number_again n small in
    let behind_first : drop (length first) (first ++ more) ≡ more = drop-append_seam first more in
    of_object first more
    ∙ object_with first more (drop 1 more) (whole_member (codes "n") (decimal n) refl (whole_number n)) (message_behind cat txns m)
    ∙ (λ i. ToldFirst (number i) (behind_first i))

plain_number : (text : List ℕ) → list_all is_plain text ≡ true → packet_in text ≡ Again (number_of text)
plain_number [] h = refl
plain_number (c ∷ text) h =
    let p = means_nothing c (and_parts (is_plain c) (list_all is_plain text) h).0 in
    ap (λ b. if b then object_in (between_ends (c ∷ text)) else Again (number_of (c ∷ text))) (second (c == 91) (c == 123) p.opening)
  where
    second : (a b : Bool) → (a || b) ≡ false → b ≡ false
    second false b h = h
    second true b h = absurd cc

again_again : (n : ℕ) → IsSmall n → packet_in (decimal n) ≡ Again n
again_again n small = plain_number (decimal n) (decimal_plain n) ∙ ap Again (number_again n small)

packet_again : (cat : Catalogue) (txns : List Txn) (p : InFlight) → IsSmallPacket p → packet_in (packet_json cat txns p) ≡ told_packet cat txns p
packet_again cat txns (packets.Ack upto) small = ack_again upto small
packet_again cat txns (packets.Again n) small = again_again n small
packet_again cat txns (packets.First n m) small = first_again cat txns n m small

-- packets that were put

some_packet : (cat : Catalogue) (txns : List Txn) (p : InFlight) → IsSmallPacket p → HasByte (packet_json cat txns p)
some_packet cat txns (packets.Ack upto) small = (123, _, refl)
some_packet cat txns (packets.Again n) small = some_digit n small
some_packet cat txns (packets.First n m) small = (123, _, refl)

packets_again : (cat : Catalogue) (txns : List Txn) (ps : List InFlight) → AllByRecursion IsSmallPacket ps
    → map packet_in (items_of (array (packet_json cat txns) ps)) ≡ map (told_packet cat txns) ps
packets_again cat txns [] small = refl
packets_again cat txns (p ∷ ps) small =
    ap (map packet_in) (items_again (packet_json cat txns) p ps (some_packet cat txns p small.0) (whole_packet cat txns))
    ∙ each_again IsSmallPacket (packet_json cat txns) packet_in (told_packet cat txns) (p ∷ ps) (packet_again cat txns) small

pub whole_put : (cat : Catalogue) (txns : List Txn) (p : Put) → IsWhole (put_json cat txns p)
whole_put cat txns p =
    whole_triple (site_json cat txns p.from) (site_json cat txns p.to) (array (packet_json cat txns) p.packets) (whole_site cat txns p.from)
    (whole_site cat txns p.to)
    (whole_array (packet_json cat txns) p.packets (whole_packet cat txns))

pub put_again : (cat : Catalogue) (txns : List Txn) (p : Put) → IsSmallPut p → put_in (items_of (put_json cat txns p)) ≡ told_put cat txns p
put_again cat txns p small =
    let from = site_again cat txns p.from small.0 in
    let to = site_again cat txns p.to small.1 in
    let all = packets_again cat txns p.packets small.2 in
    ap put_in (triple_items (site_json cat txns p.from) (site_json cat txns p.to) (array (packet_json cat txns) p.packets) (quote_begins (site_word p.from))
    (whole_site cat txns p.from) (whole_site cat txns p.to) (whole_array (packet_json cat txns) p.packets (whole_packet cat txns)))
    ∙ (λ i. record { from = from i; to = to i; packets = all i })
