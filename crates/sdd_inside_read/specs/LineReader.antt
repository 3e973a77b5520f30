-- A reader of the bytes of a line: what it tells of links, queues and pipes.
use Rattle.std.specs.Prelude.{ℕ, ◌==◌, ◌||◌, Bool, true, false, if◌then◌else◌, List, [], ◌∷◌, codes, drop, filter, length, map, Option, Some, None, is_some}
use Rattle.std.specs.Str.{bytes_eq}
use Rattle.sdd_inside.specs.Json.{member}
use Rattle.sdd_inside.specs.declared.delta.Handed.{Handed}
use Rattle.sdd_inside_read.specs.Pieces.{Comma, Newline, Within, behind, between_ends, first_piece, items_of, pieces}
use Rattle.sdd_inside_read.specs.Told.{Ack, Again, First, Taking, Told, ToldPacket, ToldPipe, ToldPut, ToldQueue}
use Rattle.sdd_inside_read.specs.Values.{list_in, module_of, number_in, number_of, site_named, site_of, string_of, value_in, value_of, words_of}

-- the packet that was taken: where the line tells of one, that at the place which `deliver` or `lose` names

abbrev pub is_taking : List ℕ → Bool
is_taking word = bytes_eq word (codes "deliver") || bytes_eq word (codes "lose")

abbrev pub place_at : List (List ℕ) → Option Taking
place_at (from ∷ to ∷ place ∷ []) = Some (record { from = site_named from; to = site_named to; place = number_of place })
place_at _ = None

abbrev pub taking_in : List (List ℕ) → Option Taking
taking_in [] = None
taking_in (word ∷ words) = if is_taking word then place_at words else None

abbrev pub taking_of : List (List ℕ) → Option Taking
taking_of members = if is_some (value_of (codes "took") members) then taking_in (words_of (string_of (value_in (codes "do") members))) else None

-- lists of two sites and one value more

abbrev pub handed_in : List (List ℕ) → Handed
handed_in (from ∷ to ∷ upto ∷ []) = record { from = site_of from; to = site_of to; upto = number_of upto }
handed_in _ = record { from = site_of []; to = site_of []; upto = 0 }

-- a message is told with its first packet: its number, and then its members
abbrev pub first_in : List ℕ → List ℕ → Option (List ℕ) → ToldPacket
first_in number text None = First (number_of (value_in (codes "n") (number ∷ []))) (drop (length number) text)
first_in number text (Some upto) = Ack (number_of upto)

abbrev pub object_in : List ℕ → ToldPacket
object_in text =
    first_in (first_piece (pieces Comma (Within 0) text)) text (behind (member (codes "ack") []) (first_piece (pieces Comma (Within 0) text)))

abbrev pub packet_in : List ℕ → ToldPacket
packet_in [] = Again 0
packet_in (c ∷ text) = if c == 123 then object_in (between_ends (c ∷ text)) else Again (number_of (c ∷ text))

abbrev pub put_in : List (List ℕ) → ToldPut
put_in (from ∷ to ∷ packets ∷ []) = record { from = site_of from; to = site_of to; packets = map packet_in (items_of packets) }
put_in _ = record { from = site_of []; to = site_of []; packets = [] }

-- objects

abbrev pub queue_in : List (List ℕ) → ToldQueue
queue_in members =
    record {
      class = string_of (value_in (codes "class") members);
      came = map string_of (list_in (codes "in") members);
      gone = number_in (codes "out") members;
    }

abbrev pub pipe_in : List (List ℕ) → ToldPipe
pipe_in members =
    record {
      dm = module_of (value_in (codes "at") members);
      class = string_of (value_in (codes "class") members);
      came = map number_of (list_in (codes "in") members);
      processed = number_in (codes "out") members;
      passed = number_in (codes "passed") members;
    }

-- a line
abbrev pub told_in : List (List ℕ) → Told
told_in members =
    record {
      taking = taking_of members;
      handed = map (λ (h : List ℕ). handed_in (items_of h)) (list_in (codes "handed") members);
      put = map (λ (p : List ℕ). put_in (items_of p)) (list_in (codes "put") members);
      queues = map (λ (q : List ℕ). queue_in (items_of q)) (list_in (codes "queues") members);
      pipes = map (λ (p : List ℕ). pipe_in (items_of p)) (list_in (codes "pipes") members);
    }

-- the lines of a text; behind the last newline stands nothing
abbrev pub lines_of : List ℕ → List (List ℕ)
lines_of text = pieces Newline (Within 0) text

-- those of the events: all behind the first one
abbrev pub has_byte : List ℕ → Bool
has_byte [] = false
has_byte (c ∷ line) = true

abbrev pub event_lines : List ℕ → List (List ℕ)
event_lines text = filter has_byte (drop 1 (lines_of text))

abbrev pub read_line : List ℕ → Told
read_line text = told_in (items_of (first_piece (lines_of text)))
