-- A reader of what the bytes of lines tell (`read_line` of sdd_inside_read): he knows classes and transactions by their names, and
-- of a message what its members tell, and goes by the same two rules.
use Rattle.std.specs.Prelude.{ℕ, ◌-◌, ◌==◌, ◌&&◌, ◌≡◌, ◌≤◌, Bool, if◌then◌else◌, List, [], ◌++◌, drop, filter_map, find, fold, length, map, option_map, unwrap_or, Option, Some, None}
use Rattle.std.specs.List.{AllByRecursion}
use Rattle.std.specs.Str.{bytes_eq}
use Rattle.sdd_inside.specs.Messages.{message_json}
use Rattle.sdd_inside.specs.declared.delta.Delta.{Delta}
use Rattle.sdd_inside.specs.declared.delta.PipeDelta.{PipeDelta}
use Rattle.sdd_inside.specs.declared.delta.QueueDelta.{QueueDelta}
use Rattle.sdd_inside.specs.declared.delta.Taken.{Taken}
use Rattle.sdd_inside.specs.declared.delta.Taken.TheVariants as takens
use Rattle.sdd_inside.specs.declared.moment.QueueMoment.{QueueMoment}
use Rattle.sdd_inside_laws.specs.Reader.{Known, KnownLink, KnownPipe, handed_on}
use Rattle.sdd_inside_read.specs.Told.{Ack, Again, First, Taking, Told, ToldPacket, ToldPipe, ToldPut, ToldQueue, name_of}
use Rattle.sdd_app_inside.specs.run.report.Names.{class_word}
use Rattle.sdd_app_inside.specs.watch.obligations.All.{Catalogue, DmNo, Site, Txn, same_site}
use Rattle.sdd_app_inside.specs.watch.obligations.net.Links.{without_at}

-- what is known

pub record TextLink : Type 0 where
  pub from : Site
  pub to : Site
  pub flight : List Taken
  pub messages : List (List ℕ)
  pub handed : ℕ

pub record TextQueue : Type 0 where
  pub class : List ℕ
  pub queue : List (List ℕ)

pub record TextPipe : Type 0 where
  pub dm : DmNo
  pub class : List ℕ
  pub waiting : List ℕ
  pub passed : ℕ

pub record TextKnown : Type 0 where
  pub links : List TextLink
  pub queues : List TextQueue
  pub pipes : List TextPipe

-- what is known, by names and by what the text tells of messages

abbrev pub text_link : Catalogue → List Txn → KnownLink → TextLink
text_link cat txns l =
    record { from = l.from; to = l.to; flight = l.flight; messages = map (message_json cat txns) l.messages; handed = l.handed }

abbrev pub text_queue : Catalogue → List Txn → QueueMoment → TextQueue
text_queue cat txns q = record { class = class_word cat q.class.0; queue = map (name_of txns) q.queue }

abbrev pub text_pipe : Catalogue → KnownPipe → TextPipe
text_pipe cat p = record { dm = p.dm; class = class_word cat p.class.0; waiting = p.waiting; passed = p.passed.0 }

abbrev pub by_names : Catalogue → List Txn → Known → TextKnown
by_names cat txns k =
    record { links = map (text_link cat txns) k.links; queues = map (text_queue cat txns) k.queues; pipes = map (text_pipe cat) k.pipes }

-- links

abbrev pub flying : ToldPacket → Taken
flying (Ack upto) = takens.Ack upto
flying (Again n) = takens.Message n
flying (First n message) = takens.Message n

abbrev pub message_of : ToldPacket → Option (List ℕ)
message_of (First n message) = Some message
message_of _ = None

abbrev pub is_put_on : Site → Site → ToldPut → Bool
is_put_on a b p = same_site p.from a && same_site p.to b

abbrev pub put_on : Site → Site → List ToldPut → List ToldPacket
put_on a b puts = unwrap_or (option_map (λ (p : ToldPut). p.packets) (find (is_put_on a b) puts)) []

abbrev pub left_of : Option Taking → Site → Site → List Taken → List Taken
left_of None a b flight = flight
left_of (Some t) a b flight = if same_site t.from a && same_site t.to b then without_at flight (t.place - 1) else flight

abbrev pub read_link : Told → TextLink → TextLink
read_link t l =
    record l {
      flight = left_of t.taking l.from l.to l.flight ++ map flying (put_on l.from l.to t.put);
      messages = l.messages ++ filter_map message_of (put_on l.from l.to t.put);
      handed = handed_on l.from l.to t.handed l.handed;
    }

-- queues and pipes

abbrev pub is_queue_of : List ℕ → ToldQueue → Bool
is_queue_of class q = bytes_eq q.class class

abbrev pub queue_moved : Option ToldQueue → List (List ℕ) → List (List ℕ)
queue_moved None before = before
queue_moved (Some q) before = drop q.gone (before ++ q.came)

abbrev pub read_queue : Told → TextQueue → TextQueue
read_queue t q = record q { queue = queue_moved (find (is_queue_of q.class) t.queues) q.queue }

abbrev pub is_pipe_of : DmNo → List ℕ → ToldPipe → Bool
is_pipe_of dm class p = p.dm.0 == dm.0 && bytes_eq p.class class

abbrev pub pipe_moved : Option ToldPipe → TextPipe → TextPipe
pipe_moved None before = before
pipe_moved (Some p) before = record before { waiting = drop p.processed (before.waiting ++ p.came); passed = p.passed }

abbrev pub read_pipe : Told → TextPipe → TextPipe
read_pipe t p = pipe_moved (find (is_pipe_of p.dm p.class) t.pipes) p

-- a line
abbrev pub read_told : Told → TextKnown → TextKnown
read_told t before =
    record { links = map (read_link t) before.links; queues = map (read_queue t) before.queues; pipes = map (read_pipe t) before.pipes }

-- Classes have names of their own: those of a list, and that of undeclared transactions.
abbrev pub HaveOwnNames : Catalogue → Type 0
HaveOwnNames cat = (c d : ℕ) → c ≤ length cat.classes → d ≤ length cat.classes → class_word cat c ≡ class_word cat d → c ≡ d

-- all classes that stand in a change, and in what is known, are of the catalogue

pub record AreOfCatalogue (cat : Catalogue) (d : Delta) (k : Known) : Type 0 where
  pub queues : AllByRecursion (λ (q : QueueDelta). q.class.0 ≤ length cat.classes) d.queues
  pub pipes : AllByRecursion (λ (p : PipeDelta). p.class.0 ≤ length cat.classes) d.pipes
  pub known_queues : AllByRecursion (λ (q : QueueMoment). q.class.0 ≤ length cat.classes) k.queues
  pub known_pipes : AllByRecursion (λ (p : KnownPipe). p.class.0 ≤ length cat.classes) k.pipes

-- what he has who reads these lines one after the other
abbrev pub read_all_told : List Told → TextKnown → TextKnown
read_all_told lines before = fold (λ known line. read_told line known) before lines
