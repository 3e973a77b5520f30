-- What a reader of bytes has after a line is what a reader of the change has, by names.
use Rattle.std.proofs.Common.{ap, eq-eqb, eqb-true, sym, ◌∙◌}
use Rattle.std.proofs.lemmas.List.{map-append}
use Rattle.std.proofs.lemmas.Slice.Eq.{bytes_eq-Decides}
use Rattle.std.specs.Prelude.{ℕ, zero, suc, ◌-◌, ◌==◌, ◌&&◌, ◌≡◌, ◌≤◌, Bool, true, false, if◌then◌else◌, List, [], ◌∷◌, ◌++◌, drop, filter_map, find, length, map, option_map, unwrap_or, Option, Some, None, refl}
use Rattle.std.specs.List.{AllByRecursion}
use Rattle.std.specs.Str.{bytes_eq}
use Rattle.sdd_inside.specs.Differences.{is_of_link, takes_one}
use Rattle.sdd_inside.specs.Messages.{message_json}
use Rattle.sdd_inside.specs.declared.delta.Delta.{Delta}
use Rattle.sdd_inside.specs.declared.delta.InFlight.{InFlight}
use Rattle.sdd_inside.specs.declared.delta.InFlight.TheVariants as packets
use Rattle.sdd_inside.specs.declared.delta.PipeDelta.{PipeDelta}
use Rattle.sdd_inside.specs.declared.delta.Put.{Put}
use Rattle.sdd_inside.specs.declared.delta.QueueDelta.{QueueDelta}
use Rattle.sdd_inside.specs.declared.moment.QueueMoment.{QueueMoment}
use Rattle.sdd_inside_laws.specs.Reader as reader
use Rattle.sdd_inside_laws.specs.Reader.{Known, KnownLink, KnownPipe}
use Rattle.sdd_inside_laws.specs.TextReader.{AreOfCatalogue, HaveOwnNames, by_names, flying, is_pipe_of, is_put_on, is_queue_of, left_of, message_of, pipe_moved, put_on, queue_moved, read_link, read_pipe, read_queue, read_told, text_link, text_pipe, text_queue}
use Rattle.sdd_inside_read.specs.Told.{ToldPut, name_of, taken_by, taking, told, told_packet, told_pipe, told_put, told_queue}
use Rattle.sdd_app_inside.specs.run.report.Names.{class_word}
use Rattle.sdd_app_inside.specs.watch.obligations.All.{Catalogue, Deliver, Event, Lose, Site, Txn, TxnNo}
use Rattle.sdd_app_inside.specs.watch.obligations.net.Links.{without_at}

-- the first of images

found_image : {A B : Type 0} (p : A → Bool) (q : B → Bool) (f : A → B) (xs : List A) → ((x : A) → q (f x) ≡ p x) → find q (map f xs) ≡ option_map f (find p xs)
found_image p q f [] same = refl
found_image p q f (x ∷ xs) same =
    ap (λ b. if b then Some (f x) else find q (map f xs)) (same x)
    ∙ elim (p x) as (λ b. (if b then Some (f x) else find q (map f xs)) ≡ option_map f (if b then Some x else find p xs)) [
      | true ↦ refl
      | false ↦ found_image p q f xs same
    ]

found_each : {A B : Type 0} (P : A → Type 0) (p : A → Bool) (q : B → Bool) (f : A → B) (xs : List A) → AllByRecursion P xs → ((x : A) → P x → q (f x) ≡ p x)
    → find q (map f xs) ≡ option_map f (find p xs)
found_each P p q f [] h same = refl
found_each P p q f (x ∷ xs) h same =
    ap (λ b. if b then Some (f x) else find q (map f xs)) (same x h.0)
    ∙ elim (p x) as (λ b. (if b then Some (f x) else find q (map f xs)) ≡ option_map f (if b then Some x else find p xs)) [
      | true ↦ refl
      | false ↦ found_each P p q f xs h.1 same
    ]

module _ (cat : Catalogue) (txns : List Txn) where
  -- links

  packets_put : (a b : Site) (puts : List Put) → put_on a b (map (told_put cat txns) puts) ≡ map (told_packet cat txns) (reader.put_on a b puts)
  packets_put a b puts =
      ap (λ o. unwrap_or (option_map (λ (p : ToldPut). p.packets) o) [])
      (found_image (reader.is_put_on a b) (is_put_on a b) (told_put cat txns) puts (λ p. refl))
      ∙ elim (find (reader.is_put_on a b) puts) as (λ o. unwrap_or (option_map (λ (p : ToldPut). p.packets) (option_map (told_put cat txns) o)) []
      ≡ map (told_packet cat txns) (unwrap_or (option_map (λ (p : Put). p.packets) o) [])) [
        | None ↦ refl
        | Some p ↦ refl
      ]

  flying_same : (p : InFlight) → flying (told_packet cat txns p) ≡ reader.flying p
  flying_same (packets.Ack upto) = refl
  flying_same (packets.Again n) = refl
  flying_same (packets.First n m) = refl

  flights_same : (ps : List InFlight) → map flying (map (told_packet cat txns) ps) ≡ map reader.flying ps
  flights_same [] = refl
  flights_same (p ∷ ps) = (λ i. flying_same p i ∷ flights_same ps i)

  messages_same : (ps : List InFlight) → filter_map message_of (map (told_packet cat txns) ps) ≡ map (message_json cat txns) (filter_map reader.told ps)
  messages_same [] = refl
  messages_same (packets.Ack upto ∷ ps) = messages_same ps
  messages_same (packets.Again n ∷ ps) = messages_same ps
  messages_same (packets.First n m ∷ ps) = ap (λ ms. message_json cat txns m ∷ ms) (messages_same ps)

  left_same : (d : Delta) (l : KnownLink) → left_of (taking d) l.from l.to l.flight ≡ reader.flight_left d l
  left_same d l = by_found (takes_one d.found) d.event l
    where
      by_found : (b : Bool) (e : Event) (l : KnownLink) → left_of (if b then taken_by e else None) l.from l.to l.flight
          ≡ (if b && is_of_link l.from l.to e then without_at l.flight (reader.place_in e - 1) else l.flight)
      by_found false e l = refl
      by_found true (Deliver a b k) l = refl
      by_found true (Lose a b k) l = refl
      by_found true _ l = refl

  link_same : (d : Delta) (l : KnownLink) → read_link (told cat txns d) (text_link cat txns l) ≡ text_link cat txns (reader.read_link d l)
  link_same d l =
      let ps : List InFlight = reader.put_on l.from l.to d.put in
      let put = packets_put l.from l.to d.put in
      let left = left_same d l in
      let flying_put = ap (map flying) put ∙ flights_same ps in
      let messages_put = ap (filter_map message_of) put ∙ messages_same ps in
      let messages = ap (λ ms. map (message_json cat txns) l.messages ++ ms) messages_put
      ∙ sym (map-append (message_json cat txns) l.messages (filter_map reader.told ps)) in
      λ i. record {
        from = l.from;
        to = l.to;
        flight = left i ++ flying_put i;
        messages = messages i;
        handed = reader.handed_on l.from l.to d.handed l.handed;
      }

  -- queues

  drop_image : (n : ℕ) (xs : List TxnNo) → drop n (map (name_of txns) xs) ≡ map (name_of txns) (drop n xs)
  drop_image n xs = drop_map n xs
    where
      drop_map : (n : ℕ) (xs : List TxnNo) → drop n (map (name_of txns) xs) ≡ map (name_of txns) (drop n xs)
      drop_map zero xs = refl
      drop_map (suc n) [] = refl
      drop_map (suc n) (x ∷ xs) = drop_map n xs

  moved_same : (o : Option QueueDelta) (before : List TxnNo)
      → queue_moved (option_map (told_queue cat txns) o) (map (name_of txns) before) ≡ map (name_of txns) (reader.queue_moved o before)
  moved_same None before = refl
  moved_same (Some q) before =
      ap (drop q.gone) (sym (map-append (name_of txns) before q.came)) ∙ drop_image q.gone (before ++ q.came)

  -- names tell classes apart
  name_same : HaveOwnNames cat → (c k : ℕ) → c ≤ length cat.classes → k ≤ length cat.classes → bytes_eq (class_word cat c) (class_word cat k) ≡ (c == k)
  name_same own c k h l =
      let d = bytes_eq-Decides (class_word cat c) (class_word cat k) in
      elim (c == k) as (λ b. (c == k) ≡ b → bytes_eq (class_word cat c) (class_word cat k) ≡ b) [
        | true ↦ λ e. d.1 (ap (class_word cat) (eqb-true c k e))
        | false ↦ λ e. (elim (bytes_eq (class_word cat c) (class_word cat k)) as (λ b. bytes_eq (class_word cat c) (class_word cat k) ≡ b → b ≡ false) [
          | true ↦ λ y. (let same : c ≡ k = own c k h l (d.0 y) in
              let yes : (c == k) ≡ true = eq-eqb c k same in absurd cc)
          | false ↦ λ y. refl
        ] refl)
      ] refl

  queue_same : HaveOwnNames cat → (d : Delta) (q : QueueMoment) → AllByRecursion (λ (x : QueueDelta). x.class.0 ≤ length cat.classes) d.queues
      → q.class.0 ≤ length cat.classes → read_queue (told cat txns d) (text_queue cat txns q) ≡ text_queue cat txns (reader.read_queue d q)
  queue_same own d q all one =
      let found = found_each (λ (x : QueueDelta). x.class.0 ≤ length cat.classes) (reader.is_queue_of q.class) (is_queue_of (class_word cat q.class.0))
      (told_queue cat txns) d.queues all (λ x h. name_same own x.class.0 q.class.0 h one) in
      let moved = ap (λ o. queue_moved o (map (name_of txns) q.queue)) found ∙ moved_same (find (reader.is_queue_of q.class) d.queues) q.queue in
      λ i. record { class = class_word cat q.class.0; queue = moved i }

  -- pipes

  pipe_moved_same : (o : Option PipeDelta) (p : KnownPipe) → pipe_moved (option_map (told_pipe cat) o) (text_pipe cat p) ≡ text_pipe cat (reader.pipe_moved o p)
  pipe_moved_same None p = refl
  pipe_moved_same (Some x) p = refl

  pipe_same : HaveOwnNames cat → (d : Delta) (p : KnownPipe) → AllByRecursion (λ (x : PipeDelta). x.class.0 ≤ length cat.classes) d.pipes
      → p.class.0 ≤ length cat.classes → read_pipe (told cat txns d) (text_pipe cat p) ≡ text_pipe cat (reader.read_pipe d p)
  pipe_same own d p all one =
      let found = found_each (λ (x : PipeDelta). x.class.0 ≤ length cat.classes) (reader.is_pipe_of p.dm p.class) (is_pipe_of p.dm (class_word cat p.class.0))
      (told_pipe cat) d.pipes all (λ x h. ap (λ b. x.dm.0 == p.dm.0 && b) (name_same own x.class.0 p.class.0 h one)) in
      ap (λ o. pipe_moved o (text_pipe cat p)) found ∙ pipe_moved_same (find (reader.is_pipe_of p.dm p.class) d.pipes) p

  -- all of it

  each_image : {A B : Type 0} (P : A → Type 0) (f : A → B) (r : B → B) (s : A → A) (xs : List A) → AllByRecursion P xs → ((x : A) → P x → r (f x) ≡ f (s x))
      → map r (map f xs) ≡ map f (map s xs)
  each_image P f r s [] h same = refl
  each_image P f r s (x ∷ xs) h same = (λ i. same x h.0 i ∷ each_image P f r s xs h.1 same i)

  links_same : (d : Delta) (ls : List KnownLink)
      → map (read_link (told cat txns d)) (map (text_link cat txns) ls) ≡ map (text_link cat txns) (map (reader.read_link d) ls)
  links_same d [] = refl
  links_same d (l ∷ ls) = (λ i. link_same d l i ∷ links_same d ls i)

  pub told_read : HaveOwnNames cat → (d : Delta) (k : Known) → AreOfCatalogue cat d k
      → read_told (told cat txns d) (by_names cat txns k) ≡ by_names cat txns (reader.read d k)
  told_read own d k are =
      let links = links_same d k.links in
      let queues = each_image (λ (q : QueueMoment). q.class.0 ≤ length cat.classes) (text_queue cat txns) (read_queue (told cat txns d)) (reader.read_queue d)
      k.queues are.known_queues (λ q h. queue_same own d q are.queues h) in
      let pipes = each_image (λ (p : KnownPipe). p.class.0 ≤ length cat.classes) (text_pipe cat) (read_pipe (told cat txns d)) (reader.read_pipe d)
      k.pipes are.known_pipes (λ p h. pipe_same own d p are.pipes h) in
      λ i. record { links = links i; queues = queues i; pipes = pipes i }
