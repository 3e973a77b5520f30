-- Worked lines: what the reference prints of runs of examples/, event by event.
use Rattle.std.specs.Prelude.{ℕ, ◌≡◌, [], ◌∷◌, ◌++◌, List, map, codes, pos, true, false, Option, Some, None, refl}
use Rattle.std.specs.Fmt.{digits}
use Rattle.sdd_script.specs.All.{Catalogue, Class, D, Event, Fragment, Int, Site, T, Txn, Value, dm_no, rel_no, tm_no, txn_no}
use Rattle.sdd_script.specs.base.Numbers.{class_no, frag_no, time_at}
use Rattle.sdd_script.specs.base.declared.change.Change.{Change}
use Rattle.sdd_script.specs.base.declared.condition.Cond.{Cond}
use Rattle.sdd_script.specs.base.declared.event.Event.TheVariants as events
use Rattle.sdd_script.specs.base.declared.number.DmNo.{DmNo}
use Rattle.sdd_script.specs.base.declared.site.Site.TheVariants.{U}
use Rattle.sdd_script.specs.base.declared.value.Value.TheVariants.{Text}
use Rattle.sdd_report.specs.declared.copies.CopyTable.{CopyTable}
use Rattle.sdd_wire.specs.declared.msg.Msg.TheVariants as messages
use Rattle.sdd_inside.specs.Json.{also}
use Rattle.sdd_inside.specs.Lines.{line, beginning}
use Rattle.sdd_inside.specs.declared.delta.Delta.{Delta}
use Rattle.sdd_inside.specs.declared.delta.Found.{Found}
use Rattle.sdd_inside.specs.declared.delta.Found.TheVariants as founds
use Rattle.sdd_inside.specs.declared.delta.Handed.{Handed}
use Rattle.sdd_inside.specs.declared.delta.InFlight.{InFlight}
use Rattle.sdd_inside.specs.declared.delta.InFlight.TheVariants.{Ack, Again, First}
use Rattle.sdd_inside.specs.declared.delta.Taken.TheVariants as takens
use Rattle.sdd_inside.specs.declared.delta.Put.{Put}
use Rattle.sdd_inside.specs.declared.standing.Active.{Active}
use Rattle.sdd_inside.specs.declared.standing.Head.{Head}
use Rattle.sdd_inside.specs.declared.standing.Head.TheVariants as heads
use Rattle.sdd_inside.specs.declared.standing.Phase.{Phase}
use Rattle.sdd_inside.specs.declared.standing.Phase.TheVariants as phases
use Rattle.sdd_inside.specs.declared.standing.SiteState.{SiteState}
use Rattle.sdd_inside.specs.declared.standing.SiteState.TheVariants as states
use Rattle.sdd_inside.specs.declared.standing.Stage.TheVariants as stages

-- of a catalogue and of transactions a line tells the names alone

abbrev pub fragment : List ℕ → Fragment
fragment name = record { name = name; rel = rel_no 1; least = pos 0; greatest = pos 9; copies = [] }

abbrev pub class : List ℕ → Class
class name = record { name = name; tm = tm_no 1; reads = []; writes = [] }

abbrev pub txn : List ℕ → Txn
txn name = record { name = name; tm = tm_no 1; statements = [] }

abbrev pub named : ℕ → ℕ → List (List ℕ) → List (List ℕ) → Catalogue
named tms dms fragments classes =
    record { tms = tms; dms = dms; relations = []; fragments = map fragment fragments; classes = map class classes }

abbrev pub t1 : Site
t1 = T (tm_no 1)

abbrev pub t2 : Site
t2 = T (tm_no 2)

abbrev pub t3 : Site
t3 = T (tm_no 3)

abbrev pub d1 : Site
d1 = D (dm_no 1)

abbrev pub d2 : Site
d2 = D (dm_no 2)

abbrev pub whole : ℕ → Value
whole n = Int (pos n)

abbrev pub cond : ℕ → ℕ → Cond
cond class time = record { class = class_no class; time = time_at time; frags = [] }

abbrev pub change : ℕ → ℕ → Option (List Value) → Change
change frag key row = record { frag = frag_no frag; key = pos key; row = row }

abbrev pub on : Site → Site → List InFlight → Put
on from to packets = record { from = from; to = to; packets = packets }

abbrev pub handed : Site → Site → ℕ → Handed
handed from to upto = record { from = from; to = to; upto = upto }

abbrev pub active : ℕ → ℕ → ℕ → ℕ → Phase → List DmNo → Active
active class txn attempt time phase lacks =
    record { class = class_no class; txn = txn_no txn; attempt = attempt; time = time_at time; phase = phase; lacks = lacks }

abbrev pub dm_state : ℕ → List Head → SiteState
dm_state dm heads = states.D (record { dm = dm_no dm; is_down = false; heads = heads })

-- an event that changes nothing
abbrev pub step : ℕ → ℕ → Event → Found → Delta
step number scheduled event found =
    record {
      number = number;
      scheduled = scheduled;
      round = None;
      event = event;
      found = found;
      handed = [];
      put = [];
      queues = [];
      pipes = [];
      rows = [];
      sites = [];
    }

-- examples/lost_packet

abbrev pub lost_packet : Catalogue
lost_packet = named 2 1 ((codes "counters") ∷ []) ((codes "setter") ∷ (codes "viewer") ∷ [])

abbrev pub lost_packet_txns : List Txn
lost_packet_txns = map txn ((codes "one") ∷ (codes "two") ∷ (codes "three") ∷ (codes "view") ∷ [])

abbrev pub lost_packet_copies : List CopyTable
lost_packet_copies = ((record { dm = (dm_no 1); frag = (frag_no 1); rows = ((whole 1 ∷ whole 0 ∷ []) ∷ []) }) ∷ [])

pub lost_packet_begins_text
    : beginning lost_packet lost_packet_txns lost_packet_copies
    ≡ codes "{\"inside\":1,\"tms\":2,\"dms\":1,\"copies\":[{\"at\":\"D1\",\"fragment\":\"counters\",\"rows\":[\"1 0\"]}]}\n"
unfolding digits also
lost_packet_begins_text = refl

abbrev pub one_submitted : Delta
one_submitted =
    record (step 1 1 (events.Submit (txn_no 1)) founds.Something) {
      put = (on t1 d1 ((First 1 (messages.Write (time_at 65) (class_no 1) (txn_no 1) ((change 1 1 (Some (whole 1 ∷ whole 1 ∷ [])) ∷ []))) ∷ []))
          ∷ []);
      sites = ((states.T (record { tm = tm_no 1; is_down = false; clock = 1; on_hold = false; owes_held = false; asks = []; active = [] })) ∷ []);
    }

pub one_submitted_text
    : line lost_packet lost_packet_txns one_submitted
    ≡ codes "{\"event\":1,\"of\":1,\"do\":\"submit one\",\"put\":[[\"T1\",\"D1\",[{\"n\":1,\"kind\":\"WRITE\",\"class\":\"setter\","
    ++ codes "\"time\":65,\"txn\":\"one\",\"changes\":[[\"counters\",\"1\",\"1 1\"]]}]]],\"sites\":[{\"at\":\"T1\",\"clock\":1}]}\n"
unfolding digits also
one_submitted_text = refl

abbrev pub one_lost : Delta
one_lost = step 4 4 (events.Lose t1 d1 1) (founds.Lost (takens.Message 1))

pub one_lost_text
    : line lost_packet lost_packet_txns one_lost
    ≡ codes "{\"event\":4,\"of\":4,\"do\":\"lose T1 D1 1\",\"took\":1}\n"
unfolding digits also
one_lost_text = refl

abbrev pub two_early : Delta
two_early =
    record (step 5 5 (events.Deliver t1 d1 1) (founds.Arrived 2 0)) {
      put = (on d1 t1 ((Ack 0) ∷ []) ∷ []);
    }

pub two_early_text
    : line lost_packet lost_packet_txns two_early
    ≡ codes "{\"event\":5,\"of\":5,\"do\":\"deliver T1 D1 1\",\"took\":2,\"delivered\":0,\"put\":[[\"D1\",\"T1\",[{\"ack\":0}]]]}\n"
unfolding digits also
two_early_text = refl

abbrev pub three_repeated : Delta
three_repeated =
    record (step 6 6 (events.Repeat t1 d1 1) founds.Something) {
      put = (on t1 d1 ((Again 3) ∷ []) ∷ []);
    }

pub three_repeated_text
    : line lost_packet lost_packet_txns three_repeated
    ≡ codes "{\"event\":6,\"of\":6,\"do\":\"repeat T1 D1 1\",\"put\":[[\"T1\",\"D1\",[3]]]}\n"
unfolding digits also
three_repeated_text = refl

abbrev pub all_applied : Delta
all_applied =
    record (step 9 9 (events.Deliver t1 d1 2) (founds.Arrived 1 3)) {
      handed = (handed t1 d1 3 ∷ []);
      put = (on d1 t1 ((Ack 3) ∷ []) ∷ []);
      pipes = ((record { dm = (dm_no 1); class = (class_no 1); came = (1 ∷ 2 ∷ 3 ∷ []); processed = 3; passed = (time_at 193) }) ∷ []);
      rows = ((record { dm = (dm_no 1); item = change 1 1 (Some (whole 1 ∷ whole 3 ∷ [])) }) ∷ []);
      sites = (dm_state 1 [] ∷ []);
    }

pub all_applied_text
    : line lost_packet lost_packet_txns all_applied
    ≡ codes "{\"event\":9,\"of\":9,\"do\":\"deliver T1 D1 2\",\"took\":1,\"delivered\":3,\"handed\":[[\"T1\",\"D1\",3]],\"put\":[[\"D1\","
    ++ codes "\"T1\",[{\"ack\":3}]]],\"pipes\":[{\"at\":\"D1\",\"class\":\"setter\",\"in\":[1,2,3],\"out\":3,\"passed\":193}],"
    ++ codes "\"rows\":[[\"D1\",\"counters\",\"1\",\"1 3\"]],\"sites\":[{\"at\":\"D1\"}]}\n"
unfolding digits also
all_applied_text = refl

-- examples/held_write

abbrev pub held_write : Catalogue
held_write = named 3 1 ((codes "readings") ∷ []) ((codes "monitor") ∷ (codes "inside") ∷ (codes "outside") ∷ [])

abbrev pub held_write_txns : List Txn
held_write_txns = map txn ((codes "show") ∷ (codes "cold") ∷ [])

abbrev pub write_held : Delta
write_held =
    record (step 6 6 (events.Deliver t3 d1 1) (founds.Arrived 1 1)) {
      handed = (handed t3 d1 1 ∷ []);
      put = (on d1 t3 ((Ack 1) ∷ []) ∷ []);
      pipes = ((record { dm = (dm_no 1); class = (class_no 3); came = (1 ∷ []); processed = 0; passed = (time_at 259) }) ∷ []);
      sites = (dm_state 1 ((heads.Waits (class_no 1) (cond 2 191 ∷ [])) ∷ (heads.Held (class_no 3) ((class_no 1) ∷ [])) ∷ []) ∷ []);
    }

pub write_held_text
    : line held_write held_write_txns write_held
    ≡ codes "{\"event\":6,\"of\":6,\"do\":\"deliver T3 D1 1\",\"took\":1,\"delivered\":1,\"handed\":[[\"T3\",\"D1\",1]],\"put\":[[\"D1\","
    ++ codes "\"T3\",[{\"ack\":1}]]],\"pipes\":[{\"at\":\"D1\",\"class\":\"outside\",\"in\":[1],\"passed\":259}],\"sites\":[{\"at\":\"D1\","
    ++ codes "\"heads\":[{\"class\":\"monitor\",\"waits\":[[\"inside\",191]]},{\"class\":\"outside\",\"held\":[\"monitor\"]}]}]}\n"
unfolding digits also
write_held_text = refl

-- examples/undeclared

abbrev pub undeclared : Catalogue
undeclared = named 2 2 ((codes "items") ∷ []) ((codes "day") ∷ (codes "night") ∷ [])

abbrev pub undeclared_txns : List Txn
undeclared_txns = map txn ((codes "buy") ∷ (codes "audit") ∷ (codes "late") ∷ [])

abbrev pub hold_owed : Delta
hold_owed =
    record (step 5 5 (events.Deliver U t1 1) (founds.Arrived 1 1)) {
      round = Some 1;
      handed = (handed U t1 1 ∷ []);
      put = (on t1 U ((Ack 1) ∷ []) ∷ []);
      sites = ((states.T (record {
        tm = tm_no 1;
        is_down = false;
        clock = 1;
        on_hold = true;
        owes_held = true;
        asks = [];
        active = (active 1 1 1 65 phases.Reading
            ((dm_no 1) ∷ []) ∷ []);
      })) ∷ []);
    }

pub hold_owed_text
    : line undeclared undeclared_txns hold_owed
    ≡ codes "{\"event\":5,\"of\":5,\"round\":1,\"do\":\"deliver U T1 1\",\"took\":1,\"delivered\":1,\"handed\":[[\"U\",\"T1\","
    ++ codes "1]],\"put\":[[\"T1\",\"U\",[{\"ack\":1}]]],\"sites\":[{\"at\":\"T1\",\"clock\":1,\"hold\":true,\"owes\":true,\"active\":[{\"class\":\"day\","
    ++ codes "\"txn\":\"buy#1\",\"time\":65,\"phase\":\"reading\",\"lacks\":[\"D1\"]}]}]}\n"
unfolding digits also
hold_owed_text = refl

abbrev pub undeclared_reads : Delta
undeclared_reads =
    record (step 21 5 (events.Deliver t1 U 1) (founds.Arrived 1 1)) {
      round = Some 7;
      handed = (handed t1 U 1 ∷ []);
      put = (on U t1 ((Ack 1) ∷ []) ∷ on U d1 ((First 1 (messages.Read (time_at 128) (class_no 0) (txn_no 2) 1 (cond 1 128 ∷ cond 2 128
          ∷ []) [])) ∷ []) ∷ on U d2 ((First 1 (messages.Read (time_at 128) (class_no 0) (txn_no 2) 1 (cond 1 128 ∷ cond 2 128 ∷ []) [])) ∷ [])
          ∷ []);
      sites = ((states.U (record {
        clock = 2;
        stage = stages.Reading;
        lacks = (d1 ∷ d2 ∷ []);
        active = (active 0 2 1 128 phases.Reading
            ((dm_no 1) ∷ (dm_no 2) ∷ []) ∷ []);
      })) ∷ []);
    }

pub undeclared_reads_text
    : line undeclared undeclared_txns undeclared_reads
    ≡ codes "{\"event\":21,\"of\":5,\"round\":7,\"do\":\"deliver T1 U 1\",\"took\":1,\"delivered\":1,\"handed\":[[\"T1\",\"U\","
    ++ codes "1]],\"put\":[[\"U\",\"T1\",[{\"ack\":1}]],[\"U\",\"D1\",[{\"n\":1,\"kind\":\"READ\",\"class\":\"-\",\"time\":128,"
    ++ codes "\"txn\":\"audit#1\",\"conds\":[[\"day\",128],[\"night\",128]]}]],[\"U\",\"D2\",[{\"n\":1,\"kind\":\"READ\",\"class\":\"-\","
    ++ codes "\"time\":128,\"txn\":\"audit#1\",\"conds\":[[\"day\",128],[\"night\",128]]}]]],\"sites\":[{\"at\":\"U\",\"clock\":2,"
    ++ codes "\"phase\":\"reading\",\"lacks\":[\"D1\",\"D2\"],\"active\":[{\"class\":\"-\",\"txn\":\"audit#1\",\"time\":128,\"phase\":\"reading\","
    ++ codes "\"lacks\":[\"D1\",\"D2\"]}]}]}\n"
unfolding digits also
undeclared_reads_text = refl

-- examples/rejected_read

abbrev pub rejected_read : Catalogue
rejected_read = named 2 1 ((codes "free") ∷ (codes "sold") ∷ []) ((codes "office") ∷ (codes "manager") ∷ [])

abbrev pub rejected_read_txns : List Txn
rejected_read_txns = map txn ((codes "sell") ∷ (codes "close") ∷ [])

abbrev pub closed : Delta
closed =
    record (step 3 3 (events.Deliver t2 d1 1) (founds.Arrived 1 1)) {
      handed = (handed t2 d1 1 ∷ []);
      put = (on d1 t2 ((Ack 1) ∷ []) ∷ []);
      pipes = ((record { dm = (dm_no 1); class = (class_no 2); came = (1 ∷ []); processed = 1; passed = (time_at 66) }) ∷ []);
      rows = ((record { dm = (dm_no 1); item = change 1 7 (Some (whole 7 ∷ (Text (codes "closed")) ∷ [])) }) ∷ []);
      sites = (dm_state 1 [] ∷ []);
    }

pub closed_text
    : line rejected_read rejected_read_txns closed
    ≡ codes "{\"event\":3,\"of\":3,\"do\":\"deliver T2 D1 1\",\"took\":1,\"delivered\":1,\"handed\":[[\"T2\",\"D1\",1]],\"put\":[[\"D1\","
    ++ codes "\"T2\",[{\"ack\":1}]]],\"pipes\":[{\"at\":\"D1\",\"class\":\"manager\",\"in\":[1],\"out\":1,\"passed\":66}],\"rows\":[[\"D1\","
    ++ codes "\"free\",\"7\",\"7 \\\"closed\\\"\"]],\"sites\":[{\"at\":\"D1\"}]}\n"
unfolding digits also
closed_text = refl

abbrev pub read_rejected : Delta
read_rejected =
    record (step 4 4 (events.Deliver t1 d1 1) (founds.Arrived 1 1)) {
      handed = (handed t1 d1 1 ∷ []);
      put = (on d1 t1 ((Ack 1) ∷ (First 1 (messages.Reject (time_at 65) (class_no 1) (class_no 2) (time_at 66))) ∷ []) ∷ []);
      pipes = ((record { dm = (dm_no 1); class = (class_no 1); came = (1 ∷ []); processed = 1; passed = (time_at 65) }) ∷ []);
      sites = (dm_state 1 [] ∷ []);
    }

pub read_rejected_text
    : line rejected_read rejected_read_txns read_rejected
    ≡ codes "{\"event\":4,\"of\":4,\"do\":\"deliver T1 D1 1\",\"took\":1,\"delivered\":1,\"handed\":[[\"T1\",\"D1\",1]],\"put\":[[\"D1\","
    ++ codes "\"T1\",[{\"ack\":1},{\"n\":1,\"kind\":\"REJECT\",\"class\":\"office\",\"time\":65,\"by\":\"manager\",\"write\":66}]]],"
    ++ codes "\"pipes\":[{\"at\":\"D1\",\"class\":\"office\",\"in\":[1],\"out\":1,\"passed\":65}],\"sites\":[{\"at\":\"D1\"}]}\n"
unfolding digits also
read_rejected_text = refl

-- examples/two_protocols

abbrev pub two_protocols : Catalogue
two_protocols = named 3 2 ((codes "north") ∷ (codes "south") ∷ []) ((codes "southward") ∷ (codes "northward") ∷ (codes "count") ∷ [])

abbrev pub two_protocols_txns : List Txn
two_protocols_txns = map txn ((codes "down") ∷ (codes "up") ∷ (codes "tally") ∷ [])

abbrev pub question_open : Delta
question_open =
    record (step 12 4 (events.Deliver d2 t1 1) (founds.Arrived 1 1)) {
      round = Some 2;
      handed = (handed d2 t1 1 ∷ []);
      put = (on t1 d2 ((Ack 1) ∷ []) ∷ []);
      sites = ((states.T (record {
        tm = tm_no 1;
        is_down = false;
        clock = 1;
        on_hold = false;
        owes_held = false;
        asks = ((record {
          class = (class_no 1);
          from = d2;
          time = (time_at 66);
        }) ∷ []);
        active = (active 1 1 1 65 phases.Reading ((dm_no 1) ∷ []) ∷ []);
      })) ∷ []);
    }

pub question_open_text
    : line two_protocols two_protocols_txns question_open
    ≡ codes "{\"event\":12,\"of\":4,\"round\":2,\"do\":\"deliver D2 T1 1\",\"took\":1,\"delivered\":1,\"handed\":[[\"D2\",\"T1\","
    ++ codes "1]],\"put\":[[\"T1\",\"D2\",[{\"ack\":1}]]],\"sites\":[{\"at\":\"T1\",\"clock\":1,\"asks\":[[\"southward\",\"D2\","
    ++ codes "66]],\"active\":[{\"class\":\"southward\",\"txn\":\"down#1\",\"time\":65,\"phase\":\"reading\",\"lacks\":[\"D1\"]}]}]}\n"
unfolding digits also
question_open_text = refl
