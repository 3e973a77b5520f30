-- Worked lines, written by tools/write_inside_examples.py: what the definitions print of events of worked logs. A log names
-- nothing; the names stand beside it.
use Rattle.std.specs.Prelude.{ℕ, suc, ◌≡◌, List, [], ◌∷◌, ◌++◌, codes, map, refl}
use Rattle.std.specs.Fmt.{digits}
use Rattle.sdd_log_examples.specs.Classes.{input_of_second_class_list, log_of_second_class_list}
use Rattle.sdd_log_examples.specs.Dates.{input_of_deleted_and_put, log_of_deleted_and_put}
use Rattle.sdd_log_examples.specs.Hands.{input_of_two_at_once, log_of_two_at_once}
use Rattle.sdd_log_examples.specs.Links.{input_of_lost_and_repeated, log_of_lost_and_repeated}
use Rattle.sdd_log_examples.specs.Passed.{input_of_asked_while_active, log_of_asked_while_active}
use Rattle.sdd_log_examples.specs.Queries.{input_of_two_steps, log_of_two_steps}
use Rattle.sdd_log_examples.specs.Released.{input_of_released, log_of_released}
use Rattle.sdd_log_examples.specs.Undeclared.{input_of_undeclared, log_of_undeclared}
use Rattle.sdd_log_examples.specs.Waits.{input_of_waits_for_two, log_of_waits_for_two}
use Rattle.sdd_app_inside.specs.watch.obligations.All.{Catalogue, Input, Log, Txn}
use Rattle.sdd_inside.specs.Examples.{named, txn}
use Rattle.sdd_inside.specs.Json.{also}
use Rattle.sdd_inside.specs.Lines.{line}
use Rattle.sdd_app_inside.specs.watch.moments.Moments.{at_event}
use Rattle.sdd_app_inside.specs.watch.Text.{change}

-- the line of the event after so many others, by catalogue and transactions with names
abbrev pub line_after : Catalogue → List Txn → Input → Log → ℕ → List ℕ
line_after cat txns g log before = line cat txns (change g (at_event before log) (at_event (suc before) log))

-- an undeclared query lets the transaction modules hold, and waits for every class

abbrev catalogue_of_undeclared : Catalogue
catalogue_of_undeclared = named 2 2 (codes "a" ∷ []) (codes "j" ∷ codes "k" ∷ [])

abbrev txns_of_undeclared : List Txn
txns_of_undeclared = map txn (codes "y" ∷ codes "u" ∷ [])

-- U: it holds, and both transaction modules lack; a queue grows
pub u_holds
    : line_after catalogue_of_undeclared txns_of_undeclared input_of_undeclared log_of_undeclared 1
    ≡ codes "{\"event\":2,\"of\":2,\"do\":\"submit u\",\"put\":[[\"U\",\"T1\",[{\"n\":1,\"kind\":\"HOLD\"}]],[\"U\",\"T2\",[{\"n\":1,\"kind\""
    ++ codes ":\"HOLD\"}]]],\"queues\":[{\"class\":\"-\",\"in\":[\"u\"]}],\"sites\":[{\"at\":\"U\",\"clock\":0,\"phase\":\"holding\",\"lack"
    ++ codes "s\":[\"T1\",\"T2\"]}]}\n"
unfolding digits also
u_holds = refl

-- T: on hold, and it answered the HOLD at once
pub t_on_hold
    : line_after catalogue_of_undeclared txns_of_undeclared input_of_undeclared log_of_undeclared 2
    ≡ codes "{\"event\":3,\"of\":3,\"do\":\"deliver U T1 1\",\"took\":1,\"delivered\":1,\"handed\":[[\"U\",\"T1\",1]],\"put\":[[\"T1\","
    ++ codes "\"U\",[{\"ack\":1},{\"n\":1,\"kind\":\"HELD\",\"time\":127}]]],\"sites\":[{\"at\":\"T1\",\"clock\":1,\"hold\":true}]}\n"
unfolding digits also
t_on_hold = refl

-- U: one of two transaction modules lacks still
pub u_still_holds
    : line_after catalogue_of_undeclared txns_of_undeclared input_of_undeclared log_of_undeclared 4
    ≡ codes "{\"event\":5,\"of\":5,\"do\":\"deliver T1 U 2\",\"took\":1,\"delivered\":1,\"handed\":[[\"T1\",\"U\",1]],\"put\":[[\"U\",\""
    ++ codes "T1\",[{\"ack\":1}]]],\"sites\":[{\"at\":\"U\",\"clock\":1,\"phase\":\"holding\",\"lacks\":[\"T2\"]}]}\n"
unfolding digits also
u_still_holds = refl

-- U: its attempt is under way
pub u_reads
    : line_after catalogue_of_undeclared txns_of_undeclared input_of_undeclared log_of_undeclared 5
    ≡ codes "{\"event\":6,\"of\":6,\"do\":\"deliver T2 U 2\",\"took\":1,\"delivered\":1,\"handed\":[[\"T2\",\"U\",1]],\"put\":[[\"U\",\""
    ++ codes "T2\",[{\"ack\":1}]],[\"U\",\"D1\",[{\"n\":1,\"kind\":\"READ\",\"class\":\"-\",\"time\":128,\"txn\":\"u#1\",\"conds\":[[\"j\",12"
    ++ codes "8],[\"k\",128]]}]],[\"U\",\"D2\",[{\"n\":1,\"kind\":\"READ\",\"class\":\"-\",\"time\":128,\"txn\":\"u#1\",\"conds\":[[\"j\",12"
    ++ codes "8],[\"k\",128]]}]]],\"sites\":[{\"at\":\"U\",\"clock\":2,\"phase\":\"reading\",\"lacks\":[\"D1\",\"D2\"],\"active\":[{\"cla"
    ++ codes "ss\":\"-\",\"txn\":\"u#1\",\"time\":128,\"phase\":\"reading\",\"lacks\":[\"D1\",\"D2\"]}]}]}\n"
unfolding digits also
u_reads = refl

-- D: a READ that waits for two classes; what waits in a pipe has passed its own time
pub d_waits
    : line_after catalogue_of_undeclared txns_of_undeclared input_of_undeclared log_of_undeclared 6
    ≡ codes "{\"event\":7,\"of\":7,\"do\":\"deliver U D1 1\",\"took\":1,\"delivered\":1,\"handed\":[[\"U\",\"D1\",1]],\"put\":[[\"D1\","
    ++ codes "\"U\",[{\"ack\":1}]],[\"D1\",\"T1\",[{\"n\":1,\"kind\":\"ASK\",\"class\":\"j\",\"time\":128}]],[\"D1\",\"T2\",[{\"n\":1,\"kind\""
    ++ codes ":\"ASK\",\"class\":\"k\",\"time\":128}]]],\"pipes\":[{\"at\":\"D1\",\"class\":\"-\",\"in\":[1],\"passed\":128}],\"sites\":[{"
    ++ codes "\"at\":\"D1\",\"heads\":[{\"class\":\"-\",\"waits\":[[\"j\",128],[\"k\",128]]}]}]}\n"
unfolding digits also
d_waits = refl

-- an undeclared update waits until a query is committed that was under way, and lets go of the transaction module once both data modules are done, where a put waits

abbrev catalogue_of_released : Catalogue
catalogue_of_released = named 1 2 (codes "a" ∷ []) (codes "j" ∷ codes "rd" ∷ [])

abbrev txns_of_released : List Txn
txns_of_released = map txn (codes "u" ∷ codes "x" ∷ codes "y" ∷ [])

-- T: asked to hold while an attempt is under way: it owes the HELD
pub t_owes
    : line_after catalogue_of_released txns_of_released input_of_released log_of_released 2
    ≡ codes "{\"event\":3,\"of\":3,\"do\":\"deliver U T1 1\",\"took\":1,\"delivered\":1,\"handed\":[[\"U\",\"T1\",1]],\"put\":[[\"T1\","
    ++ codes "\"U\",[{\"ack\":1}]]],\"sites\":[{\"at\":\"T1\",\"clock\":1,\"hold\":true,\"owes\":true,\"active\":[{\"class\":\"rd\",\"txn"
    ++ codes "\":\"x#1\",\"time\":65,\"phase\":\"reading\",\"lacks\":[\"D1\"]}]}]}\n"
unfolding digits also
t_owes = refl

-- U: it writes; a queue gets shorter
pub u_writes
    : line_after catalogue_of_released txns_of_released input_of_released log_of_released 25
    ≡ codes "{\"event\":26,\"of\":26,\"do\":\"deliver D2 U 3\",\"took\":2,\"delivered\":2,\"handed\":[[\"D2\",\"U\",2]],\"put\":[[\"U\""
    ++ codes ",\"D1\",[{\"n\":3,\"kind\":\"WRITE\",\"class\":\"-\",\"time\":128,\"txn\":\"u\",\"changes\":[]}]],[\"U\",\"D2\",[{\"ack\":2},{"
    ++ codes "\"n\":3,\"kind\":\"WRITE\",\"class\":\"-\",\"time\":128,\"txn\":\"u\",\"changes\":[]}]]],\"queues\":[{\"class\":\"-\",\"out\":"
    ++ codes "1}],\"sites\":[{\"at\":\"U\",\"clock\":2,\"phase\":\"writing\",\"lacks\":[\"D1\",\"D2\"]}]}\n"
unfolding digits also
u_writes = refl

-- U: one data module said that it applied
pub u_writes_still
    : line_after catalogue_of_released txns_of_released input_of_released log_of_released 28
    ≡ codes "{\"event\":29,\"of\":29,\"do\":\"deliver D1 U 4\",\"took\":3,\"delivered\":3,\"handed\":[[\"D1\",\"U\",3]],\"put\":[[\"U\""
    ++ codes ",\"D1\",[{\"ack\":3}]]],\"sites\":[{\"at\":\"U\",\"clock\":2,\"phase\":\"writing\",\"lacks\":[\"D2\"]}]}\n"
unfolding digits also
u_writes_still = refl

-- U: idle once the RELEASE is sent
pub u_idle
    : line_after catalogue_of_released txns_of_released input_of_released log_of_released 30
    ≡ codes "{\"event\":31,\"of\":31,\"do\":\"deliver D2 U 4\",\"took\":3,\"delivered\":3,\"handed\":[[\"D2\",\"U\",3]],\"put\":[[\"U\""
    ++ codes ",\"T1\",[{\"n\":2,\"kind\":\"RELEASE\",\"time\":128}]],[\"U\",\"D2\",[{\"ack\":3}]]],\"sites\":[{\"at\":\"U\",\"clock\":2,\"p"
    ++ codes "hase\":\"idle\"}]}\n"
unfolding digits also
u_idle = refl

-- a class that is asked for an earlier time than its attempt's answers with the attempt's

abbrev catalogue_of_asked_while_active : Catalogue
catalogue_of_asked_while_active = named 2 1 (codes "a" ∷ codes "b" ∷ []) (codes "p" ∷ codes "q" ∷ [])

abbrev txns_of_asked_while_active : List Txn
txns_of_asked_while_active = map txn (codes "x" ∷ codes "y" ∷ [])

-- T: a question that it can't answer yet
pub t_asked
    : line_after catalogue_of_asked_while_active txns_of_asked_while_active input_of_asked_while_active log_of_asked_while_active 7
    ≡ codes "{\"event\":8,\"of\":8,\"do\":\"deliver D1 T1 2\",\"took\":2,\"delivered\":2,\"handed\":[[\"D1\",\"T1\",2]],\"put\":[[\"T1"
    ++ codes "\",\"D1\",[{\"ack\":2}]]],\"sites\":[{\"at\":\"T1\",\"clock\":1,\"asks\":[[\"p\",\"D1\",66]],\"active\":[{\"class\":\"p\",\"tx"
    ++ codes "n\":\"x#1\",\"time\":65,\"phase\":\"shipping\",\"lacks\":[\"D1\"]}]}]}\n"
unfolding digits also
t_asked = refl

-- a query waits for two classes; a put of one of them is held until it is answered

abbrev catalogue_of_waits_for_two : Catalogue
catalogue_of_waits_for_two = named 3 1 (codes "a" ∷ []) (codes "rd" ∷ codes "j" ∷ codes "k" ∷ [])

abbrev txns_of_waits_for_two : List Txn
txns_of_waits_for_two = map txn (codes "x" ∷ codes "z" ∷ [])

-- T: an attempt reads
pub t_reads
    : line_after catalogue_of_waits_for_two txns_of_waits_for_two input_of_waits_for_two log_of_waits_for_two 1
    ≡ codes "{\"event\":2,\"of\":2,\"do\":\"submit x\",\"put\":[[\"T1\",\"D1\",[{\"n\":1,\"kind\":\"READ\",\"class\":\"rd\",\"time\":193,\"t"
    ++ codes "xn\":\"x#1\",\"conds\":[[\"j\",191],[\"k\",191]]}]]],\"queues\":[{\"class\":\"rd\",\"in\":[\"x\"]}],\"sites\":[{\"at\":\"T1\""
    ++ codes ",\"clock\":3,\"active\":[{\"class\":\"rd\",\"txn\":\"x#1\",\"time\":193,\"phase\":\"reading\",\"lacks\":[\"D1\"]}]}]}\n"
unfolding digits also
t_reads = refl

-- D: of two conditions one is met, and a WRITE is held
pub d_holds_back
    : line_after catalogue_of_waits_for_two txns_of_waits_for_two input_of_waits_for_two log_of_waits_for_two 5
    ≡ codes "{\"event\":6,\"of\":6,\"do\":\"deliver T3 D1 1\",\"took\":1,\"delivered\":1,\"handed\":[[\"T3\",\"D1\",1]],\"put\":[[\"D1"
    ++ codes "\",\"T3\",[{\"ack\":1}]]],\"pipes\":[{\"at\":\"D1\",\"class\":\"k\",\"in\":[1],\"passed\":259}],\"sites\":[{\"at\":\"D1\",\"he"
    ++ codes "ads\":[{\"class\":\"rd\",\"waits\":[[\"j\",191]]},{\"class\":\"k\",\"held\":[\"rd\"]}]}]}\n"
unfolding digits also
d_holds_back = refl

-- pipes: of three classes at once; a head that waited, one that came, one that was held
pub three_pipes
    : line_after catalogue_of_waits_for_two txns_of_waits_for_two input_of_waits_for_two log_of_waits_for_two 7
    ≡ codes "{\"event\":8,\"of\":8,\"do\":\"deliver T2 D1 2\",\"took\":1,\"delivered\":1,\"handed\":[[\"T2\",\"D1\",1]],\"put\":[[\"D1"
    ++ codes "\",\"T1\",[{\"n\":1,\"kind\":\"READY\",\"class\":\"rd\",\"time\":193,\"rows\":0}]],[\"D1\",\"T2\",[{\"ack\":1}]]],\"pipes\":["
    ++ codes "{\"at\":\"D1\",\"class\":\"rd\",\"out\":1,\"passed\":193},{\"at\":\"D1\",\"class\":\"j\",\"in\":[1],\"out\":1,\"passed\":191},"
    ++ codes "{\"at\":\"D1\",\"class\":\"k\",\"out\":1,\"passed\":259}],\"rows\":[[\"D1\",\"a\",\"1\",\"1 5\"]],\"sites\":[{\"at\":\"D1\"}]}\n"
unfolding digits also
three_pipes = refl

-- a query over three modules: two reducer steps, and then its rows

abbrev catalogue_of_two_steps : Catalogue
catalogue_of_two_steps = named 1 3 (codes "r" ∷ codes "s" ∷ codes "t" ∷ []) (codes "jn" ∷ [])

abbrev txns_of_two_steps : List Txn
txns_of_two_steps = map txn (codes "g" ∷ [])

-- T: it fetches values
pub t_fetches
    : line_after catalogue_of_two_steps txns_of_two_steps input_of_two_steps log_of_two_steps 9
    ≡ codes "{\"event\":10,\"of\":2,\"round\":2,\"do\":\"deliver D3 T1 1\",\"took\":1,\"delivered\":1,\"handed\":[[\"D3\",\"T1\",1]],"
    ++ codes "\"put\":[[\"T1\",\"D3\",[{\"ack\":1},{\"n\":2,\"kind\":\"FETCH\",\"class\":\"jn\",\"time\":65}]]],\"sites\":[{\"at\":\"T1\",\"c"
    ++ codes "lock\":1,\"active\":[{\"class\":\"jn\",\"txn\":\"g#1\",\"time\":65,\"phase\":\"fetching\",\"lacks\":[\"D3\"]}]}]}\n"
unfolding digits also
t_fetches = refl

-- T: it reduces rows
pub t_reduces
    : line_after catalogue_of_two_steps txns_of_two_steps input_of_two_steps log_of_two_steps 15
    ≡ codes "{\"event\":16,\"of\":2,\"round\":4,\"do\":\"deliver D3 T1 1\",\"took\":2,\"delivered\":2,\"handed\":[[\"D3\",\"T1\",2]],"
    ++ codes "\"put\":[[\"T1\",\"D2\",[{\"n\":2,\"kind\":\"REDUCE\",\"class\":\"jn\",\"time\":65,\"values\":1}]],[\"T1\",\"D3\",[{\"ack\":2}"
    ++ codes "]]],\"sites\":[{\"at\":\"T1\",\"clock\":1,\"active\":[{\"class\":\"jn\",\"txn\":\"g#1\",\"time\":65,\"phase\":\"reducing\",\""
    ++ codes "lacks\":[\"D2\"]}]}]}\n"
unfolding digits also
t_reduces = refl

-- a further class list is put in force

abbrev catalogue_of_second_class_list : Catalogue
catalogue_of_second_class_list = named 1 1 (codes "all" ∷ []) (codes "own" ∷ codes "audit" ∷ [])

abbrev txns_of_second_class_list : List Txn
txns_of_second_class_list = map txn (codes "p" ∷ codes "u" ∷ [])

-- an event of a round belongs to the redeclare that it comes before
pub of_a_round
    : line_after catalogue_of_second_class_list txns_of_second_class_list input_of_second_class_list log_of_second_class_list 1
    ≡ codes "{\"event\":2,\"of\":2,\"round\":1,\"do\":\"deliver T1 D1 1\",\"took\":1,\"delivered\":1,\"handed\":[[\"T1\",\"D1\",1]],\""
    ++ codes "put\":[[\"D1\",\"T1\",[{\"ack\":1}]]],\"pipes\":[{\"at\":\"D1\",\"class\":\"own\",\"in\":[1],\"out\":1,\"passed\":65}],\"row"
    ++ codes "s\":[[\"D1\",\"all\",\"5\",\"5 10\"]],\"sites\":[{\"at\":\"D1\"}]}\n"
unfolding digits also
of_a_round = refl

-- a class list is put in force: each transaction module took part
pub in_force
    : line_after catalogue_of_second_class_list txns_of_second_class_list input_of_second_class_list log_of_second_class_list 3
    ≡ codes "{\"event\":4,\"of\":2,\"do\":\"redeclare\",\"sites\":[{\"at\":\"T1\",\"clock\":1}]}\n"
unfolding digits also
in_force = refl

-- T: it ships rows
pub t_ships
    : line_after catalogue_of_second_class_list txns_of_second_class_list input_of_second_class_list log_of_second_class_list 7
    ≡ codes "{\"event\":8,\"of\":4,\"round\":2,\"do\":\"deliver D1 T1 1\",\"took\":1,\"delivered\":1,\"handed\":[[\"D1\",\"T1\",1]],\""
    ++ codes "put\":[[\"T1\",\"D1\",[{\"ack\":1},{\"n\":3,\"kind\":\"SHIP\",\"class\":\"audit\",\"time\":129}]]],\"sites\":[{\"at\":\"T1\","
    ++ codes "\"clock\":2,\"active\":[{\"class\":\"audit\",\"txn\":\"u#1\",\"time\":129,\"phase\":\"shipping\",\"lacks\":[\"D1\"]}]}]}\n"
unfolding digits also
t_ships = refl

-- a packet is lost, another one repeated and delivered early; both are resent

abbrev catalogue_of_lost_and_repeated : Catalogue
catalogue_of_lost_and_repeated = named 1 1 (codes "all" ∷ []) (codes "own" ∷ [])

abbrev txns_of_lost_and_repeated : List Txn
txns_of_lost_and_repeated = map txn (codes "p" ∷ codes "q" ∷ [])

-- links: a packet is lost
pub lost
    : line_after catalogue_of_lost_and_repeated txns_of_lost_and_repeated input_of_lost_and_repeated log_of_lost_and_repeated 2
    ≡ codes "{\"event\":3,\"of\":3,\"do\":\"lose T1 D1 1\",\"took\":1}\n"
unfolding digits also
lost = refl

-- links: a message that was told before is told by its number
pub repeated
    : line_after catalogue_of_lost_and_repeated txns_of_lost_and_repeated input_of_lost_and_repeated log_of_lost_and_repeated 3
    ≡ codes "{\"event\":4,\"of\":4,\"do\":\"repeat T1 D1 1\",\"put\":[[\"T1\",\"D1\",[2]]]}\n"
unfolding digits also
repeated = refl

-- links: a message arrives before an earlier one, which none has passed
pub early
    : line_after catalogue_of_lost_and_repeated txns_of_lost_and_repeated input_of_lost_and_repeated log_of_lost_and_repeated 4
    ≡ codes "{\"event\":5,\"of\":5,\"do\":\"deliver T1 D1 1\",\"took\":2,\"delivered\":0,\"put\":[[\"D1\",\"T1\",[{\"ack\":0}]]]}\n"
unfolding digits also
early = refl

-- links: what isn't acknowledged is sent again
pub sent_again
    : line_after catalogue_of_lost_and_repeated txns_of_lost_and_repeated input_of_lost_and_repeated log_of_lost_and_repeated 5
    ≡ codes "{\"event\":6,\"of\":6,\"do\":\"resend T1 D1\",\"put\":[[\"T1\",\"D1\",[1,2]]]}\n"
unfolding digits also
sent_again = refl

-- links: two messages are handed over, and both changes applied; the row is told once
pub both_handed
    : line_after catalogue_of_lost_and_repeated txns_of_lost_and_repeated input_of_lost_and_repeated log_of_lost_and_repeated 6
    ≡ codes "{\"event\":7,\"of\":7,\"do\":\"deliver T1 D1 2\",\"took\":1,\"delivered\":2,\"handed\":[[\"T1\",\"D1\",2]],\"put\":[[\"D1"
    ++ codes "\",\"T1\",[{\"ack\":2}]]],\"pipes\":[{\"at\":\"D1\",\"class\":\"own\",\"in\":[1,2],\"out\":2,\"passed\":129}],\"rows\":[[\"D"
    ++ codes "1\",\"all\",\"5\",\"5 20\"]],\"sites\":[{\"at\":\"D1\"}]}\n"
unfolding digits also
both_handed = refl

-- links: no packet is at the place
pub nothing_there
    : line_after catalogue_of_lost_and_repeated txns_of_lost_and_repeated input_of_lost_and_repeated log_of_lost_and_repeated 9
    ≡ codes "{\"event\":10,\"of\":10,\"do\":\"deliver T1 D1 1\",\"nothing\":true}\n"
unfolding digits also
nothing_there = refl

-- two puts come at once: the first is applied before the second is handed over; an acknowledgement carries the greatest number up to which all came

abbrev catalogue_of_two_at_once : Catalogue
catalogue_of_two_at_once = named 1 1 (codes "a" ∷ codes "b" ∷ []) (codes "v" ∷ codes "w" ∷ [])

abbrev txns_of_two_at_once : List Txn
txns_of_two_at_once = map txn (codes "p" ∷ codes "q" ∷ [])

-- links: an acknowledgement of no message
pub acknowledged
    : line_after catalogue_of_two_at_once txns_of_two_at_once input_of_two_at_once log_of_two_at_once 3
    ≡ codes "{\"event\":4,\"of\":4,\"do\":\"deliver D1 T1 1\",\"took\":{\"ack\":0},\"acked\":0}\n"
unfolding digits also
acknowledged = refl

-- a delete comes to a copy before the earlier put of the row, which stays deleted

abbrev catalogue_of_deleted_and_put : Catalogue
catalogue_of_deleted_and_put = named 3 2 (codes "a" ∷ []) (codes "own" ∷ codes "k" ∷ codes "rd" ∷ [])

abbrev txns_of_deleted_and_put : List Txn
txns_of_deleted_and_put = map txn (codes "y" ∷ codes "d" ∷ codes "x" ∷ [])

-- rows: a row that is deleted
pub row_deleted
    : line_after catalogue_of_deleted_and_put txns_of_deleted_and_put input_of_deleted_and_put log_of_deleted_and_put 20
    ≡ codes "{\"event\":21,\"of\":6,\"round\":7,\"do\":\"deliver T1 D1 1\",\"took\":3,\"delivered\":3,\"handed\":[[\"T1\",\"D1\",3]],"
    ++ codes "\"put\":[[\"D1\",\"T1\",[{\"ack\":3}]]],\"pipes\":[{\"at\":\"D1\",\"class\":\"own\",\"in\":[3],\"out\":1,\"passed\":193}],\"r"
    ++ codes "ows\":[[\"D1\",\"a\",\"1\",null]],\"sites\":[{\"at\":\"D1\"}]}\n"
unfolding digits also
row_deleted = refl

-- what was kept of two links is handed over; the row that a later change deleted stays so
pub from_two_links
    : line_after catalogue_of_deleted_and_put txns_of_deleted_and_put input_of_deleted_and_put log_of_deleted_and_put 24
    ≡ codes "{\"event\":25,\"of\":7,\"do\":\"up D2\",\"handed\":[[\"T1\",\"D2\",1],[\"T2\",\"D2\",1]],\"pipes\":[{\"at\":\"D2\",\"class\":\""
    ++ codes "own\",\"in\":[1],\"out\":1,\"passed\":193},{\"at\":\"D2\",\"class\":\"k\",\"in\":[1],\"out\":1,\"passed\":66}],\"rows\":[[\""
    ++ codes "D2\",\"a\",\"1\",null]],\"sites\":[{\"at\":\"D2\"}]}\n"
unfolding digits also
from_two_links = refl
