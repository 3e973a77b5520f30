-- Worked lines of modules that go down, written by tools/write_inside_examples.py.
use Rattle.std.specs.Prelude.{◌≡◌, List, [], ◌∷◌, ◌++◌, codes, map, refl}
use Rattle.std.specs.Fmt.{digits}
use Rattle.sdd_log_examples.specs.Downs.{input_of_down_and_up, input_of_down_twice, log_of_down_and_up, log_of_down_twice}
use Rattle.sdd_log_examples.specs.HomesDown.{input_of_begun_once_up, input_of_rows_kept, log_of_begun_once_up, log_of_rows_kept}
use Rattle.sdd_app_inside.specs.watch.obligations.All.{Catalogue, Txn}
use Rattle.sdd_inside.specs.Examples.{named, txn}
use Rattle.sdd_inside.specs.Json.{also}
use Rattle.sdd_app_inside.specs.watch.Text.{inside_text}
use Rattle.sdd_inside_laws.specs.WorkedLines.{line_after}

-- a whole text, of a log whose fragment has no name
pub whole_text
    : inside_text input_of_down_twice log_of_down_twice
    ≡ codes "{\"inside\":1,\"tms\":1,\"dms\":1,\"copies\":[{\"at\":\"D1\",\"fragment\":\"\",\"rows\":[]}]}\n"
    ++ codes "{\"event\":1,\"of\":1,\"do\":\"up D1\",\"nothing\":true}\n"
    ++ codes "{\"event\":2,\"of\":2,\"do\":\"down D1\",\"sites\":[{\"at\":\"D1\",\"down\":true}]}\n"
    ++ codes "{\"event\":3,\"of\":3,\"do\":\"down D1\",\"nothing\":true}\n"
unfolding digits also
whole_text = refl

-- a data module is down while a put comes, and applies it once it is up

abbrev catalogue_of_down_and_up : Catalogue
catalogue_of_down_and_up = named 1 1 (codes "all" ∷ []) (codes "own" ∷ [])

abbrev txns_of_down_and_up : List Txn
txns_of_down_and_up = map txn (codes "p" ∷ [])

-- a `down` that finds the module up
pub goes_down
    : line_after catalogue_of_down_and_up txns_of_down_and_up input_of_down_and_up log_of_down_and_up 1
    ≡ codes "{\"event\":2,\"of\":2,\"do\":\"down D1\",\"sites\":[{\"at\":\"D1\",\"down\":true}]}\n"
unfolding digits also
goes_down = refl

-- a message arrives for a module that is down, and isn't handed over
pub kept_for_it
    : line_after catalogue_of_down_and_up txns_of_down_and_up input_of_down_and_up log_of_down_and_up 2
    ≡ codes "{\"event\":3,\"of\":3,\"do\":\"deliver T1 D1 1\",\"took\":1,\"delivered\":1,\"put\":[[\"D1\",\"T1\",[{\"ack\":1}]]]}\n"
unfolding digits also
kept_for_it = refl

-- an `up` that finds the module down: what was kept is handed over
pub comes_up
    : line_after catalogue_of_down_and_up txns_of_down_and_up input_of_down_and_up log_of_down_and_up 4
    ≡ codes "{\"event\":5,\"of\":5,\"do\":\"up D1\",\"handed\":[[\"T1\",\"D1\",1]],\"pipes\":[{\"at\":\"D1\",\"class\":\"own\",\"in\":[1],\""
    ++ codes "out\":1,\"passed\":65}],\"rows\":[[\"D1\",\"all\",\"5\",\"5 10\"]],\"sites\":[{\"at\":\"D1\"}]}\n"
unfolding digits also
comes_up = refl

-- an `up` where it is up and a `down` where it is down find nothing to do

abbrev catalogue_of_down_twice : Catalogue
catalogue_of_down_twice = named 1 1 (codes "all" ∷ []) (codes "own" ∷ [])

abbrev txns_of_down_twice : List Txn
txns_of_down_twice = map txn ([])

-- an `up` that finds the module up: it found nothing, and no site took part
pub up_already
    : line_after catalogue_of_down_twice txns_of_down_twice input_of_down_twice log_of_down_twice 0
    ≡ codes "{\"event\":1,\"of\":1,\"do\":\"up D1\",\"nothing\":true}\n"
unfolding digits also
up_already = refl

-- a `down` that finds the module down
pub down_already
    : line_after catalogue_of_down_twice txns_of_down_twice input_of_down_twice log_of_down_twice 2
    ≡ codes "{\"event\":3,\"of\":3,\"do\":\"down D1\",\"nothing\":true}\n"
unfolding digits also
down_already = refl

-- a transaction module is down while a HOLD comes and a transaction is submitted: once it is up it begins that one, and then takes the HOLD

abbrev catalogue_of_begun_once_up : Catalogue
catalogue_of_begun_once_up = named 2 1 (codes "a" ∷ []) (codes "own" ∷ [])

abbrev txns_of_begun_once_up : List Txn
txns_of_begun_once_up = map txn (codes "y" ∷ codes "u" ∷ [])

-- T: it goes down
pub t_goes_down
    : line_after catalogue_of_begun_once_up txns_of_begun_once_up input_of_begun_once_up log_of_begun_once_up 0
    ≡ codes "{\"event\":1,\"of\":1,\"do\":\"down T1\",\"sites\":[{\"at\":\"T1\",\"down\":true,\"clock\":0}]}\n"
unfolding digits also
t_goes_down = refl

-- a HOLD arrives for a transaction module that is down, and isn't handed over
pub kept_of_u
    : line_after catalogue_of_begun_once_up txns_of_begun_once_up input_of_begun_once_up log_of_begun_once_up 2
    ≡ codes "{\"event\":3,\"of\":3,\"do\":\"deliver U T1 1\",\"took\":1,\"delivered\":1,\"put\":[[\"T1\",\"U\",[{\"ack\":1}]]]}\n"
unfolding digits also
kept_of_u = refl

-- T: down, its clock goes on
pub t_down_ticks
    : line_after catalogue_of_begun_once_up txns_of_begun_once_up input_of_begun_once_up log_of_begun_once_up 3
    ≡ codes "{\"event\":4,\"of\":4,\"do\":\"tick T1 2\",\"sites\":[{\"at\":\"T1\",\"down\":true,\"clock\":2}]}\n"
unfolding digits also
t_down_ticks = refl

-- T: down, its queue grows, and no attempt begins
pub t_down_queues
    : line_after catalogue_of_begun_once_up txns_of_begun_once_up input_of_begun_once_up log_of_begun_once_up 4
    ≡ codes "{\"event\":5,\"of\":5,\"do\":\"submit y\",\"queues\":[{\"class\":\"own\",\"in\":[\"y\"]}],\"sites\":[{\"at\":\"T1\",\"down\":t"
    ++ codes "rue,\"clock\":2}]}\n"
unfolding digits also
t_down_queues = refl

-- T: up again; what queued began and committed before the HOLD was handed over
pub t_comes_up
    : line_after catalogue_of_begun_once_up txns_of_begun_once_up input_of_begun_once_up log_of_begun_once_up 5
    ≡ codes "{\"event\":6,\"of\":6,\"do\":\"up T1\",\"handed\":[[\"U\",\"T1\",1]],\"put\":[[\"T1\",\"U\",[{\"n\":1,\"kind\":\"HELD\",\"time\""
    ++ codes ":255}]],[\"T1\",\"D1\",[{\"n\":1,\"kind\":\"WRITE\",\"class\":\"own\",\"time\":193,\"txn\":\"y\",\"changes\":[[\"a\",\"1\",\"1 "
    ++ codes "5\"]]}]]],\"queues\":[{\"class\":\"own\",\"out\":1}],\"sites\":[{\"at\":\"T1\",\"clock\":3,\"hold\":true}]}\n"
unfolding digits also
t_comes_up = refl

-- a transaction module is down while the rows of its attempt come: it commits once it is up, and begins the next one

abbrev catalogue_of_rows_kept : Catalogue
catalogue_of_rows_kept = named 1 1 (codes "all" ∷ []) (codes "own" ∷ [])

abbrev txns_of_rows_kept : List Txn
txns_of_rows_kept = map txn (codes "q" ∷ codes "p" ∷ [])

-- T: it goes down while its attempt lacks rows
pub t_down_amid
    : line_after catalogue_of_rows_kept txns_of_rows_kept input_of_rows_kept log_of_rows_kept 4
    ≡ codes "{\"event\":5,\"of\":5,\"do\":\"down T1\",\"sites\":[{\"at\":\"T1\",\"down\":true,\"clock\":1,\"active\":[{\"class\":\"own\","
    ++ codes "\"txn\":\"q#1\",\"time\":65,\"phase\":\"shipping\",\"lacks\":[\"D1\"]}]}]}\n"
unfolding digits also
t_down_amid = refl
