-- Worked spellings: each kind of message, each way in which a site stands, what an event found, and what has no other
-- worked line.
use Rattle.std.specs.Prelude.{ℕ, ◌≡◌, [], ◌∷◌, ◌++◌, List, codes, true, false, None, refl}
use Rattle.std.specs.Fmt.{digits}
use Rattle.sdd_script.specs.All.{Site, dm_no, tm_no, txn_no}
use Rattle.sdd_script.specs.base.Numbers.{class_no, time_at}
use Rattle.sdd_script.specs.base.declared.event.Event.TheVariants as events
use Rattle.sdd_net.specs.declared.packet.Packet.TheVariants as packets
use Rattle.sdd_wire.specs.declared.msg.Msg.{Msg}
use Rattle.sdd_wire.specs.declared.msg.Msg.TheVariants as messages
use Rattle.sdd_inside.specs.Differences.{handed_between, in_flight, pipe_between, put_between, queue_between}
use Rattle.sdd_inside.specs.Examples.{active, change, d1, d2, dm_state, step, t1, t2, t3, two_protocols, two_protocols_txns, whole}
use Rattle.sdd_inside.specs.Json.{also, array, quoted, unless_zero}
use Rattle.sdd_inside.specs.Lines.{line, queue_json}
use Rattle.sdd_inside.specs.Messages.{packet_json}
use Rattle.sdd_inside.specs.Standings.{site_state_json}
use Rattle.sdd_inside.specs.Turns.{link, nine, pipe, queue, write}
use Rattle.sdd_inside.specs.Words.{number_json}
use Rattle.sdd_inside.specs.declared.delta.Delta.{Delta}
use Rattle.sdd_inside.specs.declared.delta.Found.TheVariants as founds
use Rattle.sdd_inside.specs.declared.delta.InFlight.TheVariants.{Ack, Again, First}
use Rattle.sdd_inside.specs.declared.delta.Taken.TheVariants as takens
use Rattle.sdd_inside.specs.declared.standing.Active.{Active}
use Rattle.sdd_inside.specs.declared.standing.Head.TheVariants as heads
use Rattle.sdd_inside.specs.declared.standing.Phase.{Phase}
use Rattle.sdd_inside.specs.declared.standing.Phase.TheVariants as phases
use Rattle.sdd_inside.specs.declared.standing.SiteState.{SiteState}
use Rattle.sdd_inside.specs.declared.standing.SiteState.TheVariants as states
use Rattle.sdd_inside.specs.declared.standing.Stage.{Stage}
use Rattle.sdd_inside.specs.declared.standing.Stage.TheVariants as stages

-- messages, each with its first packet

abbrev message : Msg → List ℕ
message m = packet_json two_protocols two_protocols_txns (First 2 m)

pub write_of_undeclared
    : message (messages.Write (time_at 128) (class_no 0) (txn_no 3) (change 2 7 None ∷ []))
    ≡ codes "{\"n\":2,\"kind\":\"WRITE\",\"class\":\"-\",\"time\":128,\"txn\":\"tally\",\"changes\":[[\"south\",\"7\",null]]}"
unfolding digits also
write_of_undeclared = refl

-- the rows of two uses
pub ready_message
    : message (messages.Ready (time_at 65) (class_no 1) ((1, 2) ∷ (2, 3) ∷ []))
    ≡ codes "{\"n\":2,\"kind\":\"READY\",\"class\":\"southward\",\"time\":65,\"rows\":5}"
unfolding digits also
ready_message = refl

pub fetch_message
    : message (messages.Fetch (time_at 65) (class_no 1) 1 2)
    ≡ codes "{\"n\":2,\"kind\":\"FETCH\",\"class\":\"southward\",\"time\":65}"
unfolding digits also
fetch_message = refl

pub values_message
    : message (messages.Values (time_at 65) (class_no 1) 1 (whole 3 ∷ whole 5 ∷ whole 8 ∷ []))
    ≡ codes "{\"n\":2,\"kind\":\"VALUES\",\"class\":\"southward\",\"time\":65,\"values\":3}"
unfolding digits also
values_message = refl

pub reduce_message
    : message (messages.Reduce (time_at 65) (class_no 1) 2 1 (whole 3 ∷ whole 5 ∷ []))
    ≡ codes "{\"n\":2,\"kind\":\"REDUCE\",\"class\":\"southward\",\"time\":65,\"values\":2}"
unfolding digits also
reduce_message = refl

pub reduced_message
    : message (messages.Reduced (time_at 65) (class_no 1) 2 4)
    ≡ codes "{\"n\":2,\"kind\":\"REDUCED\",\"class\":\"southward\",\"time\":65,\"rows\":4}"
unfolding digits also
reduced_message = refl

pub ship_message
    : message (messages.Ship (time_at 65) (class_no 1))
    ≡ codes "{\"n\":2,\"kind\":\"SHIP\",\"class\":\"southward\",\"time\":65}"
unfolding digits also
ship_message = refl

pub rows_message
    : message (messages.Rows (time_at 65) (class_no 1) ((1, whole 3 ∷ []) ∷ (2, whole 3 ∷ whole 4 ∷ []) ∷ []))
    ≡ codes "{\"n\":2,\"kind\":\"ROWS\",\"class\":\"southward\",\"time\":65,\"rows\":2}"
unfolding digits also
rows_message = refl

pub null_message
    : message (messages.Null (class_no 2) (time_at 127))
    ≡ codes "{\"n\":2,\"kind\":\"NULL\",\"class\":\"northward\",\"time\":127}"
unfolding digits also
null_message = refl

pub ask_message
    : message (messages.Ask (class_no 2) (time_at 127))
    ≡ codes "{\"n\":2,\"kind\":\"ASK\",\"class\":\"northward\",\"time\":127}"
unfolding digits also
ask_message = refl

pub hold_message : message messages.Hold ≡ codes "{\"n\":2,\"kind\":\"HOLD\"}"
unfolding digits also
hold_message = refl

pub held_message : message (messages.Held (time_at 127)) ≡ codes "{\"n\":2,\"kind\":\"HELD\",\"time\":127}"
unfolding digits also
held_message = refl

pub done_message : message (messages.Done (time_at 128)) ≡ codes "{\"n\":2,\"kind\":\"DONE\",\"time\":128}"
unfolding digits also
done_message = refl

pub release_message : message (messages.Release (time_at 128)) ≡ codes "{\"n\":2,\"kind\":\"RELEASE\",\"time\":128}"
unfolding digits also
release_message = refl

-- sites

abbrev site : SiteState → List ℕ
site s = site_state_json two_protocols two_protocols_txns s

abbrev at_u : Stage → List Site → List Active → SiteState
at_u stage lacks active = states.U (record { clock = 2; stage = stage; lacks = lacks; active = active })

pub u_idle : site (at_u stages.Idle [] []) ≡ codes "{\"at\":\"U\",\"clock\":2,\"phase\":\"idle\"}"
unfolding digits also
u_idle = refl

pub u_holding : site (at_u stages.Holding (t1 ∷ t3 ∷ []) []) ≡ codes "{\"at\":\"U\",\"clock\":2,\"phase\":\"holding\",\"lacks\":[\"T1\",\"T3\"]}"
unfolding digits also
u_holding = refl

pub u_writing : site (at_u stages.Writing (d2 ∷ []) []) ≡ codes "{\"at\":\"U\",\"clock\":2,\"phase\":\"writing\",\"lacks\":[\"D2\"]}"
unfolding digits also
u_writing = refl

-- an attempt, the second of its transaction, in each of its phases

abbrev at_t : Phase → SiteState
at_t phase =
    states.T (record {
      tm = tm_no 2;
      is_down = false;
      clock = 7;
      on_hold = true;
      owes_held = false;
      asks = record { class = class_no 1; from = d1; time = time_at 66 } ∷ record { class = class_no 3; from = d2; time = time_at 67 } ∷ [];
      active = active 2 2 2 130 phase (dm_no 1 ∷ dm_no 2 ∷ []) ∷ [];
    })

abbrev t_members : List ℕ → List ℕ
t_members phase =
    codes "{\"at\":\"T2\",\"clock\":7,\"hold\":true,\"asks\":[[\"southward\",\"D1\",66],[\"count\",\"D2\",67]],\"active\":[{\"class\":\"northward\","
    ++ codes "\"txn\":\"up#2\",\"time\":130,\"phase\":" ++ quoted phase ++ codes ",\"lacks\":[\"D1\",\"D2\"]}]}"

pub t_fetching : site (at_t phases.Fetching) ≡ t_members (codes "fetching")
unfolding digits also
t_fetching = refl

pub t_reducing : site (at_t phases.Reducing) ≡ t_members (codes "reducing")
unfolding digits also
t_reducing = refl

pub t_shipping : site (at_t phases.Shipping) ≡ t_members (codes "shipping")
unfolding digits also
t_shipping = refl

-- modules that are down: one of transactions, which owes an answer, and one of data; and one whose WRITE two READs hold
pub t_down
    : site (states.T (record { tm = tm_no 3; is_down = true; clock = 4; on_hold = true; owes_held = true; asks = []; active = [] }))
    ≡ codes "{\"at\":\"T3\",\"down\":true,\"clock\":4,\"hold\":true,\"owes\":true}"
unfolding digits also
t_down = refl

pub d_down : site (states.D (record { dm = dm_no 2; is_down = true; heads = [] })) ≡ codes "{\"at\":\"D2\",\"down\":true}"
unfolding digits also
d_down = refl

pub d_held : site (dm_state 1 (heads.Held (class_no 1) (class_no 2 ∷ class_no 3 ∷ []) ∷ []))
    ≡ codes "{\"at\":\"D1\",\"heads\":[{\"class\":\"southward\",\"held\":[\"northward\",\"count\"]}]}"
unfolding digits also
d_held = refl

-- what an event found, and of what schedule and round it is

abbrev of_step : Delta → List ℕ
of_step d = line two_protocols two_protocols_txns d

pub nothing_found : of_step (step 2 1 (events.Tick (tm_no 3) 5) founds.Nothing) ≡ codes "{\"event\":2,\"of\":1,\"do\":\"tick T3 5\",\"nothing\":true}\n"
unfolding digits also
nothing_found = refl

pub ack_lost : of_step (step 2 1 (events.Lose d2 t1 3) (founds.Lost (takens.Ack 4)))
    ≡ codes "{\"event\":2,\"of\":1,\"do\":\"lose D2 T1 3\",\"took\":{\"ack\":4}}\n"
unfolding digits also
ack_lost = refl

pub ack_arrived : of_step (step 2 1 (events.Deliver d2 t1 1) (founds.Acknowledged 3 5))
    ≡ codes "{\"event\":2,\"of\":1,\"do\":\"deliver D2 T1 1\",\"took\":{\"ack\":3},\"acked\":5}\n"
unfolding digits also
ack_arrived = refl

pub list_in_force : of_step (step 9 4 events.Redeclare founds.Something) ≡ codes "{\"event\":9,\"of\":4,\"do\":\"redeclare\"}\n"
unfolding digits also
list_in_force = refl

-- a transaction that left, and none that came; the class of undeclared transactions
pub one_left : queue_json two_protocols two_protocols_txns (record { class = class_no 0; came = []; gone = 1 }) ≡ codes "{\"class\":\"-\",\"out\":1}"
unfolding digits also
one_left = refl

-- strings: a text in a row, control characters by letter and by number, and letters beyond ASCII as they are
pub controls : quoted (8 ∷ 12 ∷ 13 ∷ 0 ∷ 15 ∷ 16 ∷ 26 ∷ 195 ∷ 164 ∷ []) ≡ codes "\"\\b\\f\\r\\u0000\\u000f\\u0010\\u001a" ++ 195 ∷ 164 ∷ 34 ∷ []
controls = refl

pub empty_array : array (number_json two_protocols two_protocols_txns) [] ≡ codes "[]"
empty_array = refl

pub three_numbers : array (number_json two_protocols two_protocols_txns) (7 ∷ 10 ∷ 0 ∷ []) ≡ codes "[7,10,0]"
unfolding digits also
three_numbers = refl

pub none_out : unless_zero (codes "out") 0 ≡ []
none_out = refl

-- differences of one link, one queue and one pipe: event 9 takes a packet of the link from T1 to D1

-- of the three packets before two are left, and behind them a message is put again, a new one for the first time, and an
-- acknowledgement
pub put_behind
    : put_between nine (link t1 d1 (write 1 ∷ write 2 ∷ write 3 ∷ []) 3 0)
    (link t1 d1 (write 1 ∷ write 3 ∷ write 2 ∷ write 4 ∷ packets.Ack 6 ∷ []) 4 0)
    ≡ record { from = t1; to = d1; packets = Again 2 ∷ in_flight 3 (write 4) ∷ Ack 6 ∷ [] } ∷ []
put_behind = refl

-- on another link all are left
pub put_elsewhere : put_between nine (link t2 d1 (write 1 ∷ []) 1 0) (link t2 d1 (write 1 ∷ write 1 ∷ []) 1 0)
    ≡ record { from = t2; to = d1; packets = Again 1 ∷ [] } ∷ []
put_elsewhere = refl

pub none_put : put_between nine (link t1 d1 (write 1 ∷ write 2 ∷ []) 2 0) (link t1 d1 (write 2 ∷ []) 2 0) ≡ []
none_put = refl

pub handed_over : handed_between nine (link t1 d1 [] 3 1) (link t1 d1 [] 3 3) ≡ record { from = t1; to = d1; upto = 3 } ∷ []
handed_over = refl

pub none_handed : handed_between nine (link t1 d1 [] 3 1) (link t1 d1 [] 3 1) ≡ []
none_handed = refl

pub queue_moved : queue_between nine (queue 1 (txn_no 4 ∷ txn_no 7 ∷ [])) (queue 1 (txn_no 7 ∷ txn_no 2 ∷ []))
    ≡ record { class = class_no 1; came = txn_no 2 ∷ []; gone = 1 } ∷ []
queue_moved = refl

pub queue_still : queue_between nine (queue 1 (txn_no 4 ∷ [])) (queue 1 (txn_no 4 ∷ [])) ≡ []
queue_still = refl

-- a message came and two were processed; one was processed and none came; nothing
pub pipe_moved : pipe_between nine (pipe 1 (1 ∷ 3 ∷ []) 1 65) (pipe 1 (1 ∷ 3 ∷ 4 ∷ []) 3 193)
    ≡ record { dm = dm_no 1; class = class_no 1; came = 4 ∷ []; processed = 2; passed = time_at 193 } ∷ []
pipe_moved = refl

pub pipe_went_on : pipe_between nine (pipe 1 (1 ∷ 3 ∷ []) 1 129) (pipe 1 (1 ∷ 3 ∷ []) 2 129)
    ≡ record { dm = dm_no 1; class = class_no 1; came = []; processed = 1; passed = time_at 129 } ∷ []
pipe_went_on = refl

pub pipe_still : pipe_between nine (pipe 1 (1 ∷ 3 ∷ []) 1 129) (pipe 1 (1 ∷ 3 ∷ []) 1 129) ≡ []
pipe_still = refl
