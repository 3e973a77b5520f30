-- Worked logs. An undeclared query and a put beside it: the put is applied before the query comes, or comes while the query
-- waits. And a query that is rejected in the event in which it comes.
use Rattle.std.specs.Prelude.{ℕ, ◌++◌, ◌∷◌, List, Some, [], negsuc, pos, refl, take}
use Rattle.sdd_obligations.specs.invariants.All.{Attempt, Catalogue, Change, Class, Cond, D, Deliver, Diagonal, Event, Fragment, Input, Log, P2, P3, Put, Query, Queued, Submit, T, Tick, Txn, U, Use, Vertical, base_of, begins, class_no, dm_no, frag_no, local_of, time_at, tm_no, txn_no}
use Rattle.sdd_obligations.specs.base.Numbers.{rel_no}
use Rattle.sdd_obligations.specs.base.declared.restriction.Op.TheVariants.{Le}
use Rattle.sdd_obligations.specs.base.declared.value.Value.TheVariants.{Int}
use Rattle.sdd_obligations.specs.catalog.declared.parts.Kind.TheVariants as kinds
use Rattle.sdd_obligations.specs.protocol.declared.protocol.Protocol.TheVariants.{P1}
use Rattle.sdd_obligations.specs.lang.declared.condition.Condition.TheVariants.{Const}
use Rattle.sdd_obligations.specs.logs.Due.{extended}
use Rattle.sdd_obligations.specs.invariants.Barrier.{IsCommitT}
use Rattle.sdd_obligations.specs.site_module.SiteLog as site

-- catalogues of one relation, i (k, v)
abbrev of_items : ℕ → List Fragment → List Class → Catalogue
of_items tms fragments classes = record {
  tms = tms;
  dms = 1;
  relations =
      (record { name = 105 ∷ []; columns = (record { name = 107 ∷ []; kind = kinds.Int }) ∷ (record { name = 118 ∷ []; kind = kinds.Int }) ∷ []; key = 1 })
      ∷ [];
  fragments = fragments;
  classes = classes;
}

abbrev put_one : ℕ → Txn
put_one tm = record { name = []; tm = tm_no tm; statements = Put (rel_no 1) (Int (pos 1) ∷ Int (pos 5) ∷ []) ∷ [] }

abbrev query_all : ℕ → Txn
query_all tm = record { name = []; tm = tm_no tm; statements = Query ((record { part = 1; column = 2 }) ∷ []) (rel_no 1 ∷ []) [] ∷ [] }

-- one class, w, which writes the one fragment

abbrev pub one_writer : Catalogue
one_writer =
    of_items 1
    ((record { name = 97 ∷ []; rel = rel_no 1; least = negsuc 9223372036854775807; greatest = pos 9223372036854775807; copies = dm_no 1 ∷ [] }) ∷ [])
    ((record { name = 119 ∷ []; tm = tm_no 1; reads = []; writes = frag_no 1 ∷ [] }) ∷ [])

abbrev pub beside_put : List Event → Input
beside_put events = record {
  catalogue = one_writer;
  eras = (record { catalogue = one_writer; table = (record { edge = Vertical (class_no 1); block = 0; protocol = P1 }) ∷ [] }) ∷ [];
  rows = [] ∷ [];
  txns = put_one 1 ∷ query_all 1 ∷ [];
  events = events;
}

-- both are submitted, and the query starts
abbrev both_submitted : List Event
both_submitted = Submit (txn_no 1) ∷ Submit (txn_no 2) ∷ Deliver U (T (tm_no 1)) 1 ∷ Deliver (T (tm_no 1)) U 2 ∷ []

abbrev pub conds_of_query : List Cond
conds_of_query = (record { class = class_no 1; time = time_at 128; frags = frag_no 1 ∷ [] }) ∷ []

abbrev pub uses_of_query : List Use
uses_of_query = (record { number = 1; rel = rel_no 1; frags = frag_no 1 ∷ []; restrictions = [] }) ∷ []

abbrev pub changes_of_put : List Change
changes_of_put = (record { frag = frag_no 1; key = pos 1; row = Some (Int (pos 1) ∷ Int (pos 5) ∷ []) }) ∷ []

-- the put is applied before the READ comes, which waits, and is answered

abbrev pub given_put_first : Input
given_put_first =
    beside_put
    (both_submitted
    ++ Deliver (T (tm_no 1)) (D (dm_no 1)) 1 ∷ Deliver U (D (dm_no 1)) 1 ∷ Deliver (D (dm_no 1)) (T (tm_no 1)) 2 ∷ Deliver (T (tm_no 1)) (D (dm_no 1)) 2 ∷ [])

abbrev pub put_first : ℕ → Log
put_first n = extended n given_put_first []

abbrev at_tm : ℕ → site.Log
at_tm n = local_of given_put_first (T (tm_no 1)) (put_first n)

abbrev pub query_queued : Queued
query_queued = record { number = 2; text = query_all 1; tries = 0 }

abbrev pub put_attempt : Attempt
put_attempt = record { txn = 1; attempt = 1; ts = 65; text = put_one 1; exchange = begins (put_one 1) [] }

abbrev pub put_commits : IsCommitT given_put_first 1 1 (put_first 27) put_attempt
put_commits = record {
  later = take 4 (at_tm 27);
  before = at_tm 3;
  bases = base_of given_put_first (put_first 3);
  is = refl;
  active_is = refl;
  start = record {
    later = [];
    before = at_tm 2;
    queued = record { number = 1; text = put_one 1; tries = 0 };
    is = refl;
    none_since = tt;
    at_home = refl;
    idle = refl;
    head = refl;
    number_is = refl;
    try_is = refl;
    text_is = refl;
    ts_is = refl;
  };
}

-- the READ comes first and waits; then the put's WRITE is handed over

abbrev pub given_put_later : Input
given_put_later = beside_put (both_submitted ++ Deliver U (D (dm_no 1)) 1 ∷ Deliver (T (tm_no 1)) (D (dm_no 1)) 1 ∷ [])

abbrev pub put_handed : Log
put_handed = extended 19 given_put_later []

-- Three classes: r reads both fragments, w writes the first one, and q reads it and writes the second. A query of r waits
-- for the others, and a put of w is held; the READ of q that comes lets the query of r be answered and so the put be
-- applied, which spoils it.

abbrev pub three_classes : Catalogue
three_classes =
    of_items 3
    ((record { name = 97 ∷ []; rel = rel_no 1; least = negsuc 9223372036854775807; greatest = pos 9; copies = dm_no 1 ∷ [] })
    ∷ (record { name = 98 ∷ []; rel = rel_no 1; least = pos 10; greatest = pos 9223372036854775807; copies = dm_no 1 ∷ [] }) ∷ [])
    ((record { name = 114 ∷ []; tm = tm_no 1; reads = (record { fragment = frag_no 1; at = dm_no 1 }) ∷ (record { fragment = frag_no 2; at = dm_no 1 }) ∷ []; writes = [] })
    ∷ (record { name = 119 ∷ []; tm = tm_no 2; reads = []; writes = frag_no 1 ∷ [] })
    ∷ (record { name = 113 ∷ []; tm = tm_no 3; reads = (record { fragment = frag_no 1; at = dm_no 1 }) ∷ []; writes = frag_no 2 ∷ [] }) ∷ [])

abbrev query_low : ℕ → Txn
query_low tm = record {
  name = [];
  tm = tm_no tm;
  statements = Query ((record { part = 1; column = 2 }) ∷ []) (rel_no 1 ∷ []) (Const (record { part = 1; column = 1 }) Le (Int (pos 9)) ∷ []) ∷ [];
}

abbrev pub given_spoilt : Input
given_spoilt = record {
  catalogue = three_classes;
  eras =
      (record {
        catalogue = three_classes;
        table =
            (record { edge = Vertical (class_no 1); block = 0; protocol = P1 })
            ∷ (record { edge = Vertical (class_no 2); block = 0; protocol = P1 })
            ∷ (record { edge = Vertical (class_no 3); block = 1; protocol = P1 })
            ∷ (record { edge = Diagonal (class_no 1) (class_no 2) (frag_no 1); block = 1; protocol = P2 })
            ∷ (record { edge = Diagonal (class_no 1) (class_no 3) (frag_no 2); block = 1; protocol = P2 })
            ∷ (record { edge = Diagonal (class_no 3) (class_no 2) (frag_no 1); block = 1; protocol = P3 }) ∷ [];
      })
      ∷ [];
  rows = [] ∷ [];
  txns = query_all 1 ∷ put_one 2 ∷ query_low 3 ∷ [];
  events =
      Tick (tm_no 2) 5 ∷ Submit (txn_no 1) ∷ Submit (txn_no 2) ∷ Submit (txn_no 3) ∷ Deliver (T (tm_no 1)) (D (dm_no 1)) 1
      ∷ Deliver (T (tm_no 2)) (D (dm_no 1)) 1 ∷ Deliver (T (tm_no 3)) (D (dm_no 1)) 1 ∷ [];
}

abbrev pub conds_of_spoilt : List Cond
conds_of_spoilt = (record { class = class_no 2; time = time_at 67; frags = frag_no 1 ∷ [] }) ∷ []

abbrev pub uses_of_spoilt : List Use
uses_of_spoilt =
    (record { number = 1; rel = rel_no 1; frags = frag_no 1 ∷ []; restrictions = (record { column = 1; op = Le; value = Int (pos 9) }) ∷ [] }) ∷ []

abbrev pub read_handed : Log
read_handed = extended 19 given_spoilt []

-- the Arrive, the other query's Answer, the put's Apply and the Reject
abbrev pub in_its_event : Log
in_its_event = take 4 (extended 23 given_spoilt [])
