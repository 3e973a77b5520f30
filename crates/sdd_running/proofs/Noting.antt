-- What a Start adds to the notes of a call.
use Rattle.sdd_running.proofs.All.{Beginning, Catalogue, Exchange, List, Notes, Queued, Rec, Running, Start, Ticking, [], arith, begins, bound_of, class_no, clock, own, p2_of, reads_of, sends_of_act, start_act, suc, ticked, time_at, timestamp, txn_no, uses_of, with_act, with_sends-append, ℕ, ◌++◌, ◌+◌, ◌-◌, ◌∷◌, ◌≡◌}
use Rattle.sdd_module.specs.protocol.declared.entry.Entry as line

-- the beginning of the next attempt of q
abbrev pub beginning_of : Catalogue → List line.Entry → ℕ → Queued → ℕ → ℕ → Beginning
beginning_of cat table c q own p2 = record { catalogue = cat; table = table; class = c; queued = q; uses = uses_of cat q.text; own = own; p2 = p2 }

abbrev running_of : ℕ → Exchange → Running
running_of ts x = record { ts = ts; exchange = x }

abbrev record_of : Beginning → Rec
record_of b = Start (txn_no b.queued.number) (suc b.queued.tries) (class_no b.class) (time_at b.own) (p2_of b.class b.p2) b.uses

pub begun_noted : (cat : Catalogue) (table : List line.Entry) (c : ℕ) (q : Queued) (clock now : Ticking) (own p2 : ℕ) (b : Beginning) (rec : Rec) (old mid new : Notes)
    → now ≡ ticked clock 1 → own ≡ timestamp now → p2 ≡ bound_of clock → b ≡ beginning_of cat table c q own p2 → rec ≡ record_of b
    → mid ≡ record old { out = old.out ++ reads_of b } → new ≡ record mid { recs = mid.recs ++ rec ∷ [] } → new ≡ with_act (start_act cat table c clock q) old
begun_noted cat table c q clock now own p2 b rec old mid new e f g h i j k = grind (arith, with_sends-append)

pub begun_running : (cat : Catalogue) (table : List line.Entry) (c : ℕ) (q : Queued) (clock now : Ticking) (own p2 : ℕ) (b : Beginning) (x : Exchange)
    → now ≡ ticked clock 1 → own ≡ timestamp now → p2 ≡ bound_of clock → b ≡ beginning_of cat table c q own p2 → x ≡ begins q.text (reads_of b)
    → running_of own x ≡ running_of (timestamp (ticked clock 1)) (begins q.text (sends_of_act (start_act cat table c clock q)))
begun_running cat table c q clock now own p2 b x e f g h i = cc
