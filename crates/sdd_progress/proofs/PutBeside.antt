-- What the laws of class 0 say of an undeclared query's READ beside a put's WRITE.
use Rattle.sdd_progress.proofs.All.{Change, ClassNo, Cond, List, Some, Ts, TxnNo, Write, arith, conds_of_query, dm_no, given_put_later, head, later_permitted, pipe_at, put_handed, query_is_next, slice_get, writer_is_sound, ℕ, ◌<◌, ◌≡◌}
use Rattle.sdd_progress.proofs.Alone.{below_read, zero_time}

pub put_is_earlier : (write : Ts) (by : ClassNo) (writer : TxnNo) (changes : List Change)
    → head (pipe_at given_put_later 1 (dm_no 1) put_handed) ≡ Some (Write write by writer changes) → write.0 < 128
put_is_earlier write by writer changes e = grind (arith, below_read, writer_is_sound, later_permitted, query_is_next)

pub conds_at_own_time : (place : ℕ) (cond : Cond) → slice_get conds_of_query place ≡ Some cond → cond.time.0 ≡ 128
conds_at_own_time place cond e = grind (arith, zero_time, later_permitted, query_is_next)
