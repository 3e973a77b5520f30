use Rattle.sdd_watch.proofs.All.{contains, list_any, pair_cmp, says_one, take, ℕ, ◌||◌, ◌≡◌}
use Rattle.sdd_watch.proofs.dones.Dones.note_all.Given as goal

-- what was said before, and by the messages so far
abbrev pub invariant-messages : goal.invariant-messages
invariant-messages l = (t d : ℕ)
    → contains pair_cmp l.self.said (t, d) ≡ (list_any (says_one t d l.dm.0) (take l.message-index l.messages) || contains pair_cmp l.fn.self.said (t, d))
