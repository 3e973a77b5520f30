-- What an entry of the log of everything does at a data module.
use Rattle.std.proofs.Common.{arith}
use Rattle.sdd_progress.proofs.AllWaits.{Act, D, Did, DmNo, Does, Entry, Handed, Input, IsDue, IsPermitted, List, Log, Msg, None, Option, Rec, Records, Site, Some, allowed_act, ap, false, head, home_of, is_processing, local_of, local_step, made, maker, pipe, refl, setting_of, subst, true, view_of, waits, with_made, ℕ, ◌==◌, ◌∙◌, ◌∷◌, ◌≡◌}
use Rattle.sdd_obligations.specs.site_module.SiteLog as site

abbrev pub at_module : Input → DmNo → Log → site.Log
at_module g d log = local_of g (D d) log

-- the pipe of a class is as it was, and its head waits as it did
pub record LeavesPipe (l k : site.Log) (c : ℕ) : Type 0 where
  pub pipe_same : pipe c k ≡ pipe c l
  pub waits_same : waits c k ≡ waits c l

-- it leaves all pipes, hands a message over, or is an act of the module, which was due
pub data IsEntryAt (g : Input) (d : DmNo) (log : Log) (e : Entry) : Type 0 where
  aside : ((c : ℕ) → LeavesPipe (at_module g d log) (at_module g d (e ∷ log)) c) → IsEntryAt g d log e
  handing : (from : Site) (m : Msg) → at_module g d (e ∷ log) ≡ Handed from m ∷ at_module g d log → IsEntryAt g d log e
  acting : (act : Act) → e ≡ Does (D d) act → at_module g d (e ∷ log) ≡ Did act ∷ at_module g d log
      → IsDue (home_of (setting_of g (D d))) (view_of (setting_of g (D d)) (at_module g d log)) act → IsEntryAt g d log e

by_made : (g : Input) (d : DmNo) (log : Log) (e : Entry) (o : Option site.Entry) → IsPermitted g (e ∷ log)
    → made g (D d) log e ≡ o → at_module g d (e ∷ log) ≡ with_made o (at_module g d log) → IsEntryAt g d log e
by_made g d log e None h m s = aside (λ c. (record { pipe_same = ap (pipe c) s; waits_same = ap (waits c) s }))
by_made g d log e (Some (Handed from x)) h m s = handing from x s
by_made g d log e (Some (Did act)) h m s =
    let is = maker g (D d) log e (Did act) m in
    acting act is s (allowed_act g log (Does (D d) act) (subst (λ x. IsPermitted g (x ∷ log)) is h).0)
by_made g d log e (Some x) h m s = aside (λ c. (record { pipe_same = ap (pipe c) s ∙ refl; waits_same = ap (waits c) s ∙ refl }))

pub entry_at : (g : Input) (d : DmNo) (log : Log) (e : Entry) → IsPermitted g (e ∷ log) → IsEntryAt g d log e
entry_at g d log e h = by_made g d log e (made g (D d) log e) h refl (local_step g (D d) e log)

-- a hand leaves the head that is there

pub handed_head : (c : ℕ) (from : Site) (m x : Msg) (l : site.Log) → head (pipe c l) ≡ Some x → head (pipe c (Handed from m ∷ l)) ≡ Some x
handed_head c from m x l e = (grind (arith))

-- a record of another class leaves whether the head waits; and so does one that processes nothing, where it waits

pub waits_other : (c k : ℕ) (r : Rec) (sends : List (Site × Msg)) (l : site.Log) → (k == c) ≡ false → waits c (Did (Records k r sends) ∷ l) ≡ waits c l
waits_other c k r sends l e = rw e refl

pub waits_on : (c k : ℕ) (r : Rec) (sends : List (Site × Msg)) (l : site.Log) → is_processing r ≡ false → waits c l ≡ true
    → waits c (Did (Records k r sends) ∷ l) ≡ true
waits_on c k r sends l p w = (grind arith)
