-- What a data module keeps tells how it stands.
use Rattle.sdd_watch.proofs.All.{Bool, Change, ClassNo, ClassView, Cond, DmNo, Head, Kept, List, Msg, None, Option, Read, Setting, Shows, Some, State, View, Waits, Write, [], ap, arith, class_no, class_view, false, filter, filter_map, filter_same, head, head_at, head_by, head_in, head_of, head_shown, holder_at, holders_in, holders_of, holds_back, holds_in, if◌then◌else◌, is_met, is_met_in, length, map, met_is, not, pipe, pipe_at, range_with_len, refl, report_head, reported_dm, suc, sym, true, unmet, unmet_in, unmet_of, view_of, waits, waits_shown, zero, ℕ, ◌&&◌, ◌+◌, ◌<◌, ◌∙◌, ◌∷◌, ◌≡◌, ◌≤◌}
use Rattle.sdd_moments.specs.schedule.world.data_module.Represents.{Represents}
use Rattle.sdd_moments.specs.obligations.site_module.SiteLog.{Log}
use Rattle.sdd_inside.specs.declared.standing.Head.TheVariants.{Held}

-- the classes whose READ holds back a WRITE

-- numbers of a range that are chosen, and what stands there
chosen : (f : ℕ → Bool) (g : ClassView → Bool) (s : Setting) (log : Log) (a n : ℕ) → ((c : ℕ) → c < a + n → f c ≡ g (class_view s log c))
    → filter_map (λ c. if f c then Some (class_no c) else None) (range_with_len a n)
    ≡ map (λ k. class_no k.class) (filter g (map (class_view s log) (range_with_len a n)))
chosen f g s log a zero h = refl
chosen f g s log a (suc n) h =
    elim (g (class_view s log a)) as (λ b. g (class_view s log a) ≡ b
    → filter_map (λ c. if f c then Some (class_no c) else None) (a ∷ range_with_len (a + 1) n)
    ≡ map (λ k. class_no k.class) (filter g (class_view s log a ∷ map (class_view s log) (range_with_len (a + 1) n)))) [
      | true ↦ λ e. rw (h a (omega arith) ∙ e, e, chosen f g s log (a + 1) n (λ c l. h c (omega arith))) refl
      | false ↦ λ e. rw (h a (omega arith) ∙ e, e, chosen f g s log (a + 1) n (λ c l. h c (omega arith))) refl
    ] refl

holder_is : (s : Setting) (st : State) (log : Log) (j w : ℕ) (changes : List Change) (c : ℕ) → Shows s st log → c ≤ length s.catalogue.classes
    → holds_in st.pipes st.waits j w changes c ≡ (waits c log && holds_back j w changes (head (pipe c log)))
holder_is s st log j w changes c h l = λ i. waits_shown s st log c h l i && holds_back j w changes (head_shown s st log c h l i)

holders_are : (s : Setting) (st : State) (log : Log) (j w : ℕ) (changes : List Change) → Shows s st log
    → filter_map (holder_at st.pipes st.waits j w changes) (range_with_len 0 (length st.pipes))
    ≡ map (λ k. class_no k.class) (filter (λ k. k.waits && holds_back j w changes (head k.pipe)) (view_of s log).classes)
holders_are s st log j w changes h =
    ap (λ n. filter_map (holder_at st.pipes st.waits j w changes) (range_with_len 0 n)) h.pipes
    ∙ chosen (holds_in st.pipes st.waits j w changes) (λ k. k.waits && holds_back j w changes (head k.pipe)) s log 0 (suc (length s.catalogue.classes))
    (λ c l. holder_is s st log j w changes c h (omega arith))

-- the head of a pipe, by what is kept of the pipes

unmet_is : (s : Setting) (st : State) (log : Log) → Shows s st log → (conds : List Cond)
    → unmet st.pipes conds ≡ filter (λ d. not (is_met (view_of s log) d)) conds
unmet_is s st log h conds =
    filter_same (λ d. not (is_met_in st.pipes d)) (λ d. not (is_met (view_of s log) d)) conds (λ d. ap not (met_is s st log h d))

head_is : (s : Setting) (st : State) (log : Log) (c : ℕ) (w : Bool) (o : Option Msg) → Shows s st log
    → head_in (class_no c) (if w then unmet_of st.pipes o else None) (holders_of st.pipes st.waits c o) ≡ head_by (view_of s log) c w o
head_is s st log c true (Some (Read ts class txn attempt conds uses)) h = ap (λ ds. Some (Waits (class_no c) ds)) (unmet_is s st log h conds)
head_is s st log c true (Some (Write ts class txn changes)) h = ap (λ ks. Some (Held (class_no c) ks)) (holders_are s st log c ts.0 changes h)
head_is s st log c false (Some (Write ts class txn changes)) h = ap (λ ks. Some (Held (class_no c) ks)) (holders_are s st log c ts.0 changes h)
head_is s st log c _ _ h = refl

pub head_is_reported : (st : State) (s : Setting) (log : Log) (c : ClassNo) (conds : Option (List Cond)) (readers : Option (List ClassNo)) → Shows s st log
    → c.0 ≤ length s.catalogue.classes → conds ≡ unmet_in st.pipes st.waits c.0 → readers ≡ holders_in st.pipes st.waits c.0
    → head_in c conds readers ≡ report_head (view_of s log) (class_view s log c.0)
head_is_reported st s log c conds readers shows l e f =
    ap (λ ds. head_in c ds readers) e ∙ ap (head_in c (unmet_in st.pipes st.waits c.0)) f
    ∙ ap (λ b. head_in c (if b then unmet_of st.pipes (head_at st.pipes c.0) else None) (holders_of st.pipes st.waits c.0 (head_at st.pipes c.0)))
    (waits_shown s st log c.0 shows l)
    ∙ ap (λ m. head_in c (if waits c.0 log then unmet_of st.pipes m else None) (holders_of st.pipes st.waits c.0 m)) (head_shown s st log c.0 shows l)
    ∙ head_is s st log c.0 (waits c.0 log) (head (pipe c.0 log)) shows

-- where each message in a pipe is processed there is none

no_head : (v : View) (c : ℕ) (w : Bool) → head_by v c w None ≡ None
no_head v c true = refl
no_head v c false = refl

none_first : (ms : List Msg) → length ms ≡ 0 → head_of ms ≡ None
none_first [] e = refl
none_first (m ∷ ms) e = absurd (omega (arith, e))

pub idle_is_reported : (st : State) (s : Setting) (log : Log) (c : ℕ) → Shows s st log → c ≤ length s.catalogue.classes
    → length (pipe_at st.pipes c).unprocessed ≡ 0 → None ≡ report_head (view_of s log) (class_view s log c)
idle_is_reported st s log c shows l e =
    let none : head (pipe c log) ≡ None = sym (head_shown s st log c shows l) ∙ none_first (pipe_at st.pipes c).unprocessed e in
    sym (ap (head_by (view_of s log) c (waits c log)) none ∙ no_head (view_of s log) c (waits c log))

-- all of it
pub state_is_reported : (k : Kept State) (s : Setting) (log : Log) (d : DmNo) (down : Bool) (heads : List Head) (n : ℕ) → Represents k s log
    → n ≡ length k.value.pipes → heads ≡ filter_map (report_head (view_of s log)) (map (class_view s log) (range_with_len 0 n))
    → reported_dm s log d.0 down ≡ record { dm = d; is_down = down; heads = heads }
state_is_reported k s log d down heads n represents e f =
    let all : heads ≡ filter_map (report_head (view_of s log)) (view_of s log).classes =
    f ∙ ap (λ m. filter_map (report_head (view_of s log)) (map (class_view s log) (range_with_len 0 m))) (e ∙ represents.shows.pipes) in
    rw all refl
