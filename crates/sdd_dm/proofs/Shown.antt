-- What a state shows of a log: what the heads may do is the same by its digests and by the pipes.
use Rattle.sdd_dm.proofs.All.{Bool, ClassView, Cond, IsDigest, List, Log, None, Option, Setting, Shows, State, [], any_map, any_range, ap, arith, at_class, at_classes, class_view, empty_pipe, false, filter, filter_same, find, head, head_at, head_of, head_step, is_at_least, is_met, is_met_in, judge, judge_in, judged, judged_in, last_write_is, length, not, passed_is, past, past_range, pipe, pipe_at, refl, spoiler, spoils, spoils_in, step_at, suc, view_of, waits, waits_at, ℕ, ◌∙◌, ◌∷◌, ◌≡◌, ◌≤◌}

-- the view at a class

abbrev pub no_class : ClassView
no_class = record { class = 0; pipe = empty_pipe; waits = false; applied = []; frozen = None }

pub at_class_is : (s : Setting) (log : Log) (c : ℕ) → c ≤ length s.catalogue.classes → at_class (view_of s log) c ≡ class_view s log c
at_class_is s log c l = at_classes (class_view s log) (suc (length s.catalogue.classes)) c no_class (omega arith)

-- the digest of each class
pub pipe_shown : (s : Setting) (st : State) (log : Log) (c : ℕ) → Shows s st log → IsDigest (pipe_at st.pipes c) (at_class (view_of s log) c).pipe
pipe_shown s st log c h = grind (arith, at_class_is, past, past_range)

pub head_shown : (s : Setting) (st : State) (log : Log) (c : ℕ) → Shows s st log → c ≤ length s.catalogue.classes
    → head_at st.pipes c ≡ head (pipe c log)
head_shown s st log c h l = ap head_of (h.classes c l).pipe.unprocessed

pub waits_shown : (s : Setting) (st : State) (log : Log) (c : ℕ) → Shows s st log → c ≤ length s.catalogue.classes
    → waits_at st.waits c ≡ waits c log
waits_shown s st log c h l = (h.classes c l).waits

-- conditions

pub met_is : (s : Setting) (st : State) (log : Log) → Shows s st log → (d : Cond) → is_met_in st.pipes d ≡ is_met (view_of s log) d
met_is s st log h d = passed_is (pipe_at st.pipes d.class.0) (at_class (view_of s log) d.class.0).pipe (pipe_shown s st log d.class.0 h) d.time.0

spoilt_is : (s : Setting) (st : State) (log : Log) → Shows s st log → (d : Cond) → spoils_in st.pipes d ≡ spoils (view_of s log) d
spoilt_is s st log h d = ap (is_at_least d.time.0) (last_write_is (pipe_at st.pipes d.class.0) (at_class (view_of s log) d.class.0).pipe (pipe_shown s st log d.class.0 h) d.frags)

found_of : (f : Cond → Bool) (conds : List Cond) → find f conds ≡ head_of (filter f conds)
found_of f [] = refl
found_of f (d ∷ conds) = grind (arith, found_of f conds)

judged_by : (s : Setting) (st : State) (log : Log) → Shows s st log → (lacking : List Cond) (o : Option Cond)
    → judged_in st.pipes lacking o ≡ judged (view_of s log) lacking o
judged_by s st log h lacking e = grind (arith, last_write_is, pipe_at, at_class, view_of, pipe_shown)

judged_is : (s : Setting) (st : State) (log : Log) → Shows s st log → (conds : List Cond) → judge_in st.pipes conds ≡ judge (view_of s log) conds
judged_is s st log h conds =
    ap (λ ds. judged_in st.pipes ds (spoiler st.pipes conds))
    (filter_same (λ d. not (is_met_in st.pipes d)) (λ d. not (is_met (view_of s log) d)) conds (λ d. ap not (met_is s st log h d)))
    ∙ ap (judged_in st.pipes (filter (λ d. not (is_met (view_of s log) d)) conds))
    (found_of (spoils_in st.pipes) conds
    ∙ ap head_of (filter_same (spoils_in st.pipes) (spoils (view_of s log)) conds (spoilt_is s st log h)))
    ∙ judged_by s st log h (filter (λ d. not (is_met (view_of s log) d)) conds) (head_of (filter (spoils (view_of s log)) conds))

-- held WRITEs

-- steps

pub step_is : (s : Setting) (st : State) (log : Log) (c : ℕ) → Shows s st log → c ≤ length s.catalogue.classes
    → step_at st.pipes st.waits c ≡ head_step (view_of s log) (class_view s log c)
step_is s st log c h l = grind (arith, any_range, any_map, met_is, judged_is)
