-- What is read of the pipe in the world is what the log gives.
use Rattle.sdd_moments.proofs.All.{Calm, D, Input, IsBetween, IsSiteOf, List, Log, [], ap, append-nil, arrived, cond, dm_no, false, is_changed_pipe, is_empty, is_still_pipe, length, local_of, not, pipe_after, pipe_before, refl, setting_of, sym, watched_pipe, ℕ, ◌&&◌, ◌++◌, ◌+◌, ◌-◌, ◌==◌, ◌∙◌, ◌∷◌, ◌≡◌, ◌≤◌}
use Rattle.sdd_moments.proofs.PipesLooked.{IsRead, left_over, pipe_idle, pipe_kept, pipe_quiet, read_pipe, seen_after, seen_before}
use Rattle.sdd_moments.proofs.watched_pipe.WatchedPipe.look.Goals as goal

pub data_module-module-requires : goal.data_module-module-requires
data_module-module-requires c =
    let r = c.requires in
    (setting_of r.0 (D c.args.self.now.dm), local_of r.0 (D c.args.self.now.dm) r.1, c.sites-sites.ensures r.0 r.1 r.2 (D c.args.self.now.dm) r.3)

read : (c : goal.In_ok-add_changed) (g : Input) (old new : Log) (d n : ℕ) → Calm c.args.world.now g new → IsSiteOf g (D (dm_no d)) → n ≤ length g.catalogue.classes
    → c.args.self.now ≡ watched_pipe g old (d, n) → IsRead g new d n c.count_unprocessed-unprocessed.result c.passed_to-passed.result
read c g old new d n calm site few is =
    read_pipe g old new d n c.args.self.now c.sites-sites.result.now c.data_module-module.result.now c.count_unprocessed-unprocessed.result
    c.passed_to-passed.result is (c.sites-sites.ensures g new calm) site few c.data_module-module.ensures
    c.count_unprocessed-unprocessed.ensures c.passed_to-passed.ensures

before_is : (c : goal.In_ok-add_changed) (g : Input) (old new : Log) → Calm c.args.world.now g new
    → (d n : ℕ) → IsSiteOf g (D (dm_no d)) → n ≤ length g.catalogue.classes → c.args.self.now ≡ watched_pipe g old (d, n)
    → c.moment-before.result ≡ pipe_before g old new (d, n)
before_is c g old new calm d n site few is =
    seen_before g old new d n c.args.self.now c.count_unprocessed-unprocessed.result c.passed_to-passed.result c.moment-before.result c.new.result.items
    is (read c g old new d n calm site few is) c.new.ensures.items c.moment-before.ensures

after_is : (c : goal.In_ok-add_changed) (g : Input) (old new : Log) → Calm c.args.world.now g new → IsBetween g old new → c.args.arrived.now ≡ arrived g old new
    → (d n : ℕ) → IsSiteOf g (D (dm_no d)) → n ≤ length g.catalogue.classes → c.args.self.now ≡ watched_pipe g old (d, n)
    → c.moment-after.result ≡ pipe_after g old new (d, n)
after_is c g old new calm between all d n site few is =
    let left = c.count_unprocessed-unprocessed.result in
    let counted : c.in_ok-processed.processed ≡ (c.args.self.now.unprocessed + length c.in_ok-came.came.items) - left =
    c.in_ok-processed.ensures ∙ ap (λ (ns : List ℕ). (c.args.self.now.unprocessed + length ns) - left) c.as_slice-2.ensures.value in
    seen_after g old new d n c.args.self.now c.in_ok-came.came.items left c.in_ok-processed.processed c.passed_to-passed.result c.moment-after.result
    c.args.arrived.now calm.parts.good between site few is all (read c g old new d n calm site few is) c.in_ok-came.ensures counted c.moment-after.ensures

pub returns-clause-kept : goal.returns-clause-kept
returns-clause-kept c = λ g old new calm between all d n site few is.
    pipe_kept g old new d n c.args.self.now _ c.count_unprocessed-unprocessed.result c.passed_to-passed.result is (read c g old new d n calm site few is) refl

pub returns-clause-before : goal.returns-clause-before
returns-clause-before c = λ g old new calm between all d n site few is.
    c.in_ok-add_changed.ensures.before ∙ (λ i. c.args.parts.now.before.items
    ++ cond (not (is_still_pipe (after_is c g old new calm between all d n site few is i))) (before_is c g old new calm d n site few is i ∷ []) [])

pub returns-clause-after : goal.returns-clause-after
returns-clause-after c = λ g old new calm between all d n site few is.
    c.in_ok-add_changed.ensures.after ∙ (λ i. c.args.parts.now.after.items
    ++ cond (not (is_still_pipe (after_is c g old new calm between all d n site few is i))) (after_is c g old new calm between all d n site few is i ∷ []) [])

-- a pipe that is passed over

quiet : (c : goal.After-drop-came) (g : Input) (old new : Log) → Calm c.args.world.now g new → IsBetween g old new → c.args.arrived.now ≡ arrived g old new
    → (d n : ℕ) → IsSiteOf g (D (dm_no d)) → n ≤ length g.catalogue.classes → c.args.self.now ≡ watched_pipe g old (d, n)
    → (c.args.self.now ≡ watched_pipe g new (d, n)) × (is_changed_pipe g old new (d, n) ≡ false)
quiet c g old new calm between all d n site few is =
    pipe_quiet g old new d n c.args.self.now c.in_ok-came.came.items c.count_unprocessed-unprocessed.result c.is_quiet.result c.args.arrived.now
    calm.parts.good between site few is all
    (left_over g old new d n c.args.self.now c.sites-sites.result.now c.data_module-module.result.now c.count_unprocessed-unprocessed.result is
    (c.sites-sites.ensures g new calm) site few c.data_module-module.ensures c.count_unprocessed-unprocessed.ensures)
    c.in_ok-came.ensures (c.is_quiet.ensures ∙ ap (λ (ns : List ℕ). is_empty ns && c.args.self.now.unprocessed == c.count_unprocessed-unprocessed.result) c.as_slice.ensures.value)
    c.if-is_quiet.true

pub returns-then-is_quiet-clause-kept : goal.returns-then-is_quiet-clause-kept
returns-then-is_quiet-clause-kept c = λ g old new calm between all d n site few is. (quiet c g old new calm between all d n site few is).0

pub returns-then-is_quiet-clause-before : goal.returns-then-is_quiet-clause-before
returns-then-is_quiet-clause-before c = λ g old new calm between all d n site few is.
    sym (append-nil c.args.parts.now.before.items)
    ∙ ap (λ b. c.args.parts.now.before.items ++ cond b (pipe_before g old new (d, n) ∷ []) []) (sym (quiet c g old new calm between all d n site few is).1)

pub returns-then-is_quiet-clause-after : goal.returns-then-is_quiet-clause-after
returns-then-is_quiet-clause-after c = λ g old new calm between all d n site few is.
    sym (append-nil c.args.parts.now.after.items)
    ∙ ap (λ b. c.args.parts.now.after.items ++ cond b (pipe_after g old new (d, n) ∷ []) []) (sym (quiet c g old new calm between all d n site few is).1)

-- one that is idle

idle : (c : goal.Then-is_idle) (g : Input) (old new : Log) → Calm c.args.world.now g new → IsBetween g old new → c.args.arrived.now ≡ arrived g old new
    → (d n : ℕ) → IsSiteOf g (D (dm_no d)) → n ≤ length g.catalogue.classes → c.args.self.now ≡ watched_pipe g old (d, n)
    → (c.args.self.now ≡ watched_pipe g new (d, n)) × (is_changed_pipe g old new (d, n) ≡ false)
idle c g old new calm between all d n site few is =
    pipe_idle g old new d n c.args.self.now c.is_idle.result c.args.arrived.now calm.parts.good between site few is all c.is_idle.ensures c.if-is_idle.true

pub returns-then-is_idle-clause-kept : goal.returns-then-is_idle-clause-kept
returns-then-is_idle-clause-kept c = λ g old new calm between all d n site few is. (idle c g old new calm between all d n site few is).0

pub returns-then-is_idle-clause-before : goal.returns-then-is_idle-clause-before
returns-then-is_idle-clause-before c = λ g old new calm between all d n site few is.
    sym (append-nil c.args.parts.now.before.items)
    ∙ ap (λ b. c.args.parts.now.before.items ++ cond b (pipe_before g old new (d, n) ∷ []) []) (sym (idle c g old new calm between all d n site few is).1)

pub returns-then-is_idle-clause-after : goal.returns-then-is_idle-clause-after
returns-then-is_idle-clause-after c = λ g old new calm between all d n site few is.
    sym (append-nil c.args.parts.now.after.items)
    ∙ ap (λ b. c.args.parts.now.after.items ++ cond b (pipe_after g old new (d, n) ∷ []) []) (sym (idle c g old new calm between all d n site few is).1)
