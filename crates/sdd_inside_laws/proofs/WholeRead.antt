-- What a reader has of a run after an event is what there is: of all links, queues and pipes.
use Rattle.std.proofs.Common.{ap, sym, ◌∙◌}
use Rattle.std.proofs.lemmas.Simd.{map-map}
use Rattle.std.specs.Prelude.{ℕ, ◌≡◌, map}
use Rattle.sdd_app_inside.specs.watch.obligations.All.{Input, IsGood, Log, Site, all_links}
use Rattle.sdd_inside.specs.declared.delta.Delta.{Delta}
use Rattle.sdd_inside_laws.proofs.LinksRead.{link_read}
use Rattle.sdd_inside_laws.proofs.Parts.{same_members}
use Rattle.sdd_inside_laws.proofs.PipesRead.{pipe_read}
use Rattle.sdd_inside_laws.proofs.QueuesRead.{all_queues, of_class, queue_read}
use Rattle.sdd_inside_laws.specs.Reader.{known, known_link, known_pipe, queue_classes, read, read_link, read_pipe, read_queue}
use Rattle.sdd_app_inside.specs.watch.moments.Moments.{all_pipes, queues_of}
use Rattle.sdd_app_inside.specs.watch.Text.{change}
use Rattle.sdd_app_inside.specs.watch.moments.Changes.{IsBetween}

pub whole_read : (g : Input) (old new : Log) → IsGood g → IsBetween g old new → read (change g old new) (known g old) ≡ known g new
whole_read g old new good b =
    let d : Delta = change g old new in
    let links : map (read_link d) (map (known_link old) (all_links g)) ≡ map (known_link new) (all_links g) =
    map-map (read_link d) (known_link old) (all_links g)
    ∙ same_members (λ (l : Site × Site). read_link d (known_link old l)) (known_link new) (all_links g) (λ k l e. link_read g old new l.0 l.1 k b e) in
    let queues : map (read_queue d) (queues_of g old) ≡ queues_of g new =
    ap (map (read_queue d)) (all_queues g old) ∙ map-map (read_queue d) (of_class g old) (queue_classes g)
    ∙ same_members (λ (c : ℕ). read_queue d (of_class g old c)) (of_class g new) (queue_classes g) (λ k c e. queue_read g old new c k good b e)
    ∙ sym (all_queues g new) in
    let pipes : map (read_pipe d) (map (known_pipe g old) (all_pipes g)) ≡ map (known_pipe g new) (all_pipes g) =
    map-map (read_pipe d) (known_pipe g old) (all_pipes g)
    ∙ same_members (λ (p : ℕ × ℕ). read_pipe d (known_pipe g old p)) (known_pipe g new) (all_pipes g) (λ k p e. pipe_read g old new p.0 p.1 k good b e) in
    λ i. record { links = links i; queues = queues i; pipes = pipes i }
