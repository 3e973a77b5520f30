-- The tables before the first event.
use Rattle.sdd_backups.proofs.All.{List, None, State, Tracks, [], ap, arith, false, get_or, get_or-replicate, replicate, ℕ, ◌*◌, ◌+◌, ◌<◌, ◌∙◌, ◌≡◌, ◌≤◌}

same_everywhere : {A : Type 0} (xs : List A) (n i : ℕ) (x : A) → xs ≡ replicate n x → i < n → get_or xs i x ≡ x
same_everywhere xs n i x is within = ap (λ z. get_or z i x) is ∙ get_or-replicate n i x x within

pub tracks_nothing : (st : State) → st.backups ≤ 8 → st.stopped ≡ replicate 9 false → st.finished ≡ replicate 9 false
    → st.values ≡ replicate 9 None → st.numbers ≡ replicate 9 0 → st.known ≡ replicate 81 false → st.told ≡ replicate 81 false → st.heard ≡ replicate 81 false
    → st.links ≡ replicate 81 [] → st.most ≡ 0 → Tracks st []
tracks_nothing st backups stopped finished values numbers known told heard links most = record {
  stopped = λ i l. same_everywhere st.stopped 9 i false stopped (omega arith);
  finished = λ i l. same_everywhere st.finished 9 i false finished (omega arith);
  values = λ i l. same_everywhere st.values 9 i None values (omega arith);
  numbers = λ i l. same_everywhere st.numbers 9 i 0 numbers (omega arith);
  known = λ i j l m. same_everywhere st.known 81 (9 * i + j) false known (omega arith);
  told = λ i j l m. same_everywhere st.told 81 (9 * i + j) false told (omega arith);
  heard = λ i j l m. same_everywhere st.heard 81 (9 * i + j) false heard (omega arith);
  links = λ i j l m. same_everywhere st.links 81 (9 * i + j) [] links (omega arith);
  most = most;
}
