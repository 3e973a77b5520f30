-- What is kept beside links, queues and pipes stays where these change.
use Rattle.sdd_watch.proofs.All.{AreCommits, AreDones, Commits, Dones, Input, Knows, Log, Watch, Watches, ap, history, subst, sym, ◌∙◌, ◌≡◌}

pub known : (g : Input) (log : Log) (w : Watch) → Watches g log w → Knows g log w
known g log w h = record { sites = h.sites; records = h.records; commits = h.commits; dones = h.dones }

pub beside : (g : Input) (log : Log) (w v : Watch) → v.sites ≡ w.sites → v.records ≡ w.records → v.commits ≡ w.commits → v.dones ≡ w.dones
    → Knows g log w → Knows g log v
beside g log w v sites records commits dones h = record {
  sites = ap (λ s. s.items) sites ∙ h.sites;
  records = records ∙ h.records;
  commits = subst (λ (k : Commits). AreCommits (history log) k) (sym commits) h.commits;
  dones = subst (λ (k : Dones). AreDones g log k) (sym dones) h.dones;
}
