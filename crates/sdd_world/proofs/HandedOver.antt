-- How many messages of a link are handed over, by what is delivered and what is kept.
use Rattle.sdd_world.proofs.All.{Calm, Input, IsLinkOf, IsModuleOf, IsSiteOf, Log, Site, U, World, ap, arith, delivered, false, handed, is_down, kept_from, length, link_of, link_parts, mailbox_at, not, refl, sym, takes_part, true, ℕ, ◌+◌, ◌-◌, ◌∙◌, ◌≡◌, ◌≢◌}
use Rattle.sdd_world.proofs.Placing.{module_of, no_u, part_is}

pub site_linked : (g : Input) (a b : Site) → IsLinkOf g a b → IsSiteOf g b
site_linked g a b l = (link_parts g.catalogue.tms g.catalogue.dms a b l).to

-- to a site that takes part all is handed over that is delivered
handed_part : (w : World) (g : Input) (log : Log) (a b : Site) (count : ℕ) → takes_part b log ≡ true → Calm w g log
    → count ≡ delivered (link_of a b log).there → count ≡ handed a b log
handed_part w g log a b count p calm e = e ∙ sym (calm.rests.handed_all a b p)

pub handed_u : (w : World) (g : Input) (log : Log) (a : Site) (count : ℕ) → Calm w g log
    → count ≡ delivered (link_of a U log).there → count ≡ handed a U log
handed_u w g log a count calm e = handed_part w g log a U count refl calm e

pub handed_there : (w : World) (g : Input) (log : Log) (a at : Site) (count kept : ℕ) → IsModuleOf g at → Calm w g log
    → count ≡ delivered (link_of a at log).there → kept ≡ length (kept_from (mailbox_at w.spool at) a) → count - kept ≡ handed a at log
handed_there w g log a at count kept here calm e f =
    let s = calm.spooled.each at here (no_u g at here) in
    elim (is_down at log) as (λ b. is_down at log ≡ b → count - kept ≡ handed a at log) [
      | true ↦ λ down.
          (let r : handed a at log + length (kept_from (mailbox_at w.spool at) a) ≡ delivered (link_of a at log).there = (s.kept down a).count in
          omega (arith, e, f, r))
      | false ↦ λ up.
          (let h : handed a at log ≡ delivered (link_of a at log).there = calm.rests.handed_all a at (part_is g at log here ∙ ap not up) in
          let z : kept ≡ 0 = f ∙ ap length (s.empty up a) in
          omega (arith, e, h, z))
    ] refl

-- a linked site that isn't U is a module
pub module_linked : (g : Input) (a b : Site) → b ≢ U → IsLinkOf g a b → IsModuleOf g b
module_linked g a b n l = module_of g b n (site_linked g a b l)
