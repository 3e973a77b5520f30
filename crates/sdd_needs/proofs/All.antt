-- The names of std, of the crates below and of this crate's definitions that its proofs cite. Declares nothing.
pub use Rattle.sdd_log.proofs.AsLists.{next_mark_is}
pub use Rattle.sdd_log.proofs.NextMark.{mark_is_next}
pub use Rattle.sdd_log.proofs.Marking.{TurnsNone}
pub use Rattle.sdd_log.proofs.Rounding.{each_of_round}
pub use Rattle.sdd_log.proofs.site_module.Finding.{found_at, one_of}
pub use Rattle.sdd_log.specs.Due.{does_at, hand_due, hand_number, hand_on, mark_due, next, next_at, next_number, site_due}
pub use Rattle.sdd_log.specs.Entries.{Does, Entry, Hand, Input, Log, Mark, Notes, Redeclares, Round, Submitted, marks}
pub use Rattle.sdd_log.specs.Lawful.{IsLawful, IsWithin}
pub use Rattle.sdd_log.specs.Locals.{local_of, nth_era, redeclares, setting_of, with_tick}
pub use Rattle.sdd_log.specs.Left.{after_mark, left, mark_from, mark_of}
pub use Rattle.sdd_log.specs.Marks.{from_event, greatest_bound}
pub use Rattle.sdd_log.specs.Resting.{AtEach}
pub use Rattle.sdd_log.specs.Traffic.{all_links, calls_of, handed, is_down, link_of, takes_part, turned_by}
pub use Rattle.sdd_log.specs.base.Sites.{sites}
pub use Rattle.sdd_log.specs.base.Words.{tail_of}
pub use Rattle.sdd_log.specs.base.declared.event.Event.{Event}
pub use Rattle.sdd_log.specs.base.declared.event.Event.TheVariants.{Deliver, Down, Lose, Redeclare, Repeat, Resend, Settle, Submit, Tick, Up}
pub use Rattle.sdd_log.specs.base.declared.limits.TheConstants.{MAX_RUN_EVENTS, MAX_TICKS}
pub use Rattle.sdd_log.specs.base.declared.number.TmNo.{TmNo}
pub use Rattle.sdd_log.specs.base.declared.site.Site.{Site}
pub use Rattle.sdd_log.specs.base.declared.site.Site.TheVariants.{T}
pub use Rattle.sdd_log.specs.net.Links.{Call, delivered, in_flight, link, quiet, resends_now, round}
pub use Rattle.sdd_log.specs.site_module.SiteLog.{Act, current_era}
pub use Rattle.sdd_log.specs.wire.declared.msg.Msg.{Msg}
pub use Rattle.sdd_needs.specs.AfterEvents.{down_from, is_down_after, redeclares_in}
pub use Rattle.sdd_needs.specs.Inputs.{AllFewTicks, ticks_of}
pub use Rattle.std.proofs.Common.{Bool, List, None, Option, Some, [], ap, append_assoc, arith, cond, false, filter_map, flat_map, if◌then◌else◌, refl, replicate, slice_get, subst, suc, sym, true, zero, ℕ, ◌++◌, ◌+◌, ◌-◌, ◌∙◌, ◌∷◌, ◌≡◌, ◌≤◌}
pub use Rattle.std.specs.List.{cons_option}
pub use Rattle.std.proofs.lemmas.Bool.Decides.{nat_tests}
