-- The names of std and of the crates below that its proofs cite. Declares nothing.
pub use Rattle.sdd_progress.proofs.obligations.base.Membership.{Contains-cases, Contains-nil}
pub use Rattle.sdd_progress.proofs.obligations.invariants.Answered.{read_of}
pub use Rattle.sdd_progress.proofs.obligations.invariants.Applied.{one_of_key, reads_strict}
pub use Rattle.sdd_progress.proofs.obligations.invariants.AreReadSteps.{d_step}
pub use Rattle.sdd_progress.proofs.obligations.invariants.ClassOrder.{head_place}
pub use Rattle.sdd_progress.proofs.obligations.invariants.Lists.{any_at}
pub use Rattle.sdd_progress.proofs.obligations.invariants.Made.{local_grows, own_act, permitted_before}
pub use Rattle.sdd_progress.proofs.obligations.invariants.Once.{processed_grows}
pub use Rattle.sdd_progress.proofs.obligations.invariants.Places.{compare}
pub use Rattle.sdd_progress.proofs.obligations.invariants.Processed.{own_record, processed_more}
pub use Rattle.sdd_progress.proofs.obligations.invariants.Starting.{commit_answered}
pub use Rattle.sdd_progress.proofs.obligations.laws.NumberedStarts.{one_start, start_counts}
pub use Rattle.sdd_progress.proofs.obligations.logs.EachLocal.{allowed_act}
pub use Rattle.sdd_progress.proofs.obligations.logs.NewMarks.{lawful_permitted}
pub use Rattle.sdd_progress.proofs.obligations.net.Directions.{link_back, link_parts, link_turned, same_here, same_is}
pub use Rattle.sdd_progress.proofs.obligations.net.Rounds.{links_exist}
pub use Rattle.sdd_progress.proofs.obligations.net.Sound.{sound}
pub use Rattle.sdd_progress.proofs.obligations.links.Found.{in_committed}
pub use Rattle.sdd_progress.proofs.obligations.links.Places.{one_attempt, same_start}
pub use Rattle.sdd_progress.specs.obligations.All.{Ack, Act, Answer, Call, Catalogue, Change, ClassNo, Commit, Committed, Cond, D, Deliver, Delivers, Did, DmNo, Does, Entry, Eras, Event, Hand, HasCommit, History, Input, IsAgain, IsAttempt, IsCommitted, IsConditionOf, IsLawful, IsPermitted, IsRecordAt, IsSoundCatalogue, IsSubmitted, KeepsRejections, KeepsStarts, Link, Log, Lose, Mark, Message, Msg, Notes, Packet, Pipe, Read, Rec, Records, Redeclare, Redeclares, Reject, Repeat, Reply, Resend, Resends, Round, Setting, Settle, Site, Start, StartedBefore, Submitted, T, Ts, Txn, TxnNo, U, Use, after_mark, all_links, are_linked, arrives, ascending, calls_of, class_for, class_no, commit_act, committed, contains, deliver, delivered, dm_no, event_at, fragments_in, head, history, home, home_of, in_flight, is_empty, is_link, is_processing, is_quiet_link, is_site, left, link, links, local_of, mark_from, mark_of, next, next_mark, number_of, on_link, p2_time, pipe, pipe_at, puts, quiet, read_at, resend, resends_now, round, same_site, sends_of_act, setting_of, sites, starts_before, time_at, turned, txn_no, uses_of, with_flight}
pub use Rattle.sdd_progress.specs.obligations.invariants.All.{from_event, tail_of}
pub use Rattle.sdd_progress.specs.obligations.invariants.Seen.{class_puts}
pub use Rattle.sdd_progress.specs.obligations.laws.Eras.{catalogue_at}
pub use Rattle.sdd_progress.specs.obligations.logs.Traffic.{calls_by}
pub use Rattle.sdd_progress.specs.obligations.net.Links.{Way, numbered, top, unacked}
pub use Rattle.sdd_progress.specs.obligations.net.Sound.{IsSoundLink}
pub use Rattle.sdd_progress.proofs.FewRejected.{IsRejectAt}
pub use Rattle.sdd_progress.proofs.Marked.{next_is_of_events}
pub use Rattle.sdd_progress.proofs.OtherClass.{other_class}
pub use Rattle.sdd_progress.proofs.Rejects.{keeps_rejects}
pub use Rattle.sdd_progress.proofs.Writers.{low_of_condition, low_time, one_class}
pub use Rattle.sdd_progress.proofs.lawful.Answered.{read_msg, read_of_some}
pub use Rattle.sdd_progress.proofs.lawful.Applied.{IsDataIn, data_in}
pub use Rattle.sdd_progress.proofs.lawful.Classes.{further_back}
pub use Rattle.sdd_progress.proofs.lawful.Committed.{committed_in, same_attempt}
pub use Rattle.sdd_progress.proofs.lawful.Homes.{home_small}
pub use Rattle.sdd_progress.proofs.lawful.OneAnswerEach.{commit_after}
pub use Rattle.sdd_progress.proofs.lawful.OneEra.{of_one_era}
pub use Rattle.sdd_progress.proofs.lawful.Rejected.{rejecting}
pub use Rattle.sdd_progress.proofs.lawful.Rejections.{keeps_rejections}
pub use Rattle.sdd_progress.proofs.lawful.Starts.{keeps_starts}
pub use Rattle.sdd_progress.specs.Few.{is_reject_of, is_rejected}
pub use Rattle.sdd_progress.specs.Rejects.{KeepsRejects}
pub use Rattle.sdd_progress.specs.Rounds.{rounds}
pub use Rattle.sdd_progress.specs.lawful.SoundInput.{AreErasOf, one_era}
pub use Rattle.sdd_receiver.proofs.Tops.{top_is, top_rises}
pub use Rattle.std.proofs.Common.{All, Bool, Contains, List, None, Option, Some, [], ap, append-nil, append_assoc, arith, cond, drop, eq-eqb, eqb, eqb-true, false, filter, filter_map, flat_map, if◌then◌else◌, inl, inr, le-leb, leb-true, length, length-append, length-drop, ltb-false, ltb-true, map, max, nat_le, nat_lt, ne_eqb, not, option_map, refl, replicate, slice_get, subst, suc, sym, take, take_all, true, unwrap_or, zero, ℕ, ◌&&◌, ◌*◌, ◌++◌, ◌+◌, ◌-◌, ◌<◌, ◌==◌, ◌||◌, ◌∙◌, ◌∷◌, ◌≡◌, ◌≢◌, ◌≤◌, ◌⊎◌}
pub use Rattle.std.proofs.Math.Decide.{dec_le}
pub use Rattle.std.proofs.lemmas.Bool.{and_from, and_parts, cases_Bool, cases_lt, false≢true}
pub use Rattle.std.proofs.lemmas.List.Elements.{All-head, All-tail}
pub use Rattle.std.proofs.lemmas.Option.{same_Some}
pub use Rattle.std.proofs.lemmas.List.{length-map}
pub use Rattle.std.proofs.lemmas.Map.Keys.{IsDistinct-cons}
pub use Rattle.std.proofs.lemmas.Map.Made.{length-le_from_is_member}
pub use Rattle.std.specs.Cmp.{nat_eq_equiv}
pub use Rattle.std.specs.List.{AllByRecursion, cons_option, list_all, list_any, range_with_len}
pub use Rattle.sdd_bounds.specs.ClassRejections.{AreFewRejectedOfClasses, committed_elsewhere, is_rejected_of_class, rejected_of_class}
pub use Rattle.sdd_progress.specs.obligations.invariants.All.{modules_of}
