-- The words of this layer that other files use, in one place to import them from.
pub use Rattle.nf_words.specs.Asked.{Asked, asked_about, asked_of, asked_of_trash, asked_of_upload, asked_of_version, asks_nothing, is_about_files, is_about_people, is_about_shares, is_transfer, named_at, named_in, path_at, path_in, paths_of, users_of}
pub use Rattle.nf_words.specs.Callers.{asks_by_link, is_caller, may_ask}
unfoldable pub use Rattle.nf_words.specs.Callers.{not_you_rule, token_rule}
pub use Rattle.nf_words.specs.Calls.{Call, Way, Ways, asked_by, asker_of, behind, caller_row, found, is_by_link, is_itself, is_mount_asked, is_one, last_name, link_of, linked_of, mount_for, mount_of, mounted, place_at, places_by, places_of, root_of, seeker_of, user_of, way_by, way_of, ways_for, ways_of}
pub use Rattle.nf_words.specs.Changes.{abandons, allowed_of, altered, assembled, assembled_at, beside, besides, blob_of, brought_back, by_of, carries, changed, Charged, charged, charged_for, charged_to, changes_of, chunk_sent, copied, copies, copies_settled, crossing, deleted, discard, discards, done, forgets, given, goal_of, goes_itself, gone_beside, gone_from, gone_with, hold_of, is_idle, item_dropped, is_same, item_restored, joined_report, left_row, made_folder, made_or_done, makes, meta_after, mount_left, mount_renamed, mounting, moved, moves, named_row, new_file, new_node, nothing_done, own_mount, people_done, purged_by, purges, raised, refilled, refills, reply_to, reported, requoted, requoting, restoring, row_at, same_end, served, set_row, settled_by, share_ended, share_made, share_set, share_told, shared, shown, stamped, stored, swept, told, trash_done, turns_over, unsettled, upload_begun, upload_done, version_done, with_goal, with_meta, with_mount_row}
pub use Rattle.nf_words.specs.Charges.{back_excess, carry_excess, copy_excess, counted_for, exceeded, excess, excess_at, is_over, assembled_excess, quota_of, restore_excess}
unfoldable pub use Rattle.nf_words.specs.Charges.{charge_of, quota_rule}
pub use Rattle.nf_words.specs.Contents.{IsPieceSound, contents_of, row_content, stored_pieces}
pub use Rattle.nf_words.specs.Counters.{above, blob_after, counted}
pub use Rattle.nf_words.specs.Copies.{copied_row, copies_of_all, copies_to, renamed}
unfoldable pub use Rattle.nf_words.specs.Copies.{copies_within}
pub use Rattle.nf_words.specs.Deeds.{abandoned, closed_under, deed_done, deeds_done, discarded, dropped_under, ended_row, ended_under, forgotten, gone_under, is_closing, joined, purged, replaced, restored, told_chunks, told_deed, told_deeds, told_item, told_node}
pub use Rattle.nf_words.specs.Endings.{blob_for, chunk_put, chunk_refusal, chunk_stored, content_in, end_decision, end_lost, end_refusal, end_unallowed, end_unfit, end_unreached, ends_at, ends_goal, place_of, stored_at, stored_new, stores, stores_chunk, touched_row, unless_refused, upload_touched}
pub use Rattle.nf_words.specs.Fine.{IsBorn, IsFilled, IsNewChunk, IsNewGroup, IsNewMember, IsNewMount, IsNewShare, IsNewToken, IsNewUpload, IsNewUser, IsNewVersion, IsOfPeople, IsOtherShare, IsRemounted, IsRequoted, IsTouched, IsUnmounted, StandsOn}
pub use Rattle.nf_words.specs.History.{EndsAtDays, IsEnd, IsInBounds, IsLegal, IsLegalFrom, IsModest, IsSmall, LeavesRoom, MayAsk, MayBear, MayBring, MayCome, MayEnd, MayWant, NamesUser, after, after_mark, answer_at, failed, replay}
pub use Rattle.nf_words.specs.Holds.{AreApartHolds, AreKeysApart, blocks, clashes, covers, IsHeld, is_exclusive, key_in_way, least, lesser, mode_of, node_of_key, same_key, Touch, touch_key, touch_under}
pub use Rattle.nf_words.specs.Laws.{Pass}
pub use Rattle.nf_words.specs.Lean.{IsLean, changed_key}
pub use Rattle.nf_words.specs.Limits.{back_limit, carry_limit, copy_limit, count_of, deepest, deepest_in, last_number, last_short, limit_at, limit_passed, limit_with, limited, mount_limit, move_limit, pieces_in, pieces_of, restore_limit, versions_added}
unfoldable pub use Rattle.nf_words.specs.Limits.{limit_rule}
pub use Rattle.nf_words.specs.Listing.{bits_by, bytes_of, child_line, child_lines, granted_by, is_line_before, is_ones_own, line_of, listing_of, mount_line, mount_lines, put_line, put_lines}
pub use Rattle.nf_words.specs.Locks.{restore_touches, source_touches, target_name, target_touches, touched, touches, transfer_touches}
unfoldable pub use Rattle.nf_words.specs.Locks.{locked_rule}
pub use Rattle.nf_words.specs.Needed.{act_asked, folder_for, granting_above, mount_above, mount_by, nearest, Need, is_owner, is_within, may_by, needed, needed_by, needed_for, node_asked, needs, needs_at, needs_between, needs_in, source_needs}
pub use Rattle.nf_words.specs.Others.{AreMountsApart, AreOthersSound, IsChunkSound, IsItemSound, IsKindSound, IsMountSound, IsOfNode, IsShareSound, IsUploadSound}
pub use Rattle.nf_words.specs.People.{are_named, is_joined, is_member, is_taken, join_limit, joined_by, left_by, membership, mounts_joined, new_root, new_user, people_changed, people_limit, put_mounts, row_named, user_made}
pub use Rattle.nf_words.specs.Places.{crosses, folder_at, folder_in, folder_seen, has_forbidden, is_free_in, is_kept, is_off_mount, is_open, is_root_at, is_start, is_there, lost, misplaced, misplaced_by, node_at, node_found, opened_by, source_lost, taken, target_lost, transfer_between, transfer_by, transfer_of, transfer_to, unfit, unfit_between}
unfoldable pub use Rattle.nf_words.specs.Places.{exists_rule, forbidden_rule, overwrite_rule, target_rule}
pub use Rattle.nf_words.specs.Reached.{broken_by, first_refused, is_refused, lacks_version, need_broken, source_refused, target_refused, told_broken, unlinked, unreached, unreached_by, unversioned, version_lost}
unfoldable pub use Rattle.nf_words.specs.Reached.{acts_rule, place_rule, version_rule}
pub use Rattle.nf_words.specs.Uploads.{chunk_number, chunk_row, chunks_of, is_chunk_of, pending_of, upload_row, uploads_of, whole_of}
pub use Rattle.nf_words.specs.Uploading.{chunk_fault, chunk_limit, differs, dir_asked, fault_in, fault_with, is_elsewhere, join_fault, assembled_limit, lacks_upload, new_limit, own_upload, pending_with, strays, unopened, upload_limit}
unfoldable pub use Rattle.nf_words.specs.Uploading.{upload_rule}
pub use Rattle.nf_words.specs.Versions.{becomes_version, beyond_bound, content_size, drop_version, forgotten_of, forgotten_under, gone_after, held, held_without, turned_over, version_line, version_lines, version_row, versions_of, versions_there}
pub use Rattle.nf_words.specs.Present.{LeadsToRoot}
pub use Rattle.nf_words.specs.Rules.{Rule, earlier_rules, first_that_holds, later_rules, refusal_of, rules}
pub use Rattle.nf_words.specs.Sharing.{fault_by, fault_of_ask, is_end_moment, is_listed_for, is_long, is_on, is_own, is_seen_by, is_steered_by, is_past, is_set_past, is_widened, is_wider, kind_of, kind_to, limit_by, limit_of_ask, live_share, mounts_for, new_share, offer_fault, offer_limit, offer_of, offered, offered_by, parent_by, parent_for, perms_after, perms_to, receiver_named, recipient_of, set_fault, share_line, share_lines, share_shown, share_steered, unnamed, unnamed_by, until_after, users_for, usual_perms}
unfoldable pub use Rattle.nf_words.specs.Sharing.{named_rule, room_rule, sharing_rule}
pub use Rattle.nf_words.specs.Sound.{AreApart, AreCounters, AreSound, HasRoot, HoldsFor, IsGoalSound, IsLinkTo, IsNodeSound, IsOwn, IsPlaceSound, IsSound, IsStorable, IsTicketSound, IsTop, MayStoreAt, root_of_user}
pub use Rattle.nf_words.specs.State.{State, access_of, goal_at, opened, ticket_for, ticket_of, without_ticket}
pub use Rattle.nf_words.specs.Step.{answer_to, answered_by, blob_by, blob_to, call_decision, call_of, changes_by, changes_to, decided, decision_of, step, stepped_by, without}
pub use Rattle.nf_words.specs.Homes.{home_of, name_back, names_taken_in}
pub use Rattle.nf_words.specs.Trash.{gone_of, item_for, item_if_of, item_line, item_lines, item_size, items_but, items_of, lacks_item, own_item, owners_of, untrashed}
unfoldable pub use Rattle.nf_words.specs.Tokens.{link_token}
