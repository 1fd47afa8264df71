-- The words of this layer that other files use, in one place to import them from.
pub use Rattle.nf_defs.specs.Access.{Access}
pub use Rattle.nf_defs.specs.Blobs.{Blobs, blob_at, blob_key, put_blob, with_blob}
pub use Rattle.nf_defs.specs.Changes.{IsDroppable, drop_row, made, numbers_of, put_all}
pub use Rattle.nf_defs.specs.Keys.{chunk_key, group_key, item_key, member_key, mount_key, node_key, share_key, token_key, upload_key, user_key, version_key}
pub use Rattle.nf_defs.specs.People.{group_named, group_row, holder_of, is_member_of, members_of, user_named, user_row, with_quota}
pub use Rattle.nf_defs.specs.Puts.{by_order, dropped, key_cmp, put}
pub use Rattle.nf_defs.specs.Rising.{AreRising, IsRising}
pub use Rattle.nf_defs.specs.Tables.{Tables, no_rows, put_row, put_rows, rows_of, tables_of}
pub use Rattle.nf_defs.specs.Tree.{Leads, by_name, child_of, children_of, climb, comes_before, content_of, filled, folder_of, found_from, is_file, is_folder, is_folder_kind, is_in, is_leaf, is_place_in, is_present, is_root, is_root_place, item_row, leads_on, node_row, onward, owner_of, parent_of, piece_count, put_by_name, relinked, stays, taken_names, with_node, without_all, without_under}
unfoldable pub use Rattle.nf_defs.specs.Tree.{depth, depth_within, is_rooted, is_rooted_within, is_under, is_under_within, walk_of, walk_within}
