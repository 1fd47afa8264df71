-- Making a share, and why it may be refused.
use Rattle.std.specs.Prelude.{◌≡◌, ℕ, Bool, false, nat_le, List, find, length, Option, None, Some, option_map, Result, Ok, Err, if◌then◌else◌}
use Rattle.std.specs.Option.{option_or, option_map_or}
use Rattle.nf_access.specs.Making.{is_again, is_self_share}
use Rattle.nf_access.specs.Shares.{chain_of, is_link}
use Rattle.nf_base.specs.declared.limits.TheConstants.{MAX_CHAIN}
use Rattle.nf_base.specs.declared.rows.ShareKind.{ShareKind}
use Rattle.nf_base.specs.declared.rows.ShareKind.TheVariants as kind
use Rattle.nf_base.specs.declared.rows.ShareRow.{ShareRow}
use Rattle.nf_defs.specs.Prelude.{put, share_key}
use Rattle.nf_base.specs.declared.limits.TheConstants.{MAX_SHARES}
use Rattle.nf_shares.specs.declared.faults.ShareFault.{ShareFault}
use Rattle.nf_shares.specs.declared.faults.ShareFault.TheVariants as fault

abbrev pub has_token_of : ShareKind → ShareRow → Bool
has_token_of (kind.Link token) other = is_link token other.kind
has_token_of (kind.User user) other = false
has_token_of (kind.Group group) other = false

abbrev pub when : Bool → ShareFault → Option ShareFault
when b fault = if b then Some fault else None

-- why a share can't be made: the first of these that holds
abbrev pub fault_of : List ShareRow → ShareRow → ℕ → Option ShareFault
fault_of rows row now =
    option_or (when (is_self_share row row.kind) fault.SelfShare)
    (option_or (option_map (λ other. fault.Already other.id) (find (is_again row now) rows))
    (option_or (when (option_map_or (λ parent. nat_le MAX_CHAIN (length (chain_of rows parent))) row.parent false) fault.Chain)
    (option_or (option_map (λ other. fault.TokenTaken) (find (has_token_of row.kind) rows))
    (when (nat_le MAX_SHARES (length rows)) fault.Limit))))

-- the share is made, or refused by the first fault, or there is no memory
abbrev pub Makes : {A : Type 0} → List ShareRow → ShareRow → ℕ → Result A ShareFault → List ShareRow → Type 0
Makes old row now (Ok _) new = (fault_of old row now ≡ None) × (new ≡ put share_key row old)
Makes old row now (Err fault.Memory) new = (fault_of old row now ≡ None) × (new ≡ old)
Makes old row now (Err other) new = (fault_of old row now ≡ Some other) × (new ≡ old)

-- the test answers the first fault, or none
abbrev pub IsFirstFault : {A : Type 0} → Option ShareFault → Result A ShareFault → Type 0
IsFirstFault fault (Ok _) = fault ≡ None
IsFirstFault fault (Err other) = fault ≡ Some other
