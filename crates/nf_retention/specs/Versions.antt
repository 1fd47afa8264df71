-- What stays of an owner's old versions.
use Rattle.std.specs.Prelude.{◌≡◌, ◌<◌, ◌≤◌, ◌⊎◌, ℕ, Bool, ◌&&◌, ◌||◌, ◌==◌, List, [], ◌∷◌, drop, if◌then◌else◌, map, nat_lt, AllPairs}
use Rattle.nf_retention.specs.Budget.{fitting}
use Rattle.nf_retention.specs.declared.versions.Version.{Version}

-- a version is newer than another; of one moment that of the higher node counts as newer
abbrev pub is_later : Version → Version → Bool
is_later a b = nat_lt b.at a.at || a.at == b.at && nat_lt b.node a.node

abbrev pub put_latest : Version → List Version → List Version
put_latest version [] = version ∷ []
put_latest version (first ∷ versions) =
    if is_later first version then first ∷ put_latest version versions else version ∷ first ∷ versions

abbrev pub latest_first : List Version → List Version
latest_first [] = []
latest_first (version ∷ versions) = put_latest version (latest_first versions)

-- the newest stands first, and of one moment that of the highest node
abbrev pub AreLatestFirst : List Version → Type 0
AreLatestFirst versions = AllPairs (λ newer older. (older.at < newer.at) ⊎ ((older.at ≡ newer.at) × (older.node ≤ newer.node))) versions

-- how many of an owner's versions, newest first, stay: the longest front whose bytes are within the bound
abbrev pub within : ℕ → List Version → ℕ
within bound versions = fitting bound (map (λ version. version.size) (latest_first versions))

-- and those that go
abbrev pub beyond : ℕ → List Version → List Version
beyond bound versions = drop (within bound versions) (latest_first versions)
