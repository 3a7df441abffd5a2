-- How much a volume still takes.
use Rattle.std.specs.Prelude.{ℕ, ◌+◌, ◌-◌, ◌*◌, ◌/◌, ◌%◌, nat_lt, if◌then◌else◌}
use Rattle.dm_rules.specs.Version.{chunk_header}
use Rattle.dm_rules.specs.Zone.{zone_header}

-- the most bytes whose chunks take `left` bytes or less with their headers, each of which has `header` bytes
abbrev pub most_bytes : ℕ → ℕ → ℕ → ℕ
most_bytes header left chunk =
    let whole = left / (header + chunk) in
    let rest = left % (header + chunk) in
    if nat_lt header rest then whole * chunk + (rest - header) else whole * chunk

-- the longest piece that one zone can hold from `tip` to the end of a volume of `size` bytes
unfoldable pub room : ℕ → ℕ → ℕ → ℕ → ℕ
room version size tip chunk =
    if nat_lt (size - tip) zone_header then 0 else most_bytes (chunk_header version) (size - tip - zone_header) chunk
