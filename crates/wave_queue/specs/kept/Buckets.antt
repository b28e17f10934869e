-- The buckets of keys: narrow ones for low keys, wide ones for high keys.
use Rattle.std.specs.Prelude.{ℕ, ◌+◌, ◌/◌, nat_lt, if◌then◌else◌}

-- the number of buckets
abbrev pub most_buckets : ℕ
most_buckets = 8193

-- the bucket of a key below 2 ^ 28
unfoldable pub low_bucket_of : ℕ → ℕ
low_bucket_of n = if nat_lt n 65536 then n / 16 else if nat_lt n 1048576 then 4096 + n / 1024 else if nat_lt n 16777216 then 5120 + n / 16384 else 6144 + n / 262144

-- the bucket of a key
unfoldable pub bucket_of : ℕ → ℕ
bucket_of n = if nat_lt n 268435456 then low_bucket_of n else if nat_lt n 4294967296 then 7168 + n / 4194304 else 8192
