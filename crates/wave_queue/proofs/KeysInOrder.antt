-- Keys are in the order of their buckets.
use Rattle.std.proofs.Common.{ℕ, ◌<◌, ◌≤◌, arith}
use Rattle.std.proofs.lemmas.Bool.Decides.{nat_tests}
use Rattle.wave_queue.specs.kept.Buckets.{most_buckets, low_bucket_of, bucket_of}

pub bucket_within : (n : ℕ) → bucket_of n < most_buckets
unfolding low_bucket_of bucket_of
bucket_within n = grind (arith, nat_tests)

pub bucket_up : (a b : ℕ) → a ≤ b → bucket_of a ≤ bucket_of b
unfolding low_bucket_of bucket_of
bucket_up a b up = grind (arith, nat_tests)

-- a key in a lower bucket is lower
pub key_below : (a b : ℕ) → bucket_of a < bucket_of b → a < b
key_below a b below = grind (arith, bucket_up b a)
