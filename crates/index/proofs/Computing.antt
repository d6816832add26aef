-- What a computed claim opens, of the definitions in specs/. Assumes nothing.
use Rattle.index.specs.Buckets.{up_from, keep, index_of, bucket_in, span_of, numbers_in, by_bucket, entries_of, firsts_of, standing_capacity}
use Rattle.index.specs.Intervals.{interval_of, meeting_of, interval_in, forbidden_of, counts_of, counted_of}

unfoldable pub buckets_compute : Unit {0}
unfolding up_from keep index_of bucket_in span_of numbers_in by_bucket entries_of firsts_of standing_capacity
buckets_compute = tt

unfoldable pub intervals_compute : Unit {0}
unfolding interval_of meeting_of interval_in forbidden_of counts_of counted_of
intervals_compute = tt
