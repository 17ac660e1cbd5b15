-- Whole numbers that are read lie between two, whatever the document says.
use Rattle.std.proofs.Common.{◌≡◌, ◌≤◌, ℕ, ℤ, pos, negsuc, Bool, true, false, nat_le, Option, Some, None, refl, arith}
use Rattle.std.specs.Prelude.{◌&&◌, if◌then◌else◌, codes, option_and_then, unwrap_or}
use Rattle.std.proofs.lemmas.Bool.Decides.{nat_tests}
use Rattle.toml.specs.Data.{Data, as_integer, get}
use Rattle.vx_plan.proofs.Tests.{and_both, and_made}
use Rattle.vx_reading.specs.Judging.{between}
use Rattle.vx_reading.specs.Options.{most_whole, most_keys, most_period}
use Rattle.vx_reading.specs.Plans.{value_within, whole_or, rate_of, keys_of, expire_of, flush_of}

-- a number is between two
record IsBetween (least most n : ℕ) : Type 0 where
  pub some : least ≤ n
  pub few : n ≤ most

least_observed : (least n : ℕ) → nat_le least n ≡ true → least ≤ n
least_observed least n observed = grind (arith, nat_tests)

-- one that is read, or else another that is
kept : (least most other : ℕ) (o : Option ℤ) → IsBetween least most other → IsBetween least most (unwrap_or (option_and_then (between least most) o) other)
kept least most other None is = is
kept least most other (Some (negsuc n)) is = is
kept least most other (Some (pos n)) is = by_test (nat_le least n && nat_le n most) (λ e. e)
  where
    by_test : (b : Bool) → (b ≡ true → nat_le least n && nat_le n most ≡ true) → IsBetween least most (unwrap_or (if b then Some n else None) other)
    by_test true so =
        let both = and_both (nat_le least n) (nat_le n most) (so refl) in
        record { some = least_observed least n both.0; few = least_observed n most both.1 }
    by_test false so = is

read_between : (least most other : ℕ) (o : Option Data) → IsBetween least most other → IsBetween least most (whole_or least most other o)
read_between least most other None is = is
read_between least most other (Some value) is = kept least most other (as_integer value) is

rate_between : (value : Data) → IsBetween 1 most_whole (rate_of value)
rate_between value = read_between 1 most_whole 1 (get (codes "rate") value) (record { some = omega arith; few = omega arith })

-- the rate of a sample is at least 1
pub rate_some : (value : Data) → 1 ≤ rate_of value
rate_some value = (rate_between value).some

keys_between : (value : Data) → IsBetween 1 most_keys (keys_of value)
keys_between value = read_between 1 most_keys 5000 (value_within (codes "cache") (codes "num_events") value) (record { some = omega arith; few = omega arith })

-- so the tests of both ends pass
observed_least : (least n : ℕ) → least ≤ n → nat_le least n ≡ true
observed_least least n le = grind (arith, nat_tests)

observed_between : (least most n : ℕ) → IsBetween least most n → (nat_le least n && nat_le n most) ≡ true
observed_between least most n is = and_made (nat_le least n) (nat_le n most) (observed_least least n is.some) (observed_least n most is.few)

expire_between : (value : Data) → IsBetween 1 most_period (expire_of value)
expire_between value = read_between 1 most_period 30000 (get (codes "expire_after_ms") value) (record { some = omega arith; few = omega arith })

flush_between : (value : Data) → IsBetween 1 most_period (flush_of value)
flush_between value = read_between 1 most_period 1000 (get (codes "flush_period_ms") value) (record { some = omega arith; few = omega arith })

-- a dedupe keeps some keys, and no more than it may
pub keys_observed : (value : Data) → (nat_le 1 (keys_of value) && nat_le (keys_of value) most_keys) ≡ true
keys_observed value = observed_between 1 most_keys (keys_of value) (keys_between value)

-- the two periods of a reduce are a millisecond at least, and no longer than may be said
pub expire_observed : (value : Data) → (nat_le 1 (expire_of value) && nat_le (expire_of value) most_period) ≡ true
expire_observed value = observed_between 1 most_period (expire_of value) (expire_between value)

pub flush_observed : (value : Data) → (nat_le 1 (flush_of value) && nat_le (flush_of value) most_period) ≡ true
flush_observed value = observed_between 1 most_period (flush_of value) (flush_between value)
