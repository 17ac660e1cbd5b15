-- Nothing is left to do in a record where each copy is found split or spent, each batch noticed and each instance retired.
use Rattle.std.proofs.Common.{◌≡◌, ℕ, ◌+◌, Bool, true, arith}
use Rattle.std.specs.Prelude.{nat_lt}
use Rattle.std.specs.List.{list_all}
use Rattle.std.proofs.lemmas.Bool.Decides.{nat_tests}
use Rattle.vx_record.specs.Records.{Record}
use Rattle.vx_record.specs.Copies.{counting, next_copy, times_split, times_spent, IsLive}
use Rattle.vx_record.specs.Batches.{batches}
use Rattle.vx_record.specs.Confirms.{is_noticed}
use Rattle.vx_record.specs.Installs.{started, is_retired}
use Rattle.vx_record.specs.Legal.{IsClosed}
use Rattle.vx_record.proofs.Counts.{counting_within}
use Rattle.vx_record.proofs.Senders.{all_among}

-- whether a copy was split or spent
abbrev is_gone : Record → ℕ → Bool
is_gone h c = nat_lt 0 (times_split h c + times_spent h c)

-- whether each copy is gone, each batch noticed, and each instance retired
abbrev are_gone : Record → Bool
are_gone h = list_all (is_gone h) (counting 0 (next_copy h))

abbrev are_noticed : Record → Bool
are_noticed h = list_all (is_noticed h) (batches h)

abbrev are_retired : Record → Bool
are_retired h = list_all (is_retired h) (started h)

pub closed_by : (h : Record) → are_gone h ≡ true → are_noticed h ≡ true → are_retired h ≡ true → IsClosed h
closed_by h gone noticed retired =
    record { spent = spent; noticed = λ b. all_among (is_noticed h) (batches h) b noticed; retired = λ i. all_among (is_retired h) (started h) i retired }
  where
    spent : (c : ℕ) → IsLive h c → ⊥
    spent c live =
        let once = counting_within c 0 (next_copy h) (omega arith) (omega arith) in
        let e = all_among (is_gone h) (counting 0 (next_copy h)) c gone (omega arith) in
        grind (arith, nat_tests)
