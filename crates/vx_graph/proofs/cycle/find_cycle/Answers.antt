use Rattle.std.proofs.Common.{◌≡◌, ◌∙◌, ◌++◌, ◌<◌, subst, sym, ap, arith, length, map, take, drop, All}
use Rattle.vx_graph.specs.Cycles.{name_at}
use Rattle.vx_graph.specs.Rounds.{IsSquare, IsRound, AreApart, marked}
use Rattle.vx_graph.proofs.Cycles.{square_rows, rows_length, round_within, round_nonempty, no_cycle}
use Rattle.vx_graph.proofs.Rounds.{turn_round, apart_turned}
use Rattle.vx_graph.proofs.cycle.find_cycle.Goals as goal

pub settled-requires : goal.settled-requires
settled-requires c = subst IsSquare (sym c.requires) (square_rows c.args.nodes.now)

pub find_round-requires-clause-square : goal.find_round-requires-clause-square
find_round-requires-clause-square c = subst IsSquare (sym c.requires) (square_rows c.args.nodes.now)

pub returns-in-None : goal.returns-in-None
returns-in-None c =
    no_cycle c.args.nodes.now c.args.rows.now c.in_ok-marks.marks.items c.requires c.in_ok-marks.ensures.same_len c.in_ok-marks.ensures.settled
    (λ i lt. ap (λ m. marked m i) (sym c.as_slice.ensures.value) ∙ c.in-None.ensures i (omega (arith, ap length c.as_slice.ensures.value)))

pub least_first-requires : goal.least_first-requires
least_first-requires c =
    omega (
      arith,
      ap length c.as_slice-in-Some-2.ensures.value,
      round_nonempty c.args.rows.now c.in_ok-round-in-Some.round.items c.in_ok-round-in-Some.ensures.round,
    )

pub names_at-requires : goal.names_at-requires
names_at-requires c =
    let rows = c.args.rows.now in
    let nodes = c.args.nodes.now in
    let places = c.as_slice-in-Some-2.result.now in
    let turned = c.in_ok-turned-in-Some.ensures.turned in
    let round = turn_round rows places turned.0 (subst (IsRound rows) (sym c.as_slice-in-Some-2.ensures.value) c.in_ok-round-in-Some.ensures.round) in
    let is = c.as_slice-in-Some-3.ensures.value ∙ turned.2 in
    let within = round_within rows (drop turned.0 places ++ take turned.0 places) round in
    let count : length rows ≡ length nodes = ap length c.requires ∙ rows_length nodes in
    subst (λ n. All (λ i. i < n) c.as_slice-in-Some-3.result.now) count (subst (λ p. All (λ i. i < length rows) p) (sym is) within)

pub returns : goal.returns
returns c =
    let rows = c.args.rows.now in
    let nodes = c.args.nodes.now in
    let places = c.as_slice-in-Some-2.result.now in
    let turned = c.in_ok-turned-in-Some.ensures.turned in
    let was = c.as_slice-in-Some-2.ensures.value in
    let round = turn_round rows places turned.0 (subst (IsRound rows) (sym was) c.in_ok-round-in-Some.ensures.round) in
    let apart = apart_turned places turned.0 (omega (arith, turned.1)) (subst AreApart (sym was) c.in_ok-round-in-Some.ensures.apart) in
    record {
      places = c.in_ok-turned-in-Some.turned.items;
      names = c.in_ok-names_at-in-Some.ensures ∙ ap (map (name_at nodes)) c.as_slice-in-Some-3.ensures.value;
      apart = subst AreApart (sym turned.2) apart;
      round = subst (λ r. IsRound r c.in_ok-turned-in-Some.turned.items) c.requires (subst (IsRound rows) (sym turned.2) round);
      least = c.in_ok-turned-in-Some.ensures.least;
    }
