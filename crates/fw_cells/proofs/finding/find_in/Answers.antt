use Rattle.std.proofs.Common.{◌+◌, ◌-◌, ◌/◌, get_or, refl, arith}
use Rattle.std.proofs.lemmas.Bool.{true≢false}
use Rattle.fw_cells.proofs.FindLemmas.{ends_before, starts_behind, cells_between, side_before, side_behind, had_from_side, mapped_if_had, spends_on}
use Rattle.fw_cells.proofs.finding.find_in.Goals as goal

pub loop-low-preserved-in-Before : goal.loop-low-preserved-in-Before
loop-low-preserved-in-Before g c =
    let middle = c.loop-low.low + (c.loop-low.high - c.loop-low.low) / 2 in
    record {
      ordered = omega arith;
      within = omega arith;
      before = c.loop-low.invariant.before;
      behind = λ k none from below.
          starts_behind c.args.runs.now k (c.loop-low.low + (c.loop-low.high - c.loop-low.low) / 2) c.place_of-place.result none c.requires below from
          (side_before (get_or c.args.runs.now (c.loop-low.low + (c.loop-low.high - c.loop-low.low) / 2) none) c.place_of-place.result (c.in-Before.ensures none));
      grows = omega arith;
      spent = spends_on _ _ _ _ _ _ c.tick.ensures c.loop-low.invariant.grows (omega arith) (omega arith) c.loop-low.invariant.spent;
    }

pub loop-low-preserved : goal.loop-low-preserved
loop-low-preserved g c = record {
  ordered = omega arith;
  within = omega arith;
  before = λ k none upto.
      ends_before c.args.runs.now k (c.loop-low.low + (c.loop-low.high - c.loop-low.low) / 2) c.place_of-place.result none c.requires (omega arith) upto
      (side_behind (get_or c.args.runs.now (c.loop-low.low + (c.loop-low.high - c.loop-low.low) / 2) none) c.place_of-place.result (c.in-Behind.ensures none));
  behind = c.loop-low.invariant.behind;
  grows = omega arith;
  spent = spends_on _ _ _ _ _ _ c.tick.ensures c.loop-low.invariant.grows (omega arith) (omega arith) c.loop-low.invariant.spent;
}

pub returns-in-In-clause-found : goal.returns-in-In-clause-found
returns-in-In-clause-found g c =
    had_from_side c.args.runs.now _ c.place_of-place.result c.args.space c.args.address c.place_of-place.ensures (omega arith) c.requires (omega arith) c.in-In.ensures

pub returns-in-In-clause-none : goal.returns-in-In-clause-none
returns-in-In-clause-none g c = (
  λ some. absurd (true≢false some),
  λ none. absurd (mapped_if_had c.args.runs.now _ c.args.space c.args.address c.requires
      (had_from_side c.args.runs.now (c.loop-low.low + (c.loop-low.high - c.loop-low.low) / 2) c.place_of-place.result c.args.space c.args.address c.place_of-place.ensures (omega arith) c.requires (omega arith) c.in-In.ensures) none),
)

pub returns-in-In-clause-cost : goal.returns-in-In-clause-cost
returns-in-In-clause-cost g c =
    (spends_on _ _ _ _ 0 _ c.tick.ensures c.loop-low.invariant.grows (omega arith) (omega arith) c.loop-low.invariant.spent).few

pub returns-clause-none : goal.returns-clause-none
returns-clause-none g c = (
  λ _. cells_between c.args.runs.now c.loop-low.low c.place_of-place.result c.args.space c.args.address c.place_of-place.ensures
      c.loop-low.invariant.before
      (λ k none from below. c.loop-low.invariant.behind k none (omega arith) below),
  λ _. refl,
)
