-- `float::floor` meets its contract. Assumes nothing.
use Prim.Native.Nat.{◌^◌, ◌<◌}
use native.Mathlib.Nat.{le_of_lt}
use native.Mathlib.Omega.{arith}
use lib.Dec.{T}
use lib.Ieee.{binary32, fits}
use denote.Floats.{passes}
use Rattle.float.proofs.Fitting.{near_small, whole_in_float}
use Rattle.float.proofs.Rounding.{floor_below, floor_above, floor_whole, floor_far}
use Rattle.float.proofs.floor.Goals as goal

pub overflow_add-result : goal.overflow_add-result
overflow_add-result c =
    let small : c.in-Some.field-0.whole < 2 ^ 24 = near_small _ _ _ _ c.cut_float.ensures c.in-Some.is in omega (arith, small)

pub int_to_float-result : goal.int_to_float-result
int_to_float-result c =
    let small : c.in-Some.field-0.whole < 2 ^ 24 = near_small _ _ _ _ c.cut_float.ensures c.in-Some.is in whole_in_float _ (omega (arith, small))

pub returns-then-below : goal.returns-then-below
returns-then-below c =
    let fitting : T (fits binary32 c.args.v) = passes _ c.well_formed.0.1 in
    floor_below _ _ (fitting) c.cut_float.ensures _ c.in-Some.is c.if-rest.true c.if-below.true

pub int_to_float-result-then-rest : goal.int_to_float-result-then-rest
int_to_float-result-then-rest c =
    let small : c.in-Some.field-0.whole < 2 ^ 24 = near_small _ _ _ _ c.cut_float.ensures c.in-Some.is in whole_in_float _ (le_of_lt (small))

pub returns-then-rest : goal.returns-then-rest
returns-then-rest c =
    let fitting : T (fits binary32 c.args.v) = passes _ c.well_formed.0.1 in
    floor_above _ _ (fitting) c.cut_float.ensures _ c.in-Some.is c.if-rest.true c.if-below.false

pub returns-else-rest : goal.returns-else-rest
returns-else-rest c =
    let fitting : T (fits binary32 c.args.v) = passes _ c.well_formed.0.1 in
    floor_whole _ _ (fitting) c.cut_float.ensures _ c.in-Some.is c.if-rest.false

pub returns-in-None : goal.returns-in-None
returns-in-None c =
    let fitting : T (fits binary32 c.args.v) = passes _ c.well_formed.0.1 in floor_far _ _ (fitting) c.cut_float.ensures c.in-None.is
