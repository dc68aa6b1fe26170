-- `float::sized` meets its contract: w is read from the fields of its bits. Assumes nothing.
use mathlib.Core.Path.{◌≡◌, sym, ap, ◌∙◌}
use mathlib.Core.Bool.{Bool, true, not}
use Prim.Native.Nat.{ℕ, ◌-◌, ◌/◌, ◌%◌, ◌*◌, ◌^◌, ◌≤◌}
use native.Mathlib.Omega.{arith}
use lib.Dec.{T, eqb, leb}
use lib.Ieee.{Float, binary32, to_bits, fits, ne, of_fields}
use lib.Ieee.Compare.{differs_from_itself}
use denote.Floats.{passes}
use Rattle.float.specs.declared.Cut.{Cut}
use Rattle.std.specs.Prelude.{Option, None}
use Rattle.float.specs.Cut.{near, sized_of}
use Rattle.float.proofs.Fields.{high, low, mid, exp_of, digits_of, no_nan, read, whole_pattern, shifted}
use Rattle.float.proofs.sized.Goals as goal

at-nan : (b : Bool) (w : Float) → ne w w ≡ true → None ≡ sized_of w b
unfolding sized_of
at-nan b w h = ap (λ (x : Float). sized_of x b) (sym (differs_from_itself w (passes _ h)))

cut-read : (w : Float) (b : Bool) (x : Option Cut) → T (fits binary32 w) → sized_of (of_fields binary32 (leb (2 ^ 31) (to_bits binary32 w)) (exp_of (to_bits binary32 w)) (digits_of (to_bits binary32 w))) b ≡ x → x ≡ sized_of w b
cut-read w b x f p = sym (ap (λ (v : Float). sized_of v b) (read w f) ∙ p)

middle : (b : Bool) (d x : ℕ) → 127 ≤ x → near b (d / 2 ^ (150 - x)) (not (eqb (d % 2 ^ (150 - x)) 0)) ≡ near b (d / (1 * 2 ^ (150 - x) % 2 ^ 32)) (not (eqb (d % (1 * 2 ^ (150 - x) % 2 ^ 32)) 0))
middle b d x h = ap (λ (p : ℕ). near b (d / p) (not (eqb (d % p) 0))) (sym (shifted (150 - x) (omega arith)))

pub returns-then-w : goal.returns-then-w
returns-then-w c = at-nan _ _ c.if-w.true

pub float_to_bits-b : goal.float_to_bits-b
float_to_bits-b c = no_nan _ c.if-w.false

pub returns-then-x-gt150 : goal.returns-then-x-gt150
returns-then-x-gt150 c =
    let fitting : T (fits binary32 c.args.w) = passes _ c.well_formed.0.1 in cut-read _ _ _ (fitting) (high _ _ _ _ c.if-x-gt150.true (omega arith))

pub returns-then-x-lt127 : goal.returns-then-x-lt127
returns-then-x-lt127 c =
    let fitting : T (fits binary32 c.args.w) = passes _ c.well_formed.0.1 in
    cut-read _ _ _ (fitting)
    (low _ _ _ _ c.if-x-lt127.true (omega arith) ∙ ap (λ (n : ℕ). near c.args.below 0 (not (eqb n 0))) (whole_pattern (to_bits binary32 c.args.w)))

pub returns : goal.returns
returns c =
    let fitting : T (fits binary32 c.args.w) = passes _ c.well_formed.0.1 in
    cut-read _ _ _ (fitting)
    (mid _ _ _ _ c.if-x-lt127.false c.if-x-gt150.false (omega arith) ∙ middle _ _ _ c.if-x-lt127.false)
