-- The product with 256 is exact or beyond every limit, so its cut is that of the float's own m · 2 ^ e · 256 (`cut-scaled` of the crate `float`);
-- a cut that is `None` is beyond the limit, and the sign of a zero does not show. Assumes nothing.
use mathlib.Core.Path.{◌≡◌, refl, sym, ap, ◌∙◌}
use mathlib.Core.Bool.{Bool, true, false, cond, not}
use Prim.Native.Nat.{ℕ, ◌+◌, ◌*◌, ◌/◌, ◌%◌, ◌^◌}
use native.Mathlib.Omega.{arith}
use lib.Dec.{T, ltb, eqb}
use lib.IntN.{ℤ}
use lib.Ieee.{Float, nan, inf, fin, binary32, up, down, mul, fits, lt, of_bits}
use lib.Ieee.Fits.{down_pos}
use borrow.Author.Tests.{ltb-false, le-ltb, lt-leb}
use Rattle.float.specs.Cut.{zero_f, near, sized_of}
use Rattle.float.proofs.Fractions.{zero_size}
use Rattle.float.proofs.Exact.{cut_scaled}
use Rattle.std.specs.Prelude.{None}
use Rattle.fixed.specs.Fixed.{limit, held_of, fix, within_limit, to_fixed}
use Rattle.fixed.specs.Scaled.{fix_from, scaled_fixed}

-- what is far is beyond the limit
from_cut : (b : Bool) (n : ℕ) (r : Bool) → fix_from (cond (ltb n (2 ^ 24)) (near b n r) None) ≡ within_limit b n r
unfolding fix_from
from_cut b n r = go (ltb n (2 ^ 24)) refl
  where
    go : (u : Bool) → ltb n (2 ^ 24) ≡ u → fix_from (cond u (near b n r) None) ≡ within_limit b n r
    go true p = refl
    go false p = sym (ap (λ (u : Bool). cond u (fix (held_of b n) r) None) (lt-leb n limit (omega (arith, ltb-false n (2 ^ 24) p))))

-- the sign of a zero does not show
signs : (s : Bool) (m : ℕ) (e : ℤ) (r : Bool) → within_limit (lt (fin s m e) zero_f) (m * up e * 256 / down e) r ≡ within_limit s (m * up e * 256 / down e) r
unfolding lt of_bits
signs false m e r = ap (λ (b : Bool). within_limit b (m * up e * 256 / down e) r) (le-ltb (m * up e * 1) (0 * down e) (omega arith))
signs true m e r = go (ltb 0 (m * up e * 1 + 0 * down e)) refl
  where
    n : ℕ
    n = m * up e * 256 / down e

    go : (u : Bool) → ltb 0 (m * up e * 1 + 0 * down e) ≡ u → within_limit (ltb 0 (m * up e * 1 + 0 * down e)) n r ≡ within_limit true n r
    go true p = ap (λ (b : Bool). within_limit b n r) p
    go false p =
        let z : n ≡ 0 = zero_size (m * up e * 256) (down e) (down_pos e) (omega (arith, ltb-false 0 (m * up e * 1 + 0 * down e) p)) in
        ap (λ (b : Bool). within_limit b n r) p ∙ ap (λ (k : ℕ). within_limit false k r) z ∙ sym (ap (λ (k : ℕ). within_limit true k r) z)

-- the number of the product with 256, rounded once, is that of the float's own digits
pub scaled_is : (v : Float) → T (fits binary32 v) → scaled_fixed v ≡ to_fixed v
unfolding to_fixed
scaled_is nan t = unfold mul sized_of fix_from in refl
scaled_is (inf s) t = unfold mul of_bits sized_of fix_from in refl
scaled_is (fin s m e) t =
    let n = m * up e * 256 / down e in
    let r = not (eqb (m * up e * 256 % down e) 0) in
    ap fix_from (cut_scaled s m e t) ∙ from_cut (lt (fin s m e) zero_f) n r ∙ signs s m e r
