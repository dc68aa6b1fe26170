-- `float::float_of` meets its contract: the test is `nan_bits`, by `nan_bits_above`, and a NaN's pattern is read as nan. Assumes nothing.
use mathlib.Core.Path.{◌≡◌, refl, sym, ◌∙◌, subst}
use mathlib.Core.Bool.{Bool, true, not}
use lib.Dec.{T}
use lib.Ieee.{Float, nan, inf, fin, binary32, is_nan, of_bits}
use lib.Ieee.Bits.{nan_bits_is, nan_bits_above}
use borrow.Author.Tests.{lt-ltb, le-ltb}
use Rattle.float.proofs.float_of.Goals as goal

only_nan : (x : Float) → is_nan x ≡ true → nan ≡ x
unfolding is_nan
only_nan nan e = refl
only_nan (inf s) e = absurd (subst T (sym e) tt)
only_nan (fin s m d) e = absurd (subst T (sym e) tt)

the_nan : of_bits binary32 0x7fc0_0000 ≡ nan
unfolding of_bits
the_nan = refl

pub float_from_bits-result : goal.float_from_bits-result
float_from_bits-result c = subst (λ (t : Bool). T (not t)) (sym (nan_bits_above binary32 _ ∙ le-ltb _ _ c.if-n-gt2139095040.false)) tt

pub returns-then-n-gt2139095040 : goal.returns-then-n-gt2139095040
returns-then-n-gt2139095040 c = the_nan ∙ only_nan _ (sym (nan_bits_is binary32 _) ∙ nan_bits_above binary32 _ ∙ lt-ltb _ _ c.if-n-gt2139095040.true)
