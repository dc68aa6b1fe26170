-- `float::is_finite` meets its contract: a NaN alone differs from itself, and what is neither that nor an infinity is finite. Assumes nothing.
use mathlib.Core.Path.{◌≡◌, refl, sym, subst}
use mathlib.Core.Bool.{true, false}
use lib.Dec.{T}
use lib.Ieee.{Float, nan, inf, fin, binary32, of_bits, ne, neg}
use lib.Ieee.Compare.{differs_from_itself}
use lib.Ieee.Scale.{finite}
use Rattle.float.proofs.is_finite.Goals as goal

abbrev most : Float
most = of_bits binary32 0x7f80_0000

the_nan : (x : Float) → ne x x ≡ true → false ≡ finite x
the_nan x h = subst (λ y. false ≡ finite y) (sym (differs_from_itself x (subst T (sym h) tt))) refl

other : (x : Float) → ne x x ≡ false → ne x most ≡ true → ne x (neg most) ≡ finite x
unfolding ne neg of_bits
other nan g h = absurd (subst T g tt)
other (inf true) g h = refl
other (inf false) g h = absurd (subst T (sym h) tt)
other (fin s m e) g h = refl

the_infinity : (x : Float) → ne x most ≡ false → ne x most ≡ finite x
unfolding ne of_bits
the_infinity nan h = absurd (subst T h tt)
the_infinity (inf true) h = absurd (subst T h tt)
the_infinity (inf false) h = refl
the_infinity (fin s m e) h = absurd (subst T h tt)

pub returns-then-x : goal.returns-then-x
returns-then-x c = the_nan _ c.if-x.true

pub returns-then-x-2 : goal.returns-then-x-2
returns-then-x-2 c = other _ c.if-x.false c.if-x-2.true

pub returns-else-x-2 : goal.returns-else-x-2
returns-else-x-2 c = the_infinity _ c.if-x-2.false
