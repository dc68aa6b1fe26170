-- A whole number that is held with 2 ^ 24 added is read back as itself, its differences and its sums too: nothing falls below 0 on the way. Assumes nothing.
use mathlib.Core.Path.{◌≡◌, refl, sym, ap, ◌∙◌, subst}
use Prim.Native.Nat.{ℕ, zero, suc, ◌+◌, ◌-◌, ◌^◌, ◌≤◌, ◌<◌}
use native.Mathlib.Nat.{lt_of_le_of_lt}
use native.Mathlib.Omega.{arith}
use mathlib.Core.Bool.{Bool, true, false, cond}
use lib.Dec.{ltb, lit<}
use lib.IntN.{ℤ, pos, negsuc, neg_ℤ, sub_ℕ, nat_abs, ◌+ℤ◌, ◌-ℤ◌, +ℤ_idr}
use lib.Signed.{mag}
use mir.Syntax.{w32}
use mir.Val.{SFits, to_z}
use mir.Facts.{to_z_pos}
use borrow.Author.Tests.{ltb-true}
use Rattle.float.specs.Differences.{◌⊖◌}
use Rattle.float.proofs.Differences.{⊖_zero, ⊖_same}
use Rattle.geometry.specs.declared.Origin.{Origin}
use Rattle.geometry.specs.declared.Origin.TheVariants.{TopLeft, BottomLeft}
use Rattle.geometry.specs.Placing.{not_below, lift}
use Rattle.geometry.specs.Held.{held, own, raised}

-- at most 2 ^ 23 in size
abbrev pub Low : ℤ → Type 0
Low z = nat_abs z ≤ 2 ^ 23

-- ---- held and read back
pub held_neg : (n : ℕ) → held (neg_ℤ (pos n)) ≡ 2 ^ 24 - n
held_neg zero = omega arith
held_neg (suc n) = refl

raised_is : (z : ℤ) (h : ℕ) → Low z → own (held z + h) ≡ z +ℤ pos h
unfolding ◌⊖◌
raised_is (pos n) h l = ⊖_same (2 ^ 24 + n + h) (2 ^ 24) (n + h) 0 (omega arith) ∙ ⊖_zero (n + h)
raised_is (negsuc n) h l = ⊖_same (2 ^ 24 - suc n + h) (2 ^ 24) h (suc n) (omega arith)

no_more : (z : ℤ) → own (held z) ≡ own (held z + 0)
no_more z = ap own (plain (held z))
  where
    plain : (n : ℕ) → n ≡ n + 0
    plain n = omega arith

pub own_held : (z : ℤ) → Low z → own (held z) ≡ z
own_held z l = no_more z ∙ raised_is z 0 l ∙ +ℤ_idr z

pub own_raised : (o : Origin) (z : ℤ) (h : ℕ) → Low z → own (raised o (held z) h) ≡ z +ℤ lift o h
own_raised TopLeft z h l = no_more z ∙ raised_is z 0 l
own_raised BottomLeft z h l = raised_is z h l

pub held_low : (z : ℤ) → Low z → held z ≤ 2 ^ 25
held_low (pos n) l = omega arith
held_low (negsuc n) l = omega arith

-- ---- the difference of two numbers that are held
kept : (a b : ℕ) → not_below (sub_ℕ a b) ≡ a - b
kept a b = go (ltb a b) refl
  where
    none : a < b → 0 ≡ a - b
    none h = omega arith

    go : (u : Bool) → ltb a b ≡ u → not_below (cond u (negsuc (b - suc a)) (pos (a - b))) ≡ a - b
    go true p = none (ltb-true a b p)
    go false p = refl

pub held_gap : (y z : ℤ) → Low y → Low z → held z - held y ≡ not_below (z -ℤ y)
held_gap (pos zero) (pos b) k l = plain b
  where
    plain : (b : ℕ) → 2 ^ 24 + b - (2 ^ 24 + 0) ≡ b + 0
    plain b = omega arith
held_gap (pos (suc a)) (pos b) k l = plain ∙ sym (kept b (suc a))
  where
    plain : 2 ^ 24 + b - (2 ^ 24 + suc a) ≡ b - suc a
    plain = omega arith
held_gap (pos zero) (negsuc b) k l = plain ∙ sym (kept 0 (suc b))
  where
    plain : 2 ^ 24 - suc b - (2 ^ 24 + 0) ≡ 0 - suc b
    plain = omega arith
held_gap (pos (suc a)) (negsuc b) k l = omega arith
held_gap (negsuc a) (pos b) k l = omega arith
held_gap (negsuc a) (negsuc b) k l = plain ∙ sym (kept (suc a) (suc b))
  where
    plain : 2 ^ 24 - suc b - (2 ^ 24 - suc a) ≡ suc a - suc b
    plain = omega arith

-- ---- as the code takes 2 ^ 24 off: nothing wraps
small : (n : ℕ) → n ≤ 2 ^ 30 → SFits w32 (own n)
small n h = record { sfits = go (ltb n 16777216) }
  where
    go : (u : Bool) → mag (cond u (negsuc (16777216 - suc n)) (pos (n - 16777216))) < 2 ^ 31
    go true = omega arith
    go false = omega arith

pub taken_is : (n : ℕ) → n ≤ 2 ^ 30 → to_z w32 n -ℤ pos 16777216 ≡ own n
taken_is n h = ap (λ (z : ℤ). z -ℤ pos 16777216) (to_z_pos w32 (lt_of_le_of_lt h (lit< tt)))

pub taken_fits : (n : ℕ) → n ≤ 2 ^ 30 → SFits w32 (to_z w32 n -ℤ pos 16777216)
taken_fits n h = subst (SFits w32) (sym (taken_is n h)) (small n h)
