-- The cut of a float tells whether it reaches, and the whole numbers around it. Assumes nothing.
use mathlib.Core.Path.{◌≡◌, refl, sym, ap, ◌∙◌}
use Prim.Native.Nat.{ℕ, zero, suc, ◌+◌, ◌-◌, ◌*◌, ◌/◌, ◌^◌, ◌≤◌, ◌<◌}
use native.Mathlib.Nat.{le_trans, mul-le-mul_right, le-div_iff_mul-le, div-lt_iff_lt-mul}
use native.Mathlib.Omega.{arith}
use mathlib.Core.Bool.{Bool, true, false, cond}
use lib.Dec.{ltb, lit≤}
use lib.IntN.{ℤ, pos, neg_ℤ}
use lib.Ieee.{Float, nan, inf, fin, up, down, neg}
use lib.Ieee.Fits.{down_pos}
use mir.Val.{bool_byte}
use borrow.Author.Tests.{ltb-true, ltb-false, lt-ltb, le-ltb}
use Rattle.std.specs.Prelude.{None, Some}
use Rattle.float.specs.declared.Cut.{Cut}
use Rattle.float.specs.Cut.{sized_of, cut_of}
use Rattle.float.specs.Round.{floor_z, ceil_z}
use Rattle.float.proofs.Numbers.{Cuts, cuts, beyond, around_cut}
use Rattle.geometry.specs.Placing.{reaches}
use Rattle.geometry.specs.Held.{held, ends, held_around}
use Rattle.geometry.proofs.Signs.{Low, held_neg}

-- ---- a bool as a number
pub byte_is : (r : Bool) → bool_byte r ≡ cond r 1 0
byte_is true = refl
byte_is false = refl

pub byte_le : (r : Bool) → bool_byte r ≤ 1
byte_le true = lit≤ tt
byte_le false = lit≤ tt

-- ---- whether it reaches
pub near_reach : (v : Float) (cut : Cut) → cut_of v ≡ Some cut → reaches v ≡ ltb cut.whole (2 ^ 23)
unfolding sized_of reaches
near_reach nan cut p = absurd (let z : ◌≡◌ {A = ℕ} 0 1 = cc in omega arith)
near_reach (inf s) cut p = absurd (let z : ◌≡◌ {A = ℕ} 0 1 = cc in omega arith)
near_reach (fin s m e) cut p = go (ltb cut.whole (2 ^ 23)) refl (cuts s m e cut.below cut.whole cut.rest p)
  where
    go : (u : Bool) → ltb cut.whole (2 ^ 23) ≡ u → Cuts s m e cut.below cut.whole cut.rest → ltb (m * up e) (2 ^ 23 * down e) ≡ ltb cut.whole (2 ^ 23)
    go true h k =
        let l : m * up e / down e < 2 ^ 23 = omega (arith, k.size, ltb-true cut.whole (2 ^ 23) h) in
        lt-ltb _ _ ((div-lt_iff_lt-mul (down_pos e)).0 l) ∙ sym h
    go false h k =
        let l : 2 ^ 23 ≤ m * up e / down e = omega (arith, k.size, ltb-false cut.whole (2 ^ 23) h) in
        le-ltb _ _ ((le-div_iff_mul-le (down_pos e)).0 l) ∙ sym h

pub far_reach : (v : Float) → cut_of v ≡ None → reaches v ≡ false
unfolding sized_of reaches
far_reach nan p = refl
far_reach (inf s) p = refl
far_reach (fin s m e) p = le-ltb _ _ (le_trans (mul-le-mul_right (down e) (lit≤ tt)) ((le-div_iff_mul-le (down_pos e)).0 (beyond s m e p)))

-- ---- what is made of the cut
module _ (v : Float) (cut : Cut) (p : cut_of v ≡ Some cut) where
  pub too_far : 2 ^ 23 ≤ cut.whole → None ≡ held_around v
  unfolding held_around
  too_far h = sym (ap (λ (u : Bool). cond u (ends (held (floor_z v)) (held (ceil_z v))) None) (near_reach v cut p ∙ le-ltb _ _ h))

  near_enough : cut.whole < 2 ^ 23 → held_around v ≡ ends (held (floor_z v)) (held (ceil_z v))
  unfolding held_around
  near_enough h = ap (λ (u : Bool). cond u (ends (held (floor_z v)) (held (ceil_z v))) None) (near_reach v cut p ∙ lt-ltb _ _ h)

  more : cut.whole + bool_byte cut.rest ≡ cut.whole + cond cut.rest 1 0
  more = ap (λ (x : ℕ). cut.whole + x) (byte_is cut.rest)

  pub around_below : cut.whole < 2 ^ 23 → cut.below ≡ true → ends (2 ^ 24 - (cut.whole + bool_byte cut.rest)) (2 ^ 24 - cut.whole) ≡ held_around v
  around_below h q =
      let w = around_cut v cut.below cut.whole cut.rest p in
      let lo : floor_z v ≡ neg_ℤ (pos (cut.whole + cond cut.rest 1 0)) = w.0 ∙ ap (λ (u : Bool). cond u (neg_ℤ (pos (cut.whole + cond cut.rest 1 0))) (pos cut.whole)) q in
      let hi : ceil_z v ≡ neg_ℤ (pos cut.whole) = w.1 ∙ ap (λ (u : Bool). cond u (neg_ℤ (pos cut.whole)) (pos (cut.whole + cond cut.rest 1 0))) q in
      sym (near_enough h
      ∙ ap (λ (z : ℤ). ends (held z) (held (ceil_z v))) lo
      ∙ ap (λ (z : ℤ). ends (held (neg_ℤ (pos (cut.whole + cond cut.rest 1 0)))) (held z)) hi
      ∙ ap (λ (x : ℕ). ends x (held (neg_ℤ (pos cut.whole)))) (held_neg (cut.whole + cond cut.rest 1 0))
      ∙ ap (λ (x : ℕ). ends (2 ^ 24 - (cut.whole + cond cut.rest 1 0)) x) (held_neg cut.whole)
      ∙ ap (λ (x : ℕ). ends (2 ^ 24 - x) (2 ^ 24 - cut.whole)) (sym more))

  pub around_above : cut.whole < 2 ^ 23 → cut.below ≡ false → ends (2 ^ 24 + cut.whole) (2 ^ 24 + (cut.whole + bool_byte cut.rest)) ≡ held_around v
  around_above h q =
      let w = around_cut v cut.below cut.whole cut.rest p in
      let lo : floor_z v ≡ pos cut.whole = w.0 ∙ ap (λ (u : Bool). cond u (neg_ℤ (pos (cut.whole + cond cut.rest 1 0))) (pos cut.whole)) q in
      let hi : ceil_z v ≡ pos (cut.whole + cond cut.rest 1 0) = w.1 ∙ ap (λ (u : Bool). cond u (neg_ℤ (pos cut.whole)) (pos (cut.whole + cond cut.rest 1 0))) q in
      sym (near_enough h
      ∙ ap (λ (z : ℤ). ends (held z) (held (ceil_z v))) lo
      ∙ ap (λ (z : ℤ). ends (2 ^ 24 + cut.whole) (held z)) hi
      ∙ ap (λ (x : ℕ). ends (2 ^ 24 + cut.whole) (2 ^ 24 + x)) (sym more))

pub around_far : (v : Float) → cut_of v ≡ None → None ≡ held_around v
unfolding held_around
around_far v p = sym (ap (λ (u : Bool). cond u (ends (held (floor_z v)) (held (ceil_z v))) None) (far_reach v p))

-- ---- what reaches has small numbers around it
low_pos : (a d : ℕ) → 0 < d → a < 2 ^ 23 * d → a / d ≤ 2 ^ 23
low_pos a d D h = let l : a / d < 2 ^ 23 = (div-lt_iff_lt-mul D).1 h in omega arith

low_up : (a d : ℕ) → 0 < d → a < 2 ^ 23 * d → (a + (d - 1)) / d ≤ 2 ^ 23
low_up a d D h =
    let k : a + (d - 1) < (2 ^ 23 + 1) * d = omega arith in
    let l : (a + (d - 1)) / d < 2 ^ 23 + 1 = (div-lt_iff_lt-mul D).1 k in
    omega arith

low_neg : (n : ℕ) → n ≤ 2 ^ 23 → Low (neg_ℤ (pos n))
low_neg zero h = h
low_neg (suc n) h = h

low_neg_neg : (n : ℕ) → n ≤ 2 ^ 23 → Low (neg_ℤ (neg_ℤ (pos n)))
low_neg_neg zero h = h
low_neg_neg (suc n) h = h

pub low_floor : (v : Float) → reaches v ≡ true → Low (floor_z v)
unfolding reaches floor_z
low_floor nan h = lit≤ tt
low_floor (inf s) h = lit≤ tt
low_floor (fin false m e) h = low_pos (m * up e) (down e) (down_pos e) (ltb-true _ _ h)
low_floor (fin true m e) h = low_neg _ (low_up (m * up e) (down e) (down_pos e) (ltb-true _ _ h))

pub low_ceil : (v : Float) → reaches v ≡ true → Low (ceil_z v)
unfolding reaches floor_z ceil_z neg
low_ceil nan h = lit≤ tt
low_ceil (inf s) h = lit≤ tt
low_ceil (fin false m e) h = low_neg_neg _ (low_up (m * up e) (down e) (down_pos e) (ltb-true _ _ h))
low_ceil (fin true m e) h = low_neg _ (low_pos (m * up e) (down e) (down_pos e) (ltb-true _ _ h))
