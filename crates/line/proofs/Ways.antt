-- Through which side a line leaves a cell, by tests on natural numbers.
use Prim.Native.Nat.{ℕ, ◌+◌, ◌*◌, ◌<◌, ◌≤◌}
use mathlib.Core.Path.{◌≡◌}
use mathlib.Core.Bool.{cond, ◌&&◌}
use native.Mathlib.Omega.{arith}
use lib.Dec.{leb, ltb}
use Rattle.float.specs.Differences.{◌⊖◌}
use Rattle.float.proofs.Differences.{⊖_add, ⊖_neg, ⊖_mul, ⊖_le, ⊖_ge, ⊖_gt}
use Rattle.line.specs.declared.Ends.{Ends}
use Rattle.line.specs.declared.Side.TheVariants.{Left, Next, Right, Previous}
use Rattle.line.specs.Walk.{way}
use Rattle.line.specs.Course.{B}
use Rattle.line.proofs.Tests.{no_lt, no_le, yes_lt, yes_le}

module _ (l : Ends) (P : ℕ) where
  pub way_is : way l (P ⊖ B) ≡
      cond (leb P B && ltb (B + 256 * l.x2) (P + 256 * l.x1)) Left
      (cond (leb (P + 256 * l.x1) (B + 256 * l.x2) && ltb (B + 256 * l.x2 + 256 * l.y1) (P + 256 * l.x1 + 256 * l.y2)) Next
      (cond (leb (P + 256 * l.x1 + 256 * l.y2) (B + 256 * l.x2 + 256 * l.y1) && leb (B + 256 * l.y1) (P + 256 * l.y2)) Right
      Previous))
  unfolding way
  way_is = simp (⊖_mul, ⊖_neg, ⊖_add, ⊖_le, ⊖_gt, ⊖_ge)

  pub to_left : P ≤ B → B + 256 * l.x2 < P + 256 * l.x1 → way l (P ⊖ B) ≡ Left
  to_left h k = rw (way_is, yes_lt P B (B + 256 * l.x2) (P + 256 * l.x1) h k)

  pub to_next : P + 256 * l.x1 ≤ B + 256 * l.x2 → B + 256 * l.x2 + 256 * l.y1 < P + 256 * l.x1 + 256 * l.y2 → way l (P ⊖ B) ≡ Next
  to_next h k = rw (
    way_is,
    no_lt P B (B + 256 * l.x2) (P + 256 * l.x1) (omega arith),
    yes_lt (P + 256 * l.x1) (B + 256 * l.x2) (B + 256 * l.x2 + 256 * l.y1) (P + 256 * l.x1 + 256 * l.y2) h k,
  )

  pub to_right : (P ≤ B → P + 256 * l.x1 ≤ B + 256 * l.x2) → P + 256 * l.x1 + 256 * l.y2 ≤ B + 256 * l.x2 + 256 * l.y1 → B + 256 * l.y1 ≤ P + 256 * l.y2 → way l (P ⊖ B) ≡ Right
  to_right f h k = rw (
    way_is,
    no_lt P B (B + 256 * l.x2) (P + 256 * l.x1) f,
    no_lt (P + 256 * l.x1) (B + 256 * l.x2) (B + 256 * l.x2 + 256 * l.y1) (P + 256 * l.x1 + 256 * l.y2) (omega arith),
    yes_le (P + 256 * l.x1 + 256 * l.y2) (B + 256 * l.x2 + 256 * l.y1) (B + 256 * l.y1) (P + 256 * l.y2) h k,
  )

  pub to_previous :
      (P ≤ B → P + 256 * l.x1 ≤ B + 256 * l.x2) →
      (P + 256 * l.x1 ≤ B + 256 * l.x2 → P + 256 * l.x1 + 256 * l.y2 ≤ B + 256 * l.x2 + 256 * l.y1) →
      (P + 256 * l.x1 + 256 * l.y2 ≤ B + 256 * l.x2 + 256 * l.y1 → P + 256 * l.y2 < B + 256 * l.y1) →
      way l (P ⊖ B) ≡ Previous
  to_previous f g h = rw (
    way_is,
    no_lt P B (B + 256 * l.x2) (P + 256 * l.x1) f,
    no_lt (P + 256 * l.x1) (B + 256 * l.x2) (B + 256 * l.x2 + 256 * l.y1) (P + 256 * l.x1 + 256 * l.y2) g,
    no_le (P + 256 * l.x1 + 256 * l.y2) (B + 256 * l.x2 + 256 * l.y1) (B + 256 * l.y1) (P + 256 * l.y2) h,
  )
