-- Where a slanted line begins it is on its course, and p is the rules'.
use Prim.Native.Nat.{ℕ, ◌+◌, ◌*◌, ◌-◌, ◌/◌, ◌%◌, ◌^◌, ◌<◌, ◌≤◌}
use mathlib.Core.Path.{◌≡◌, sym, ap, ◌∙◌}
use mathlib.Core.Logic.{⊎_elim}
use native.Mathlib.Omega.{arith}
use native.Mathlib.Nat.{mul-add, mul_comm, mul-le-mul, mul-le-mul_left}
use lib.IntN.{pos, ◌-ℤ◌, ◌*ℤ◌, *ℤ_comm}
use Rattle.float.specs.Differences.{◌⊖◌}
use Rattle.float.proofs.Differences.{which, ⊖_add, ⊖_neg, ⊖_mul, ⊖_same}
use Rattle.line.specs.declared.Ends.{Ends}
use Rattle.line.specs.Walk.{dx, dy, start, p}
use Rattle.line.specs.Course.{B, Bounded, Slanted, NE, NW, SE, SW, Course, ne, nw, se, sw, Under}
use Rattle.line.proofs.Turning.{on_course}

-- k·z, where z is w and a more
split : (k w a z : ℕ) → w + a ≡ z → k * z ≡ k * w + a * k
split k w a z e = rw (← e, mul-add k w a, mul_comm k a)

module _ (l : Ends) (c r fx fy P : ℕ) (ex : 256 * c + fx ≡ l.x1) (lx : fx < 256) (ey : 256 * r + fy ≡ l.y1) (ly : fy < 256)
    (e : P + fy * l.x1 + fx * l.y2 ≡ B + fy * l.x2 + fx * l.y1) where
  begun_ne : (a b : ℕ) → 0 < a → 0 < b → l.x1 + a ≡ l.x2 → l.y1 + b ≡ l.y2 → NE l c r P
  begun_ne a b ha hb sx sy =
      let m : P + b * fx ≡ B + a * fy = omega (arith, split fy _ _ _ sx, split fx _ _ _ sy) in
      let j : b * fx ≤ b * 255 = mul-le-mul_left b (omega arith) in
      let k : a * fy ≤ a * 255 = mul-le-mul_left a (omega arith) in
      record {
        a = a;
        b = b;
        u = fx + a;
        v = fy + b;
        hx = record { some = ha; size = sx; rest = omega arith; box = omega arith };
        hy = record { some = hb; size = sy; rest = omega arith; box = omega arith };
        low = omega arith;
        high = omega arith;
        exact = omega (arith, mul-add b fx a, mul-add a fy b, mul_comm a b);
      }

  begun_nw : (a b g : ℕ) → 0 < a → 0 < b → g + fx ≡ 256 → l.x2 + a ≡ l.x1 → l.y1 + b ≡ l.y2 → NW l c r P
  begun_nw a b g ha hb hg sx sy =
      let m : P + a * fy + b * fx ≡ B = omega (arith, split fy _ _ _ sx, split fx _ _ _ sy) in
      let j : b * fx ≤ b * 255 = mul-le-mul_left b (omega arith) in
      let k : a * fy ≤ a * 255 = mul-le-mul_left a (omega arith) in
      record {
        a = a;
        b = b;
        u = g + a;
        v = fy + b;
        hx = record { some = ha; size = sx; rest = omega arith; more = omega arith; box = omega arith };
        hy = record { some = hb; size = sy; rest = omega arith; box = omega arith };
        low = omega arith;
        high = omega arith;
        exact = omega (arith, mul-add b g a, mul-add a fy b, mul_comm a b, mul-add b g fx, ap (λ (n : ℕ). b * n) hg);
      }

  begun_se : (a b g : ℕ) → 0 < a → 0 < b → g + fy ≡ 256 → l.x1 + a ≡ l.x2 → l.y2 + b ≡ l.y1 → SE l c r P
  begun_se a b g ha hb hg sx sy =
      let m : P ≡ B + a * fy + b * fx = omega (arith, split fy _ _ _ sx, split fx _ _ _ sy) in
      let j : b * fx ≤ b * 255 = mul-le-mul_left b (omega arith) in
      let k : a * fy ≤ a * 255 = mul-le-mul_left a (omega arith) in
      record {
        a = a;
        b = b;
        u = fx + a;
        v = g + b;
        hx = record { some = ha; size = sx; rest = omega arith; box = omega arith };
        hy = record { some = hb; size = sy; rest = omega arith; more = omega arith; box = omega arith };
        low = omega arith;
        high = omega arith;
        exact = omega (arith, mul-add b fx a, mul-add a g b, mul_comm a b, mul-add a g fy, ap (λ (n : ℕ). a * n) hg);
      }

  begun_sw : (a b g h : ℕ) → 0 < a → 0 < b → g + fx ≡ 256 → h + fy ≡ 256 → l.x2 + a ≡ l.x1 → l.y2 + b ≡ l.y1 → SW l c r P
  begun_sw a b g h ha hb hg hh sx sy =
      let m : P + a * fy ≡ B + b * fx = omega (arith, split fy _ _ _ sx, split fx _ _ _ sy) in
      let j : b * fx ≤ b * 255 = mul-le-mul_left b (omega arith) in
      let k : a * fy ≤ a * 255 = mul-le-mul_left a (omega arith) in
      record {
        a = a;
        b = b;
        u = g + a;
        v = h + b;
        hx = record { some = ha; size = sx; rest = omega arith; more = omega arith; box = omega arith };
        hy = record { some = hb; size = sy; rest = omega arith; more = omega arith; box = omega arith };
        low = omega arith;
        high = omega arith;
        exact = omega (arith, mul-add b g a, mul-add a h b, mul_comm a b, mul-add b g fx, ap (λ (n : ℕ). b * n) hg, mul-add a h fy, ap (λ (n : ℕ). a * n) hh);
      }

  pub begun : (l.x1 ≡ l.x2 → ⊥) → (l.y1 ≡ l.y2 → ⊥) → Course l c r P
  begun nx ny = ⊎_elim
      (λ hx. ⊎_elim
      (λ hy. ne (begun_ne (l.x2 - l.x1) (l.y2 - l.y1) (omega arith) (omega arith) (omega arith) (omega arith)))
      (λ hy. se (begun_se (l.x2 - l.x1) (l.y1 - l.y2) (256 - fy) (omega arith) (omega arith) (omega arith) (omega arith) (omega arith)))
      (which l.y1 l.y2))
      (λ hx. ⊎_elim
      (λ hy. nw (begun_nw (l.x1 - l.x2) (l.y2 - l.y1) (256 - fx) (omega arith) (omega arith) (omega arith) (omega arith) (omega arith)))
      (λ hy. sw (begun_sw (l.x1 - l.x2) (l.y1 - l.y2) (256 - fx) (256 - fy) (omega arith) (omega arith) (omega arith) (omega arith) (omega arith) (omega arith)))
      (which l.y1 l.y2))
      (which l.x1 l.x2)

  -- p there, as the rules have it
  pub begun_p : P ⊖ B ≡ dx l *ℤ pos fy -ℤ dy l *ℤ pos fx
  begun_p = ⊖_same P B (fy * l.x2 + fx * l.y1) (fy * l.x1 + fx * l.y2) (omega arith)
      ∙ sym (simp (*ℤ_comm (dx l) (pos fy), *ℤ_comm (dy l) (pos fx), ⊖_mul, ⊖_neg, ⊖_add))

pub mul_low : (f z : ℕ) → f < 256 → z < 2 ^ 22 → f * z ≤ 255 * 4194303
mul_low f z h k =
    let g : f ≤ 255 = omega arith in
    let j : z ≤ 4194303 = omega arith in
    mul-le-mul g j

pub begun_line : (l : Ends) (P : ℕ) → Bounded l → Slanted l →
    P + l.y1 % 256 * l.x1 + l.x1 % 256 * l.y2 ≡ B + l.y1 % 256 * l.x2 + l.x1 % 256 * l.y1 →
    Under l P (start l) × (P ⊖ B ≡ p l (start l))
begun_line l P b n e = (
  on_course l b P (start l) (begun l _ _ (l.x1 % 256) (l.y1 % 256) P (omega arith) (omega arith) (omega arith) (omega arith) e n.wide n.high) (omega arith) (omega arith),
  begun_p l (l.x1 / 256) (l.y1 / 256) (l.x1 % 256) (l.y1 % 256) P (omega arith) (omega arith) (omega arith) (omega arith) e,
)
