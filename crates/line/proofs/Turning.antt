-- One side crossed: the numbers of the code are those of the rules, and the line is on its course again.
use Prim.Native.Nat.{ℕ, ◌+◌, ◌*◌, ◌-◌, ◌/◌, ◌^◌, ◌<◌, ◌≤◌}
use mathlib.Core.Path.{◌≡◌, sym, ap, ◌∙◌}
use mathlib.Core.List.{List}
use native.Mathlib.Omega.{arith}
use native.Mathlib.Nat.{mul_assoc, mul-le-mul_right, mul-div-le}
use lib.IntN.{ℤ, pos, ◌+ℤ◌, ◌-ℤ◌, ◌*ℤ◌}
use Rattle.fixed.specs.Fixed.{apart}
use Rattle.float.specs.Differences.{◌⊖◌}
use Rattle.float.proofs.Differences.{⊖_add, ⊖_neg, ⊖_mul, ⊖_abs, ⊖_same}
use Rattle.pen.specs.Marks.{Mark}
use Rattle.line.specs.declared.Ends.{Ends}
use Rattle.line.specs.declared.At.{At}
use Rattle.line.specs.declared.Rates.{Rates}
use Rattle.line.specs.declared.Side.{Side}
use Rattle.line.specs.declared.Side.TheVariants.{Left, Next, Right, Previous}
use Rattle.line.specs.Walk.{over, way, crossing, dx, dy, q, t}
use Rattle.line.specs.Course.{B, Bounded, Near, Course, ne, nw, se, sw, Rated, Under, Stepped}
use Rattle.line.proofs.Course.{Moved, near}

-- a crossing of a side is below 256
pub cross_fit : (a d k : ℕ) → a ≤ 256 * d → k ≡ 16777215 / d → a * k ≤ 4294967040
cross_fit a d k h e = rw e (omega (arith, mul-le-mul_right (16777215 / d) h, mul_assoc 256 d (16777215 / d), mul-div-le 16777215 d))

pub cross_fits : (A D d k : ℕ) → A ≤ D + 256 * d → k ≡ 16777215 / d → (A - D) * k ≤ 4294967040
cross_fits A D d k h e = cross_fit (A - D) d k (omega arith) e

cross_small : (A D d k y : ℕ) → A ≤ D + 256 * d → k ≡ 16777215 / d → y ≡ (A - D) * k / 2 ^ 24 → y ≤ 255
cross_small A D d k y h e f = rw f (low ((A - D) * k) (cross_fits A D d k h e))
  where
    low : (n : ℕ) → n ≤ 4294967040 → n / 2 ^ 24 ≤ 255
    low n h = omega arith

-- and is the rules'
cross_up : (A D z1 z2 k y : ℕ) → D ≤ A → k ≡ 16777215 / apart z2 z1 → y ≡ (A - D) * k / 2 ^ 24 → y ≡ crossing (A ⊖ D) (z2 ⊖ z1)
cross_up A D z1 z2 k y h e f = f ∙ rw (⊖_abs A D, ⊖_abs z2 z1, ← e) (ap (λ (n : ℕ). n * k / 2 ^ 24) (omega arith))

cross_down : (A D z1 z2 k y : ℕ) → D ≤ A → k ≡ 16777215 / apart z2 z1 → y ≡ (A - D) * k / 2 ^ 24 → y ≡ crossing (D ⊖ A) (z2 ⊖ z1)
cross_down A D z1 z2 k y h e f = f ∙ rw (⊖_abs D A, ⊖_abs z2 z1, ← e) (ap (λ (n : ℕ). n * k / 2 ^ 24) (omega arith))

-- p less or more 256 times a difference
more_p : (P z1 z2 : ℕ) → Near P → z1 < 2 ^ 22 → z2 < 2 ^ 22 → (P + 256 * z2 - 256 * z1) ⊖ B ≡ P ⊖ B +ℤ pos 256 *ℤ (z2 ⊖ z1)
more_p P z1 z2 n h k = ⊖_same (P + 256 * z2 - 256 * z1) B (P + 256 * z2) (B + 256 * z1) (omega arith) ∙ sym (simp (⊖_mul, ⊖_add))

less_p : (P z1 z2 : ℕ) → Near P → z1 < 2 ^ 22 → z2 < 2 ^ 22 → (P + 256 * z1 - 256 * z2) ⊖ B ≡ P ⊖ B -ℤ pos 256 *ℤ (z2 ⊖ z1)
less_p P z1 z2 n h k = ⊖_same (P + 256 * z1 - 256 * z2) B (P + 256 * z1) (B + 256 * z2) (omega arith) ∙ sym (simp (⊖_mul, ⊖_neg, ⊖_add))

-- what a course says of p + 256 times the way from z1 to z2, where it is the way on
module _ (P z1 z2 n : ℕ) where
  pub next_below : n ≡ P + 256 * z1 - 256 * z2 → P + 256 * z1 ≤ B + 256 * z2 → n ≤ B
  next_below e h = omega arith

  pub right_above : n ≡ P + 256 * z2 - 256 * z1 → B + 256 * z1 ≤ P + 256 * z2 → B ≤ n
  right_above e h = omega arith

  pub next_small : (d : ℕ) → n ≡ P + 256 * z1 - 256 * z2 → B + 256 * z2 ≤ P + 256 * z1 + d → B ≤ n + d
  next_small d e h = omega arith

  pub right_small : (d : ℕ) → n ≡ P + 256 * z2 - 256 * z1 → P + 256 * z2 ≤ B + 256 * z1 + d → n ≤ B + d
  right_small d e h = omega arith

turn_down : (P z1 z2 : ℕ) → Near P → z1 < 2 ^ 22 → z2 < 2 ^ 22 → B - (P + 256 * z1 - 256 * z2) ≡ B + 256 * z2 - (P + 256 * z1)
turn_down P z1 z2 n h k = omega arith

turn_up : (P z1 z2 : ℕ) → P + 256 * z2 - 256 * z1 - B ≡ P + 256 * z2 - (B + 256 * z1)
turn_up P z1 z2 = omega arith

q_is : (l : Ends) (P : ℕ) → q l (P ⊖ B) ≡ (P + 256 * l.x1) ⊖ (B + 256 * l.x2)
q_is l P = simp (⊖_mul, ⊖_neg, ⊖_add)

t_is : (l : Ends) (P : ℕ) → t l (P ⊖ B) ≡ (P + 256 * l.y2) ⊖ (B + 256 * l.y1)
t_is l P = simp (⊖_mul, ⊖_add)

-- no cell of a course is far off
few_x : (l : Ends) (c r P : ℕ) → Bounded l → Course l c r P → c < 2 ^ 14
few_x l c r P b (ne i) = omega arith
few_x l c r P b (nw i) = omega arith
few_x l c r P b (se i) = omega arith
few_x l c r P b (sw i) = omega arith

few_y : (l : Ends) (c r P : ℕ) → Bounded l → Course l c r P → r < 2 ^ 14
few_y l c r P b (ne i) = omega arith
few_y l c r P b (nw i) = omega arith
few_y l c r P b (se i) = omega arith
few_y l c r P b (sw i) = omega arith

pub on_course : (l : Ends) → Bounded l → (P : ℕ) (a : At) → Course l a.col a.row P → a.fx ≤ 256 → a.fy ≤ 256 → Under l P a
on_course l b P a o x y = record {
  course = o;
  close = near l a.col a.row P b o;
  fewx = few_x l a.col a.row P b o;
  fewy = few_y l a.col a.row P b o;
  point = record { inx = x; iny = y };
}

over_same : (w : Side) (a : At) (go : ℤ → At → List Mark) {z z' : ℕ} {p p' : ℤ} → z ≡ z' → p ≡ p' → over w z a (go p) ≡ over w z' a (go p')
over_same w a go {z} {z'} {p} {p'} e f = ap (λ (n : ℕ). over w n a (go p)) e ∙ ap (λ (m : ℤ). over w z' a (go m)) f

module _ (l : Ends) (k : Rates) (P : ℕ) (a : At) (rated : Rated l k) (under : Under l P a) where
  pub stepped_left : way l (P ⊖ B) ≡ Left → Moved l a.col a.row P Left → (y : ℕ) → y ≡ (B - P) * k.x / 2 ^ 24 →
      Stepped l P a (record { fx = 0; fy = y; to = record { col = a.col - 1; row = a.row; fx = 256; fy = y }; p = P + 256 * l.y1 - 256 * l.y2 })
  stepped_left e m y f =
      let s : y ≤ 255 = cross_small B P _ _ y m.1.small rated.kx f in
      let g : y ≡ crossing (P ⊖ B) (dx l) = cross_down B P _ _ _ y m.1.sign rated.kx f in
      record {
        made = λ go. rw e (over_same Left a go (sym g) (sym (less_p P l.y1 l.y2 under.close rated.small.by1 rated.small.by2)));
        went = rw e (sym (less_p P l.y1 l.y2 under.close rated.small.by1 rated.small.by2));
        most = rw (e, ← g) s;
        smallx = omega arith;
        smally = omega arith;
        under = on_course l rated.small _ _ m.1.on (omega arith) (omega arith);
        nearer = m.1.nearer;
      }

  pub stepped_next : way l (P ⊖ B) ≡ Next → Moved l a.col a.row P Next → (x : ℕ) → x ≡ (B - (P + 256 * l.x1 - 256 * l.x2)) * k.y / 2 ^ 24 →
      Stepped l P a (record { fx = x; fy = 256; to = record { col = a.col; row = a.row + 1; fx = x; fy = 0 }; p = P + 256 * l.x1 - 256 * l.x2 })
  stepped_next e m x f₁ =
      let f : x ≡ (B + 256 * l.x2 - (P + 256 * l.x1)) * k.y / 2 ^ 24 = f₁ ∙ ap (λ (n : ℕ). n * k.y / 2 ^ 24) (turn_down P l.x1 l.x2 under.close rated.small.bx1 rated.small.bx2) in
      let s : x ≤ 255 = cross_small (B + 256 * l.x2) (P + 256 * l.x1) _ _ x m.small rated.ky f in
      let g : x ≡ crossing (q l (P ⊖ B)) (dy l) = rw (q_is l P) (cross_down (B + 256 * l.x2) (P + 256 * l.x1) _ _ _ x m.sign rated.ky f) in
      record {
        made = λ go. rw e (over_same Next a go (sym g) (sym (less_p P l.x1 l.x2 under.close rated.small.bx1 rated.small.bx2)));
        went = rw e (sym (less_p P l.x1 l.x2 under.close rated.small.bx1 rated.small.bx2));
        most = rw (e, ← g) s;
        smallx = omega arith;
        smally = omega arith;
        under = on_course l rated.small _ _ m.on (omega arith) (omega arith);
        nearer = m.nearer;
      }

  pub stepped_right : way l (P ⊖ B) ≡ Right → Moved l a.col a.row P Right → (y : ℕ) → y ≡ (P + 256 * l.y2 - 256 * l.y1 - B) * k.x / 2 ^ 24 →
      Stepped l P a (record { fx = 256; fy = y; to = record { col = a.col + 1; row = a.row; fx = 0; fy = y }; p = P + 256 * l.y2 - 256 * l.y1 })
  stepped_right e m y f₁ =
      let f : y ≡ (P + 256 * l.y2 - (B + 256 * l.y1)) * k.x / 2 ^ 24 = f₁ ∙ ap (λ (n : ℕ). n * k.x / 2 ^ 24) (turn_up P l.y1 l.y2) in
      let s : y ≤ 255 = cross_small (P + 256 * l.y2) (B + 256 * l.y1) _ _ y m.small rated.kx f in
      let g : y ≡ crossing (t l (P ⊖ B)) (dx l) = rw (t_is l P) (cross_up (P + 256 * l.y2) (B + 256 * l.y1) _ _ _ y m.sign rated.kx f) in
      record {
        made = λ go. rw e (over_same Right a go (sym g) (sym (more_p P l.y1 l.y2 under.close rated.small.by1 rated.small.by2)));
        went = rw e (sym (more_p P l.y1 l.y2 under.close rated.small.by1 rated.small.by2));
        most = rw (e, ← g) s;
        smallx = omega arith;
        smally = omega arith;
        under = on_course l rated.small _ _ m.on (omega arith) (omega arith);
        nearer = m.nearer;
      }

  pub stepped_previous : way l (P ⊖ B) ≡ Previous → Moved l a.col a.row P Previous → (x : ℕ) → x ≡ (P - B) * k.y / 2 ^ 24 →
      Stepped l P a (record { fx = x; fy = 0; to = record { col = a.col; row = a.row - 1; fx = x; fy = 256 }; p = P + 256 * l.x2 - 256 * l.x1 })
  stepped_previous e m x f =
      let s : x ≤ 255 = cross_small P B _ _ x m.1.small rated.ky f in
      let g : x ≡ crossing (P ⊖ B) (dy l) = cross_up P B _ _ _ x m.1.sign rated.ky f in
      record {
        made = λ go. rw e (over_same Previous a go (sym g) (sym (more_p P l.x1 l.x2 under.close rated.small.bx1 rated.small.bx2)));
        went = rw e (sym (more_p P l.x1 l.x2 under.close rated.small.bx1 rated.small.bx2));
        most = rw (e, ← g) s;
        smallx = omega arith;
        smally = omega arith;
        under = on_course l rated.small _ _ m.1.on (omega arith) (omega arith);
        nearer = m.1.nearer;
      }
