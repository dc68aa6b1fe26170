-- The course of a slanted line through the cells: from every cell but the end's it goes on to a cell that is one nearer to the end's.
-- For each pair of directions two corners bound p, and the end lies on the line: so the side through which it leaves is never one behind the end.
use Prim.Native.Nat.{ℕ, ◌+◌, ◌*◌, ◌-◌, ◌/◌, ◌<◌, ◌≤◌}
use mathlib.Core.Path.{◌≡◌, sym, ap, ◌∙◌, subst}
use mathlib.Core.Logic.{⊎_elim}
use native.Mathlib.Omega.{arith}
use native.Mathlib.Nat.{mul-add, mul-le-mul_left}
use Rattle.fixed.specs.Fixed.{apart}
use Rattle.float.specs.Differences.{◌⊖◌}
use Rattle.float.proofs.Differences.{which}
use Rattle.line.specs.declared.Ends.{Ends}
use Rattle.line.specs.declared.At.{At}
use Rattle.line.specs.declared.Side.{Side}
use Rattle.line.specs.declared.Side.TheVariants.{Left, Next, Right, Previous}
use Rattle.line.specs.Walk.{way}
use Rattle.line.specs.Course.{B, Bounded, Near, Fwd, Bwd, NE, NW, SE, SW, Course, ne, nw, se, sw, togo, Under}
use Rattle.line.proofs.Ways.{to_left, to_next, to_right, to_previous}

-- a move: its crossing is A − D over d, and it leads to cell (c', r') with P'
pub record Move (l : Ends) (c r A D d c' r' P' : ℕ) : Type 0 where
  pub sign : D ≤ A
  pub small : A ≤ D + 256 * d
  pub nearer : togo l c r ≡ togo l c' r' + 1
  pub on : Course l c' r' P'

-- what is true of each way
abbrev pub Moved : Ends → ℕ → ℕ → ℕ → Side → Type 0
Moved l c r P Left = (0 < c) × Move l c r B P (apart l.x2 l.x1) (c - 1) r (P + 256 * l.y1 - 256 * l.y2)
Moved l c r P Next = Move l c r (B + 256 * l.x2) (P + 256 * l.x1) (apart l.y2 l.y1) c (r + 1) (P + 256 * l.x1 - 256 * l.x2)
Moved l c r P Right = Move l c r (P + 256 * l.y2) (B + 256 * l.y1) (apart l.x2 l.x1) (c + 1) r (P + 256 * l.y2 - 256 * l.y1)
Moved l c r P Previous = (0 < r) × Move l c r P B (apart l.y2 l.y1) c (r - 1) (P + 256 * l.x2 - 256 * l.x1)

-- ---- one axis: lengths and counts without a truncated difference
fwd_size : {z1 z2 c a u : ℕ} → Fwd z1 z2 c a u → apart z2 z1 ≡ a
fwd_size f = omega arith

bwd_size : {z1 z2 c a u : ℕ} → Bwd z1 z2 c a u → apart z2 z1 ≡ a
bwd_size f = omega arith

fwd_cells : {z1 z2 c a u : ℕ} → Fwd z1 z2 c a u → apart (z2 / 256) c ≡ u / 256
fwd_cells f = omega arith

bwd_cells : {z1 z2 c a u : ℕ} → Bwd z1 z2 c a u → apart (z2 / 256) c + 1 ≡ (u + 255) / 256
bwd_cells f = omega arith

fwd_on : {z1 z2 c a u w : ℕ} → Fwd z1 z2 c a u → u ≡ w + 256 → Fwd z1 z2 (c + 1) a w
fwd_on f e = record { some = f.some; size = f.size; rest = omega arith; box = omega arith }

bwd_on : {z1 z2 c d a u w : ℕ} → Bwd z1 z2 c a u → u ≡ w + 256 → 0 < w → c ≡ d + 1 → Bwd z1 z2 d a w
bwd_on f e g k = record { some = f.some; size = f.size; rest = omega arith; more = g; box = omega arith }

module _ (l : Ends) (c r P : ℕ) where
  abbrev S0 : ℕ
  S0 = B + 256 * l.x2 + 256 * l.y1

  abbrev S1 : ℕ
  S1 = P + 256 * l.x1 + 256 * l.y2

  -- dx > 0, dy > 0
  module _ (i : NE l c r P) where
    ne_v : 0 < i.u / 256 + i.v / 256 → S0 < S1 → 256 ≤ i.v
    ne_v h g = ⊎_elim
        (λ z. absurd (omega (arith, mul-le-mul_left {m = i.v} {n = 255} i.a (omega arith), mul-le-mul_left {m = 256} {n = i.u} i.b (omega arith))))
        (λ z. z) (which i.v 256)

    ne_u : 0 < i.u / 256 + i.v / 256 → S1 ≤ S0 → 256 ≤ i.u
    ne_u h g = ⊎_elim
        (λ z. absurd (omega (arith, mul-le-mul_left {m = 256} {n = i.v} i.a (omega arith), mul-le-mul_left {m = i.u} {n = 255} i.b (omega arith))))
        (λ z. z) (which i.u 256)

    ne_next : (P' w : ℕ) → i.v ≡ w + 256 → S0 < S1 → P' + 256 * l.x2 ≡ P + 256 * l.x1 → NE l c (r + 1) P'
    ne_next P' w e g k = record {
      a = i.a;
      b = i.b;
      u = i.u;
      v = w;
      hx = i.hx;
      hy = fwd_on i.hy e;
      low = omega arith;
      high = omega arith;
      exact = omega (arith, mul-add i.a w 256, ap (λ (n : ℕ). i.a * n) e);
    }

    ne_right : (P' w : ℕ) → i.u ≡ w + 256 → S1 ≤ S0 → P' + 256 * l.y1 ≡ P + 256 * l.y2 → NE l (c + 1) r P'
    ne_right P' w e g k = record {
      a = i.a;
      b = i.b;
      u = w;
      v = i.v;
      hx = fwd_on i.hx e;
      hy = i.hy;
      low = omega arith;
      high = omega arith;
      exact = omega (arith, mul-add i.b w 256, ap (λ (n : ℕ). i.b * n) e);
    }

  -- dx < 0, dy > 0
  module _ (i : NW l c r P) where
    nw_u : 1 < (i.u + 255) / 256 + i.v / 256 → B + 256 * l.x2 < P + 256 * l.x1 → 256 < i.u
    nw_u h g = ⊎_elim (λ z. z)
        (λ z. absurd (omega (arith, mul-le-mul_left {m = 256} {n = i.v} i.a (omega arith), mul-le-mul_left {m = i.u} {n = 256} i.b z)))
        (which 256 i.u)

    nw_v : 1 < (i.u + 255) / 256 + i.v / 256 → P + 256 * l.x1 ≤ B + 256 * l.x2 → 256 ≤ i.v
    nw_v h g = ⊎_elim
        (λ z. absurd (omega (arith, mul-le-mul_left {m = i.v} {n = 255} i.a (omega arith), mul-le-mul_left {m = 257} {n = i.u} i.b (omega arith))))
        (λ z. z) (which i.v 256)

    nw_left : (P' w d : ℕ) → i.u ≡ w + 256 → 0 < w → c ≡ d + 1 → B + 256 * l.x2 < P + 256 * l.x1 → P' + 256 * l.y2 ≡ P + 256 * l.y1 → NW l d r P'
    nw_left P' w d e o f g k = record {
      a = i.a;
      b = i.b;
      u = w;
      v = i.v;
      hx = bwd_on i.hx e o f;
      hy = i.hy;
      low = omega arith;
      high = omega arith;
      exact = omega (arith, mul-add i.b w 256, ap (λ (n : ℕ). i.b * n) e);
    }

    nw_next : (P' w : ℕ) → i.v ≡ w + 256 → P + 256 * l.x1 ≤ B + 256 * l.x2 → P' + 256 * l.x2 ≡ P + 256 * l.x1 → NW l c (r + 1) P'
    nw_next P' w e g k = record {
      a = i.a;
      b = i.b;
      u = i.u;
      v = w;
      hx = i.hx;
      hy = fwd_on i.hy e;
      low = omega arith;
      high = omega arith;
      exact = omega (arith, mul-add i.a w 256, ap (λ (n : ℕ). i.a * n) e);
    }

  -- dx > 0, dy < 0
  module _ (i : SE l c r P) where
    se_u : 1 < i.u / 256 + (i.v + 255) / 256 → B + 256 * l.y1 ≤ P + 256 * l.y2 → 256 ≤ i.u
    se_u h g = ⊎_elim
        (λ z. absurd (omega (arith, mul-le-mul_left {m = 257} {n = i.v} i.a (omega arith), mul-le-mul_left {m = i.u} {n = 255} i.b (omega arith))))
        (λ z. z) (which i.u 256)

    se_v : 1 < i.u / 256 + (i.v + 255) / 256 → P + 256 * l.y2 < B + 256 * l.y1 → 256 < i.v
    se_v h g = ⊎_elim (λ z. z)
        (λ z. absurd (omega (arith, mul-le-mul_left {m = i.v} {n = 256} i.a z, mul-le-mul_left {m = 256} {n = i.u} i.b (omega arith))))
        (which 256 i.v)

    se_right : (P' w : ℕ) → i.u ≡ w + 256 → B + 256 * l.y1 ≤ P + 256 * l.y2 → P' + 256 * l.y1 ≡ P + 256 * l.y2 → SE l (c + 1) r P'
    se_right P' w e g k = record {
      a = i.a;
      b = i.b;
      u = w;
      v = i.v;
      hx = fwd_on i.hx e;
      hy = i.hy;
      low = omega arith;
      high = omega arith;
      exact = omega (arith, mul-add i.b w 256, ap (λ (n : ℕ). i.b * n) e);
    }

    se_previous : (P' w d : ℕ) → i.v ≡ w + 256 → 0 < w → r ≡ d + 1 → P + 256 * l.y2 < B + 256 * l.y1 → P' + 256 * l.x1 ≡ P + 256 * l.x2 → SE l c d P'
    se_previous P' w d e o f g k = record {
      a = i.a;
      b = i.b;
      u = i.u;
      v = w;
      hx = i.hx;
      hy = bwd_on i.hy e o f;
      low = omega arith;
      high = omega arith;
      exact = omega (arith, mul-add i.a w 256, ap (λ (n : ℕ). i.a * n) e);
    }

  -- dx < 0, dy < 0
  module _ (i : SW l c r P) where
    sw_u : 2 < (i.u + 255) / 256 + (i.v + 255) / 256 → P ≤ B → 256 < i.u
    sw_u h g = ⊎_elim (λ z. z)
        (λ z. absurd (omega (arith, mul-le-mul_left {m = 257} {n = i.v} i.a (omega arith), mul-le-mul_left {m = i.u} {n = 256} i.b z)))
        (which 256 i.u)

    sw_v : 2 < (i.u + 255) / 256 + (i.v + 255) / 256 → B < P → 256 < i.v
    sw_v h g = ⊎_elim (λ z. z)
        (λ z. absurd (omega (arith, mul-le-mul_left {m = i.v} {n = 256} i.a z, mul-le-mul_left {m = 257} {n = i.u} i.b (omega arith))))
        (which 256 i.v)

    sw_left : (P' w d : ℕ) → i.u ≡ w + 256 → 0 < w → c ≡ d + 1 → P ≤ B → P' + 256 * l.y2 ≡ P + 256 * l.y1 → SW l d r P'
    sw_left P' w d e o f g k = record {
      a = i.a;
      b = i.b;
      u = w;
      v = i.v;
      hx = bwd_on i.hx e o f;
      hy = i.hy;
      low = omega arith;
      high = omega arith;
      exact = omega (arith, mul-add i.b w 256, ap (λ (n : ℕ). i.b * n) e);
    }

    sw_previous : (P' w d : ℕ) → i.v ≡ w + 256 → 0 < w → r ≡ d + 1 → B < P → P' + 256 * l.x1 ≡ P + 256 * l.x2 → SW l c d P'
    sw_previous P' w d e o f g k = record {
      a = i.a;
      b = i.b;
      u = i.u;
      v = w;
      hx = i.hx;
      hy = bwd_on i.hy e o f;
      low = omega arith;
      high = omega arith;
      exact = omega (arith, mul-add i.a w 256, ap (λ (n : ℕ). i.a * n) e);
    }

-- ---- every course goes on, until it is in the end cell
-- a difference of cell counts along one axis, as the counts of the two cells
nearer_x : (l : Ends) (c r c' : ℕ) → apart (l.x2 / 256) c ≡ apart (l.x2 / 256) c' + 1 → togo l c r ≡ togo l c' r + 1
nearer_x l c r c' e = rw e (swap (apart (l.x2 / 256) c') (apart (l.y2 / 256) r))
  where
    swap : (m n : ℕ) → m + 1 + n ≡ m + n + 1
    swap m n = omega arith

nearer_y : (l : Ends) (c r r' : ℕ) → apart (l.y2 / 256) r ≡ apart (l.y2 / 256) r' + 1 → togo l c r ≡ togo l c r' + 1
nearer_y l c r r' e = rw e (swap (apart (l.x2 / 256) c) (apart (l.y2 / 256) r'))
  where
    swap : (m n : ℕ) → m + (n + 1) ≡ m + n + 1
    swap m n = omega arith

fwd_nearer : {z1 z2 c a u w : ℕ} → Fwd z1 z2 c a u → Fwd z1 z2 (c + 1) a w → apart (z2 / 256) c ≡ apart (z2 / 256) (c + 1) + 1
fwd_nearer {z1} {z2} {c} {a} {u} {w} f g = fwd_cells f ∙ half f g ∙ ap (λ (n : ℕ). n + 1) (sym (fwd_cells g))
  where
    half : {z1 z2 c a u w : ℕ} → Fwd z1 z2 c a u → Fwd z1 z2 (c + 1) a w → u / 256 ≡ w / 256 + 1
    half f g = omega arith

bwd_nearer : {z1 z2 c a u w : ℕ} → 0 < c → Bwd z1 z2 c a u → Bwd z1 z2 (c - 1) a w → apart (z2 / 256) c ≡ apart (z2 / 256) (c - 1) + 1
bwd_nearer h f g = omega (arith, bwd_cells f, bwd_cells g)

-- a number that is not too small, as a sum
less : (v k : ℕ) → k ≤ v → v ≡ v - k + k
less v k h = omega arith

small_fwd : {z1 z2 c a u : ℕ} (A D : ℕ) → Fwd z1 z2 c a u → A ≤ D + 256 * a → A ≤ D + 256 * apart z2 z1
small_fwd A D f g = rw (fwd_size f) g

small_bwd : {z1 z2 c a u : ℕ} (A D : ℕ) → Bwd z1 z2 c a u → A ≤ D + 256 * a → A ≤ D + 256 * apart z2 z1
small_bwd A D f g = rw (bwd_size f) g

-- where an axis that is gone down has more cells, its cell is not 0
bwd_pos : {z1 z2 c a u : ℕ} → Bwd z1 z2 c a u → 256 < u → 0 < c
bwd_pos f h = omega arith

module _ (l : Ends) (c r P : ℕ) (bd : Bounded l) where
  ne_moved : NE l c r P → 0 < togo l c r → Moved l c r P (way l (P ⊖ B))
  ne_moved i h =
      let k : 0 < i.u / 256 + i.v / 256 = rw (fwd_cells i.hx, fwd_cells i.hy) at h in
      ⊎_elim
      (λ g.
      let e : i.v ≡ i.v - 256 + 256 = less _ 256 (ne_v l c r P i k g) in
      rw (to_next l P (omega arith) g)
      (record {
        sign = omega arith;
        small = small_fwd (B + 256 * l.x2) (P + 256 * l.x1) i.hy (omega arith);
        nearer = nearer_y l c r (r + 1) (fwd_nearer i.hy (fwd_on i.hy e));
        on = ne (ne_next l c r P i _ _ e g (sym (less (P + 256 * l.x1) (256 * l.x2) (omega arith))));
      }))
      (λ g.
      let e : i.u ≡ i.u - 256 + 256 = less _ 256 (ne_u l c r P i k g) in
      rw (to_right l P (omega arith) g (omega arith))
      (record {
        sign = omega arith;
        small = small_fwd (P + 256 * l.y2) (B + 256 * l.y1) i.hx (omega arith);
        nearer = nearer_x l c r (c + 1) (fwd_nearer i.hx (fwd_on i.hx e));
        on = ne (ne_right l c r P i _ _ e g (sym (less (P + 256 * l.y2) (256 * l.y1) (omega arith))));
      }))
      (which (S0 l c r P) (S1 l c r P))

  nw_moved : NW l c r P → 0 < togo l c r → Moved l c r P (way l (P ⊖ B))
  nw_moved i h =
      let k : 1 < (i.u + 255) / 256 + i.v / 256 = count (apart (l.x2 / 256) c) (apart (l.y2 / 256) r) h (bwd_cells i.hx) (fwd_cells i.hy) in
      ⊎_elim
      (λ g.
      let n : 256 < i.u = nw_u l c r P i k g in
      let e : i.u ≡ i.u - 256 + 256 = less _ 256 (omega arith) in
      let o : 0 < i.u - 256 = omega arith in
      let z : 0 < c = bwd_pos i.hx n in
      let d : c ≡ c - 1 + 1 = less c 1 z in
      rw (to_left l P i.low g) (
        z,
        record {
          sign = omega arith;
          small = small_bwd B P i.hx (omega arith);
          nearer = nearer_x l c r (c - 1) (bwd_nearer z i.hx (bwd_on i.hx e o d));
          on = nw (nw_left l c r P i _ _ _ e o d g (sym (less (P + 256 * l.y1) (256 * l.y2) (omega arith))));
        },
      ))
      (λ g.
      let e : i.v ≡ i.v - 256 + 256 = less _ 256 (nw_v l c r P i k g) in
      rw (to_next l P g (omega arith))
      (record {
        sign = omega arith;
        small = small_fwd (B + 256 * l.x2) (P + 256 * l.x1) i.hy (omega arith);
        nearer = nearer_y l c r (r + 1) (fwd_nearer i.hy (fwd_on i.hy e));
        on = nw (nw_next l c r P i _ _ e g (sym (less (P + 256 * l.x1) (256 * l.x2) (omega arith))));
      }))
      (which (B + 256 * l.x2) (P + 256 * l.x1))
    where
      count : (m n : ℕ) {x y : ℕ} → 0 < m + n → m + 1 ≡ x → n ≡ y → 1 < x + y
      count m n h e f = omega arith

  se_moved : SE l c r P → 0 < togo l c r → Moved l c r P (way l (P ⊖ B))
  se_moved i h =
      let k : 1 < i.u / 256 + (i.v + 255) / 256 = count (apart (l.x2 / 256) c) (apart (l.y2 / 256) r) h (fwd_cells i.hx) (bwd_cells i.hy) in
      ⊎_elim
      (λ g.
      let n : 256 < i.v = se_v l c r P i k g in
      let e : i.v ≡ i.v - 256 + 256 = less _ 256 (omega arith) in
      let o : 0 < i.v - 256 = omega arith in
      let z : 0 < r = bwd_pos i.hy n in
      let d : r ≡ r - 1 + 1 = less r 1 z in
      rw (to_previous l P (omega arith) (omega arith) (λ _. g)) (
        z,
        record {
          sign = omega arith;
          small = small_bwd P B i.hy (omega arith);
          nearer = nearer_y l c r (r - 1) (bwd_nearer z i.hy (bwd_on i.hy e o d));
          on = se (se_previous l c r P i _ _ _ e o d g (sym (less (P + 256 * l.x2) (256 * l.x1) (omega arith))));
        },
      ))
      (λ g.
      let e : i.u ≡ i.u - 256 + 256 = less _ 256 (se_u l c r P i k g) in
      rw (to_right l P (omega arith) (omega arith) g)
      (record {
        sign = omega arith;
        small = small_fwd (P + 256 * l.y2) (B + 256 * l.y1) i.hx (omega arith);
        nearer = nearer_x l c r (c + 1) (fwd_nearer i.hx (fwd_on i.hx e));
        on = se (se_right l c r P i _ _ e g (sym (less (P + 256 * l.y2) (256 * l.y1) (omega arith))));
      }))
      (which (P + 256 * l.y2) (B + 256 * l.y1))
    where
      count : (m n : ℕ) {x y : ℕ} → 0 < m + n → m ≡ x → n + 1 ≡ y → 1 < x + y
      count m n h e f = omega arith

  sw_moved : SW l c r P → 0 < togo l c r → Moved l c r P (way l (P ⊖ B))
  sw_moved i h =
      let k : 2 < (i.u + 255) / 256 + (i.v + 255) / 256 = count (apart (l.x2 / 256) c) (apart (l.y2 / 256) r) h (bwd_cells i.hx) (bwd_cells i.hy) in
      ⊎_elim
      (λ g.
      let n : 256 < i.v = sw_v l c r P i k g in
      let e : i.v ≡ i.v - 256 + 256 = less _ 256 (omega arith) in
      let o : 0 < i.v - 256 = omega arith in
      let z : 0 < r = bwd_pos i.hy n in
      let d : r ≡ r - 1 + 1 = less r 1 z in
      rw (to_previous l P (omega arith) (omega arith) (omega arith)) (
        z,
        record {
          sign = omega arith;
          small = small_bwd P B i.hy (omega arith);
          nearer = nearer_y l c r (r - 1) (bwd_nearer z i.hy (bwd_on i.hy e o d));
          on = sw (sw_previous l c r P i _ _ _ e o d g (sym (less (P + 256 * l.x2) (256 * l.x1) (omega arith))));
        },
      ))
      (λ g.
      let n : 256 < i.u = sw_u l c r P i k g in
      let e : i.u ≡ i.u - 256 + 256 = less _ 256 (omega arith) in
      let o : 0 < i.u - 256 = omega arith in
      let z : 0 < c = bwd_pos i.hx n in
      let d : c ≡ c - 1 + 1 = less c 1 z in
      rw (to_left l P g (omega arith)) (
        z,
        record {
          sign = omega arith;
          small = small_bwd B P i.hx (omega arith);
          nearer = nearer_x l c r (c - 1) (bwd_nearer z i.hx (bwd_on i.hx e o d));
          on = sw (sw_left l c r P i _ _ _ e o d g (sym (less (P + 256 * l.y1) (256 * l.y2) (omega arith))));
        },
      ))
      (which B P)
    where
      count : (m n : ℕ) {x y : ℕ} → 0 < m + n → m + 1 ≡ x → n + 1 ≡ y → 2 < x + y
      count m n h e f = omega arith

  -- THE LAW: from any cell of the course but the end cell the line goes on, to a cell of the course that is one nearer
  pub moved : Course l c r P → 0 < togo l c r → Moved l c r P (way l (P ⊖ B))
  moved (ne i) h = ne_moved i h
  moved (nw i) h = nw_moved i h
  moved (se i) h = se_moved i h
  moved (sw i) h = sw_moved i h

  -- p + 2^40 is far from both ends of a 64-bit word
  pub near : Course l c r P → Near P
  near (ne i) = omega arith
  near (nw i) = omega arith
  near (se i) = omega arith
  near (sw i) = omega arith

-- which of these is true where a line on its course leaves its cell through a side
pub leaves : {l : Ends} {P : ℕ} {a : At} {v : Side} (w : Side) → Bounded l → Under l P a → 0 < togo l a.col a.row → v ≡ way l (P ⊖ B) → v ≡ w → Moved l a.col a.row P w
leaves {l} {P} {a} w b u t e h = subst (Moved l a.col a.row P) (sym e ∙ h) (moved l a.col a.row P b u.course t)
