-- A span is told by its two ends, and two spans are the placement of a box; where one is beyond, the box is outside. Assumes nothing.
use mathlib.Core.Path.{◌≡◌, refl, sym, ap, ◌∙◌}
use Prim.Native.Nat.{ℕ, ◌-◌, ◌^◌, ◌≤◌}
use native.Mathlib.Omega.{arith}
use mathlib.Core.Bool.{Bool, true, false, cond, ◌&&◌}
use lib.IntN.{ℤ, ◌+ℤ◌}
use lib.Ieee.{Float, neg}
use Rattle.float.specs.Round.{floor_z, ceil_z, floor_of}
use Rattle.geometry.specs.declared.Point.{Point}
use Rattle.geometry.specs.declared.Origin.{Origin}
use Rattle.geometry.specs.declared.Origin.TheVariants.{TopLeft, BottomLeft}
use Rattle.std.specs.Prelude.{None, Some}
use Rattle.geometry.specs.declared.Around.{Around}
use Rattle.geometry.specs.declared.Span.{Span}
use Rattle.geometry.specs.Affine.{point_of}
use Rattle.geometry.specs.Placing.{reaches, within, extent, lift, negated, placement_of, placed, placed_between}
use Rattle.geometry.specs.Held.{held, own, raised, ends, held_around, side, held_span}
use Rattle.geometry.proofs.Signs.{own_held, own_raised, held_low, held_gap}
use Rattle.geometry.proofs.Reach.{low_floor, low_ceil}

-- ---- what the two answers of `around_float` say
pub record Found (v : Float) (w : Around) : Type 0 where
  pub near : reaches v ≡ true
  pub down : w.down ≡ held (floor_z v)
  pub up : w.up ≡ held (ceil_z v)

pub found : (v : Float) (w : Around) → held_around v ≡ Some w → Found v w
unfolding held_around
found v w = go (reaches v) refl
  where
    go : (b : Bool) → reaches v ≡ b → cond b (ends (held (floor_z v)) (held (ceil_z v))) None ≡ Some w → Found v w
    go true h p =
        let q : record { down = held (floor_z v); up = held (ceil_z v) } ≡ w = cc in
        record { near = h; down = sym (ap (λ (x : Around). x.down) q); up = sym (ap (λ (x : Around). x.up) q) }
    go false h p = absurd (let z : ◌≡◌ {A = ℕ} 0 1 = cc in omega arith)

pub lost : (v : Float) → held_around v ≡ None → reaches v ≡ false
unfolding held_around
lost v = go (reaches v) refl
  where
    go : (b : Bool) → reaches v ≡ b → cond b (ends (held (floor_z v)) (held (ceil_z v))) None ≡ None → reaches v ≡ false
    go true h p = absurd (let z : ◌≡◌ {A = ℕ} 0 1 = cc in omega arith)
    go false h p = h

-- ---- a span from its two ends
pub over : (a b : Float) (d e : Around) → Found a d → Found b e → side d.down (e.up - d.down) ≡ held_span a b
unfolding held_span
over a b d e f g =
    let w : e.up - d.down ≡ extent a b =
    ap (λ (x : ℕ). x - d.down) g.up ∙ ap (λ (x : ℕ). held (ceil_z b) - x) f.down ∙ held_gap (floor_z a) (ceil_z b) (low_floor a f.near) (low_ceil b g.near) in
    ap (λ (x : ℕ). side d.down x) w ∙ ap (λ (x : ℕ). side x (extent a b)) f.down ∙ sym (simp (f.near, g.near))

pub first_lost : (a b : Float) → reaches a ≡ false → None ≡ held_span a b
unfolding held_span
first_lost a b h = simp h

pub second_lost : (a b : Float) (d : Around) → Found a d → reaches b ≡ false → None ≡ held_span a b
unfolding held_span
second_lost a b d f h = simp (f.near, h)

-- ---- what the two answers of `span_of` say
pub record Spans (a b : Float) (w : Span) : Type 0 where
  pub first : reaches a ≡ true
  pub second : reaches b ≡ true
  pub from : w.from ≡ held (floor_z a)
  pub size : w.size ≡ extent a b
  pub low : w.from ≤ 2 ^ 25
  pub short : w.size ≤ 2 ^ 25

spanning : (a b : Float) → reaches a ≡ true → reaches b ≡ true → extent a b ≤ 2 ^ 25
spanning a b p q = omega (arith, held_gap (floor_z a) (ceil_z b) (low_floor a p) (low_ceil b q), held_low (ceil_z b) (low_ceil b q))

pub spans : (a b : Float) (w : Span) → held_span a b ≡ Some w → Spans a b w
unfolding held_span
spans a b w = go (reaches a) (reaches b) refl refl
  where
    go : (s t : Bool) → reaches a ≡ s → reaches b ≡ t → cond (s && t) (side (held (floor_z a)) (extent a b)) None ≡ Some w → Spans a b w
    go true true p q e =
        let i : record { from = held (floor_z a); size = extent a b } ≡ w = cc in
        let f : w.from ≡ held (floor_z a) = sym (ap (λ (x : Span). x.from) i) in
        let g : w.size ≡ extent a b = sym (ap (λ (x : Span). x.size) i) in
        record { first = p; second = q; from = f; size = g; low = omega (arith, f, held_low (floor_z a) (low_floor a p)); short = omega (arith, g, spanning a b p q) }
    go true false p q e = absurd (let z : ◌≡◌ {A = ℕ} 0 1 = cc in omega arith)
    go false t p q e = absurd (let z : ◌≡◌ {A = ℕ} 0 1 = cc in omega arith)

pub beyond : (a b : Float) → held_span a b ≡ None → reaches a && reaches b ≡ false
unfolding held_span
beyond a b = go (reaches a && reaches b) refl
  where
    go : (s : Bool) → reaches a && reaches b ≡ s → cond s (side (held (floor_z a)) (extent a b)) None ≡ None → reaches a && reaches b ≡ false
    go true p e = absurd (let z : ◌≡◌ {A = ℕ} 0 1 = cc in omega arith)
    go false p e = p

-- ---- two spans make the placement
pub raised_low : (o : Origin) (n h t : ℕ) → t ≡ raised o n h → n ≤ 2 ^ 25 → h ≤ 2 ^ 25 → t ≤ 2 ^ 30
raised_low TopLeft n h t p k l = omega arith
raised_low BottomLeft n h t p k l = omega arith

pub placed_at : (o : Origin) (a b : Point) (w h : Span) (t : ℕ) (l u : ℤ) (fx fy : Float)
    → Spans a.x b.x w → Spans a.y b.y h → fx ≡ floor_of a.x → fy ≡ floor_of a.y → l ≡ own w.from → t ≡ raised o h.from h.size → u ≡ own t
    → placed (point_of (neg fx) (neg fy)) (record { left = l; top = u; width = w.size; height = h.size }) ≡ placed_between o a b
placed_at o a b w h t l u fx fy p q e f g i j =
    let z : l ≡ floor_z a.x = g ∙ ap own p.from ∙ own_held (floor_z a.x) (low_floor a.x p.first) in
    let y : u ≡ floor_z a.y +ℤ lift o h.size = j ∙ ap own i ∙ ap (λ (x : ℕ). own (raised o x h.size)) q.from ∙ own_raised o (floor_z a.y) h.size (low_floor a.y q.first) in
    let r : within a && within b ≡ true = ap (λ (s : Bool). (s && reaches a.y) && within b) p.first ∙ ap (λ (s : Bool). s && within b) q.first ∙ ap (λ (s : Bool). s && reaches b.y) p.second ∙ q.second in
    let k : placed (point_of (neg fx) (neg fy)) (record { left = l; top = u; width = w.size; height = h.size }) ≡ placed (negated a) (placement_of o a b) =
    put o a b fx fy w.size h.size l u e f z (y ∙ ap (λ (x : ℕ). floor_z a.y +ℤ lift o x) q.size) p.size q.size in
    k ∙ sym (ap (λ (s : Bool). cond s (placed (negated a) (placement_of o a b)) None) r)
  where
    put : (o : Origin) (a b : Point) (fx fy : Float) (w h : ℕ) (l u : ℤ) → fx ≡ floor_of a.x → fy ≡ floor_of a.y → l ≡ floor_z a.x → u ≡ floor_z a.y +ℤ lift o (extent a.y b.y) → w ≡ extent a.x b.x → h ≡ extent a.y b.y
        → placed (point_of (neg fx) (neg fy)) (record { left = l; top = u; width = w; height = h }) ≡ placed (negated a) (placement_of o a b)
    put o a b fx fy w h l u p1 p2 p3 p4 p5 p6 = cc

no_and : (p q r s : Bool) → p && r ≡ false → (p && q) && (r && s) ≡ false
no_and false q r s h = refl
no_and true false r s h = refl
no_and true true false s h = refl
no_and true true true s h = absurd (let z : ◌≡◌ {A = ℕ} 0 1 = cc in omega arith)

no_and_2 : (p q r s : Bool) → q && s ≡ false → (p && q) && (r && s) ≡ false
no_and_2 false q r s h = refl
no_and_2 true false r s h = refl
no_and_2 true true false s h = refl
no_and_2 true true true s h = h

outside : (o : Origin) (a b : Point) → within a && within b ≡ false → None ≡ placed_between o a b
outside o a b h = sym (ap (λ (s : Bool). cond s (placed (negated a) (placement_of o a b)) None) h)

pub x_outside : (o : Origin) (a b : Point) → reaches a.x && reaches b.x ≡ false → None ≡ placed_between o a b
x_outside o a b h = outside o a b (no_and (reaches a.x) (reaches a.y) (reaches b.x) (reaches b.y) h)

pub y_outside : (o : Origin) (a b : Point) → reaches a.y && reaches b.y ≡ false → None ≡ placed_between o a b
y_outside o a b h = outside o a b (no_and_2 (reaches a.x) (reaches a.y) (reaches b.x) (reaches b.y) h)
