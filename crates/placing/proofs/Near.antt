-- A box has each of its parts from some point, so it keeps what all the points' parts have. A part that passes the point rule lies far below 2 ^ 23:
-- with the offset added, the box of an accepted list lies where geometry's placement is never `None`.
use Prim.Native.Nat.{ℕ, ◌+◌, ◌*◌, ◌/◌, ◌%◌, ◌^◌, ◌≤◌, ◌<◌}
use mathlib.Core.Path.{◌≡◌, refl}
use mathlib.Core.Bool.{Bool, true, false, not, cond}
use mathlib.Core.List.{List, [], ◌∷◌, ◌++◌, map}
use native.Mathlib.Nat.{div-lt_iff_lt-mul}
use native.Mathlib.Omega.{arith}
use lib.Dec.{leb, eqb}
use lib.IntN.{ℤ}
use lib.Ieee.{Float, nan, inf, fin, up, down, lt}
use lib.Ieee.Fits.{down_pos}
use borrow.Author.Tests.{leb-true, lt-ltb}
use Rattle.geometry.specs.declared.Point.{Point}
use Rattle.geometry.specs.declared.Transform.{Transform}
use Rattle.geometry.specs.declared.Bounds.{Bounds}
use Rattle.geometry.specs.Affine.{plus, moved, shifted}
use Rattle.geometry.specs.Box.{box_at, around, box_from, box_of}
use Rattle.geometry.specs.Placing.{reaches, within}
use Rattle.fixed.specs.declared.Fix.{Fix}
use Rattle.std.specs.Prelude.{Option, None, Some}
use Rattle.std.specs.Option.{is_some}
use Rattle.fixed.specs.Fixed.{limit, held_of, fix, within_limit, to_fixed, spot_from, spot_of}
use Rattle.line.proofs.Tests.{both_true}
use Rattle.command.specs.declared.Command.{Command}
use Rattle.command.specs.Commands.{points_of}
use Rattle.path.specs.Reading.{path, passed, spot_at, all_pass, after_close, read_list}
use Rattle.placing.specs.Placing.{path_points, path_box}
use Rattle.placing.specs.Measuring.{Lies}
use Rattle.placing.proofs.Accepted.{Begins, FineFrom, end, more, all_fine, begins, points_pass}

-- ---- what every point has
pub data Every (P : Point → Type 0) : List Point → Type 0 where
  nil : Every P []
  cons : {p : Point} {ps : List Point} → P p → Every P ps → Every P (p ∷ ps)

every_append : {P : Point → Type 0} {xs ys : List Point} → Every P xs → Every P ys → Every P (xs ++ ys)
every_append nil k = k
every_append (cons p h) k = cons p (every_append h k)

-- ---- the box keeps what all the points' parts have
module _ (P Q : Float → Type 0) where
  pub record Parts (p : Point) : Type 0 where
    pub x_has : P p.x
    pub y_has : Q p.y

  pub record Keeps (b : Bounds) : Type 0 where
    pub low : Parts b.min
    pub high : Parts b.max

  chosen : (R : Float → Type 0) (u : Bool) {a b : Float} → R a → R b → R (cond u b a)
  chosen R true p q = q
  chosen R false p q = p

  around_keeps : (b : Bounds) (p : Point) → Keeps b → Parts p → Keeps (around b p)
  around_keeps b p k h = record {
    low = record {
      x_has = chosen P (lt p.x b.min.x) k.low.x_has h.x_has;
      y_has = chosen Q (lt p.y b.min.y) k.low.y_has h.y_has;
    };
    high = record {
      x_has = chosen P (lt b.max.x p.x) k.high.x_has h.x_has;
      y_has = chosen Q (lt b.max.y p.y) k.high.y_has h.y_has;
    };
  }

  from_keeps : (b : Bounds) (ps : List Point) → Keeps b → Every Parts ps → Keeps (box_from b ps)
  unfolding box_from
  from_keeps b [] k nil = k
  from_keeps b (p ∷ ps) k (cons h hs) = from_keeps (around b p) ps (around_keeps b p k h) hs

  pub box_keeps : (p : Point) (ps : List Point) → Every Parts (p ∷ ps) → Keeps (box_of (p ∷ ps))
  unfolding box_of
  box_keeps p ps (cons h hs) = from_keeps (box_at p) ps (record { low = h; high = h }) hs

-- ---- what passes the point rule reaches
abbrev pub farthest : ℕ  -- how far a part may lie, in whole pixels, rounded up
farthest = limit / 256 + 1

small : (m d : ℕ) → 0 < d → m * 256 / d ≤ limit → m ≤ farthest * d
small m d D l =
    let h : m * 256 < (limit + 1) * d = (div-lt_iff_lt-mul D).0 (omega arith) in
    omega arith

limited : (s : Bool) (n : ℕ) (r : Bool) → is_some (within_limit s n r) ≡ true → n ≤ limit
limited s n r e = go (leb n limit) refl e
  where
    go : (u : Bool) → leb n limit ≡ u → is_some (cond u (fix (held_of s n) r) None) ≡ true → n ≤ limit
    go true h k = leb-true n limit h
    go false h k = absurd (let z : ◌≡◌ {A = ℕ} 0 1 = cc in omega arith)

-- a part by the point rule: finite, and small
pub data Small : Float → Type 0 where
  small_part : {s : Bool} {m : ℕ} {e : ℤ} → m * up e ≤ farthest * down e → Small (fin s m e)

fixed_small : (v : Float) → is_some (to_fixed v) ≡ true → Small v
unfolding to_fixed
fixed_small nan h = absurd (let z : ◌≡◌ {A = ℕ} 0 1 = cc in omega arith)
fixed_small (inf s) h = absurd (let z : ◌≡◌ {A = ℕ} 0 1 = cc in omega arith)
fixed_small (fin s m e) h =
    small_part (small (m * up e) (down e) (down_pos e) (limited s (m * up e * 256 / down e) (not (eqb (m * up e * 256 % down e) 0)) h))

pub small_reaches : (v : Float) → Small v → reaches v ≡ true
unfolding reaches
small_reaches nan h = elim h [ ]
small_reaches (inf t) h = elim h [ ]
small_reaches (fin s m e) (small_part h) = lt-ltb (m * up e) (2 ^ 23 * down e) (omega (arith, down_pos e))

pub record BothSmall (p : Point) : Type 0 where
  pub x_small : Small p.x
  pub y_small : Small p.y

both_fixed : (f g : Option Fix) → passed (spot_from f g) ≡ true → (is_some f ≡ true) × (is_some g ≡ true)
unfolding spot_from
both_fixed (Some f) (Some g) h = (refl, refl)
both_fixed (Some f) None h = absurd (let z : ◌≡◌ {A = ℕ} 0 1 = cc in omega arith)
both_fixed None g h = absurd (let z : ◌≡◌ {A = ℕ} 0 1 = cc in omega arith)

pub spot_small : (p : Point) → passed (spot_of p) ≡ true → BothSmall p
unfolding spot_of
spot_small p h =
    let b = both_fixed (to_fixed p.x) (to_fixed p.y) h in
    record { x_small = fixed_small p.x b.0; y_small = fixed_small p.y b.1 }

pub within_small : (p : Point) → BothSmall p → within p ≡ true
within_small p b = rw (small_reaches p.x b.x_small, small_reaches p.y b.y_small)

-- ---- an accepted list
module _ (t : Transform) (o : Point) where
  -- small with the offset added
  abbrev Right : Float → Type 0
  Right v = Small (plus v o.x)

  abbrev Up : Float → Type 0
  Up v = Small (plus v o.y)

  abbrev Placed : Point → Type 0
  Placed p = Parts Right Up p

  spot_placed : (p : Point) → passed (spot_at t o p) ≡ true → Placed (moved t p)
  unfolding spot_at
  spot_placed p h = let b = spot_small (shifted o (moved t p)) h in record { x_has = b.x_small; y_has = b.y_small }

  all_placed : (ps : List Point) → all_pass t o ps ≡ true → Every Placed (map (moved t) ps)
  unfolding all_pass
  all_placed [] h = nil
  all_placed (p ∷ ps) h =
      let b = both_true (passed (spot_at t o p)) (all_pass t o ps) h in
      cons (spot_placed p b.0) (all_placed ps b.1)

  path_placed : {i : ℕ} {p : Option Command} {cs : List Command} → FineFrom t o i p cs → Every Placed (path_points t cs)
  unfolding path_points
  path_placed end = nil
  path_placed {i} {p} (more {c = c} v h) = every_append (all_placed (points_of c) (points_pass t o i (after_close p) c v)) (path_placed h)

  kept_lies : (b : Bounds) → Keeps Right Up b → Lies o b
  kept_lies b k = record {
    low = within_small (shifted o b.min) (record { x_small = k.low.x_has; y_small = k.low.y_has });
    high = within_small (shifted o b.max) (record { x_small = k.high.x_has; y_small = k.high.y_has });
  }

  begun_lies : (c : Command) (cs : List Command) → Begins t c cs → Every Placed (path_points t (c ∷ cs)) → Lies o (path_box t (c ∷ cs))
  unfolding path_box
  begun_lies c cs b h = kept_lies _ (rw b.points (box_keeps Right Up (moved t b.point) (path_points t cs) (rw b.points at h)))

  pub accepted_lies : (s : List ℕ) (c : Command) (cs : List Command) → read_list t o s ≡ path (c ∷ cs) → Lies o (path_box t (c ∷ cs))
  accepted_lies s c cs e = begun_lies c cs (begins t o s c cs e) (path_placed (all_fine t o s (c ∷ cs) e))
