-- The coordinates that are cut: by the paper they are as many as by the rules to which the code is proved, and there are none exactly where every
-- coordinate, times 256, is whole.
use Prim.Native.Nat.{ℕ, zero, suc, ◌+◌, ◌*◌, ◌/◌, ◌%◌, ◌<◌}
use mathlib.Core.Path.{◌≡◌, refl, ap, ◌∙◌}
use mathlib.Core.Bool.{Bool, true, false, not, cond}
use mathlib.Core.List.{List, [], ◌∷◌, ◌++◌, map, map-append}
use mathlib.Core.Logic.{◌↔◌}
use native.Mathlib.Omega.{arith}
use native.Mathlib.Nat.{div-add-mod', mul-mod_left}
use borrow.Author.Tests.{eqb-true, not-false, eq-eqb}
use lib.Dec.{eqb}
use lib.ListN.{length, get_or}
use lib.Ieee.{Float, nan, inf, fin, up, down}
use Rattle.geometry.specs.declared.Point.{Point}
use Rattle.geometry.specs.declared.Transform.{Transform}
use Rattle.command.specs.declared.Command.{Command}
use Rattle.fixed.specs.Fixed as fixed
use Rattle.line.proofs.Tests.{both_true}
use Rattle.path.specs.Reading as reading
use Rattle.paper.specs.PathList.{points_of}
use Rattle.paper.specs.Floats.{moved, shifted, points_in, is_cut, cut_of, cut_in, near, passes}
use Rattle.paper.specs.TurnedAway.{all_pass}
use Rattle.paper.specs.Placing.{origin}
use Rattle.paper.specs.Demands.{OnGrid}
use Rattle.paper.proofs.Reading.{points_of_is}
use Rattle.paper.proofs.Marks.{AllPassed}

-- ---- by either rule
one_cut : (v : Float) → is_cut v ≡ fixed.is_cut v
one_cut nan = refl
one_cut (inf s) = refl
one_cut (fin s m e) = refl

cut_append : (ps qs : List Point) → cut_of (ps ++ qs) ≡ cut_of ps + cut_of qs
unfolding cut_of
cut_append [] qs = omega arith
cut_append (p ∷ ps) qs = omega (arith, cut_append ps qs)

module _ (t : Transform) (o : Point) where
  cut_points : (ps : List Point) → cut_of (map (shifted o) (map (moved t) ps)) ≡ reading.cuts_at t o ps
  unfolding cut_of reading.cuts_at
  cut_points [] = refl
  cut_points (p ∷ ps) =
      let q = shifted o (moved t p) in
      rw (one_cut q.x, one_cut q.y, cut_points ps)

  -- OF EVERY PATH
  pub cut_held : (cs : List Command) → cut_in t o cs ≡ reading.cuts_in t o cs
  unfolding points_in cut_of reading.cuts_in
  cut_held [] = refl
  cut_held (c ∷ cs) =
      ap cut_of (map-append (shifted o) (map (moved t) (points_of c)) (points_in t cs))
      ∙ cut_append (map (shifted o) (map (moved t) (points_of c))) (map (shifted o) (points_in t cs))
      ∙ rw (cut_points (points_of c), cut_held cs, points_of_is c)

-- ---- a coordinate that passes the point rule
whole_rest : (a d : ℕ) → not (eqb (a % d) 0) ≡ false ↔ (n : ℕ) × (a ≡ n * d)
whole_rest a d = (
  λ h.
      let z : a % d ≡ 0 = eqb-true (a % d) 0 (not-false (eqb (a % d) 0) h) in
      (a / d, omega (arith, div-add-mod' a d)),
  λ h.
      let z : a % d ≡ 0 = ap (λ (k : ℕ). k % d) h.1 ∙ mul-mod_left h.0 d in
      rw (eq-eqb (a % d) 0 z),
)

on_grid : (v : Float) → near v ≡ true → is_cut v ≡ false ↔ OnGrid v
unfolding OnGrid
on_grid nan h = absurd (let z : ◌≡◌ {A = ℕ} 0 1 = cc in omega arith)
on_grid (inf s) h = absurd (let z : ◌≡◌ {A = ℕ} 0 1 = cc in omega arith)
on_grid (fin s m e) h = whole_rest (m * up e * 256) (down e)

-- both coordinates of a point
abbrev Grid : Point → Type 0
Grid p = OnGrid p.x × OnGrid p.y

none : (b : Bool) → cond {A = ℕ} b 1 0 ≡ 0 → b ≡ false
none true e = absurd (omega arith)
none false e = refl

point_on_grid : (p : Point) (n : ℕ) → passes p ≡ true → cond (is_cut p.x) 1 0 + cond (is_cut p.y) 1 0 + n ≡ 0 ↔ Grid p × (n ≡ 0)
point_on_grid p n h =
    let k = both_true (near p.x) (near p.y) h in
    let x = on_grid p.x k.0 in
    let y = on_grid p.y k.1 in (
      λ e. ((x.0 (none _ (omega arith)), y.0 (none _ (omega arith))), omega arith),
      λ g. rw (x.1 g.0.0, y.1 g.0.1) (omega (arith, g.1)),
    )

-- ---- points that all pass
module _ (o : Point) where
  abbrev AllNear : List Point → Type 0
  AllNear [] = Unit {0}
  AllNear (p ∷ ps) = (passes (shifted o p) ≡ true) × AllNear ps

  abbrev AllOnGrid : List Point → Type 0
  AllOnGrid ps = (i : ℕ) → i < length ps → Grid (shifted o (get_or ps i origin))

  points_on_grid : (ps : List Point) → AllNear ps → cut_of (map (shifted o) ps) ≡ 0 ↔ AllOnGrid ps
  unfolding cut_of
  points_on_grid [] h = (λ e i q. absurd (omega arith), λ g. refl)
  points_on_grid (p ∷ ps) h =
      let one = point_on_grid (shifted o p) (cut_of (map (shifted o) ps)) h.0 in
      let rest = points_on_grid ps h.1 in
      (λ e. first (one.0 e).0 (rest.0 (one.0 e).1), λ g. one.1 (g 0 (omega arith), rest.1 (λ i q. g (suc i) (omega arith))))
    where
      first : Grid (shifted o p) → AllOnGrid ps → AllOnGrid (p ∷ ps)
      first a b zero q = a
      first a b (suc i) q = b i (omega arith)

module _ (t : Transform) (o : Point) where
  near_points : (ps qs : List Point) → all_pass t o ps ≡ true → AllNear o qs → AllNear o (map (moved t) ps ++ qs)
  unfolding all_pass
  near_points [] qs e h = h
  near_points (p ∷ ps) qs e h = let k = both_true (passes (shifted o (moved t p))) (all_pass t o ps) e in (k.0, near_points ps qs k.1 h)

  near_path : (cs : List Command) → AllPassed t o cs → AllNear o (points_in t cs)
  unfolding points_in
  near_path [] h = tt
  near_path (c ∷ cs) h = near_points (points_of c) (points_in t cs) h.0 (near_path cs h.1)

  -- OF EVERY PATH WHOSE POINTS PASS
  pub uncut : (cs : List Command) → AllPassed t o cs → cut_in t o cs ≡ 0 ↔ AllOnGrid o (points_in t cs)
  uncut cs h = points_on_grid o (points_in t cs) (near_path cs h)
