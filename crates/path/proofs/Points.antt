-- The points of a command: how they are ruled one after the other, and that their fixed points are within reach.
use Prim.Native.Nat.{ℕ, ◌+◌, ◌*◌, ◌≤◌}
use mathlib.Core.Path.{◌≡◌, refl, sym, ap}
use mathlib.Core.Bool.{Bool, true, false, cond, ◌&&◌}
use mathlib.Core.List.{List, [], ◌∷◌, ◌++◌}
use native.Mathlib.Omega.{arith}
use lib.Dec.{lit≤}
use lib.ListN.{length}
use Rattle.geometry.specs.declared.Point.{Point}
use Rattle.geometry.specs.declared.Transform.{Transform}
use Rattle.std.specs.Prelude.{None, Some}
use Rattle.fixed.specs.declared.Spot.{Spot}
use Rattle.fixed.specs.Fixed.{cut_parts}
use Rattle.fixed.proofs.Cuts.{spot_cuts, two_parts}
use Rattle.fixed.proofs.Range.{spot_within}
use Rattle.line.specs.Range.{Reach}
use Rattle.command.specs.declared.Command.{Command}
use Rattle.command.specs.declared.Command.TheVariants.{MoveTo, LineTo, QuadTo, CurveTo, Close}
use Rattle.command.specs.Commands.{points_of}
use Rattle.raster.specs.Path.{corner}
use Rattle.std.specs.Prelude.{Result, Ok, Err}
use Rattle.path.specs.declared.Refusal.{Refusal}
use Rattle.path.specs.declared.Refusal.TheVariants.{Outside}
use Rattle.path.specs.Reading.{place_of, spot_at, passed, all_pass, cuts_at, ruled, points_ruled, both_ruled, Few}
use Rattle.path.specs.Strokes.{fixed_at}

module _ (t : Transform) (o : Point) where
  -- ---- one list of points behind another
  before_both : (a b c : Bool) → (a && (b && c)) ≡ ((a && b) && c)
  before_both true b c = refl
  before_both false b c = refl

  all_pass_is : (ps qs : List Point) → all_pass t o (ps ++ qs) ≡ (all_pass t o ps && all_pass t o qs)
  unfolding all_pass
  all_pass_is [] qs = refl
  all_pass_is (p ∷ ps) qs = rw (all_pass_is ps qs) (before_both (passed (spot_at t o p)) (all_pass t o ps) (all_pass t o qs))

  all_cuts : (ps qs : List Point) → cuts_at t o (ps ++ qs) ≡ cuts_at t o ps + cuts_at t o qs
  unfolding cuts_at
  all_cuts [] qs = omega arith
  all_cuts (p ∷ ps) qs = omega (arith, all_cuts ps qs)

  -- they are ruled one after the other
  pub both_points : (ps qs : List Point) → both_ruled (points_ruled t o ps) (points_ruled t o qs) ≡ points_ruled t o (ps ++ qs)
  both_points ps qs = rw (all_pass_is ps qs, all_cuts ps qs) (go (all_pass t o ps) (all_pass t o qs))
    where
      m : ℕ
      m = cuts_at t o ps

      n : ℕ
      n = cuts_at t o qs

      go : (a b : Bool) → both_ruled (ruled (cond a (Ok tt) (Err Outside)) m) (ruled (cond b (Ok tt) (Err Outside)) n) ≡ ruled (cond (a && b) (Ok tt) (Err Outside)) (m + n)
      go true true = refl
      go true false = refl
      go false b = refl

  -- so what is told of each, or of the first alone where that is refused, is what is told of all
  pub both_told : (ps qs : List Point) (a b : Result ℕ Refusal) → points_ruled t o ps ≡ a → points_ruled t o qs ≡ b → both_ruled a b ≡ points_ruled t o (ps ++ qs)
  both_told ps qs a b p q = rw (sym p, sym q) (both_points ps qs)

  -- each has two coordinates
  cuts_few : (ps : List Point) → cuts_at t o ps ≤ 2 * length ps
  unfolding cuts_at
  cuts_few [] = omega arith
  cuts_few (p ∷ ps) = omega (arith, two_parts (place_of t o p), cuts_few ps)

  pub few_points : (ps : List Point) → length ps ≤ 3 → Few (points_ruled t o ps)
  few_points ps h = go (all_pass t o ps)
    where
      go : (b : Bool) → Few (ruled (cond b (Ok tt) (Err Outside)) (cuts_at t o ps))
      go true = omega (arith, cuts_few ps)
      go false = tt

  -- so the parts of a record can be added
  pub few_told : (ps qs : List Point) (m n : ℕ) → length ps ≤ 3 → length qs ≤ 3 → points_ruled t o ps ≡ Ok m → points_ruled t o qs ≡ Ok n → m + n ≤ 12
  few_told ps qs m n h k p q =
      let f : m ≤ 6 = rw p at (few_points ps h) in
      let g : n ≤ 6 = rw q at (few_points qs k) in
      omega (arith, f, g)

  -- and so has every command few that are cut
  pub few_cuts : (k : Command) → cuts_at t o (points_of k) ≤ 6
  few_cuts (MoveTo p) = omega (arith, cuts_few (p ∷ []))
  few_cuts (LineTo p) = omega (arith, cuts_few (p ∷ []))
  few_cuts (QuadTo c p) = omega (arith, cuts_few (c ∷ p ∷ []))
  few_cuts (CurveTo c d p) = omega (arith, cuts_few (c ∷ d ∷ p ∷ []))
  few_cuts Close = omega (arith, cuts_few [])

  -- ---- no point, and one
  pub no_points : Ok 0 ≡ points_ruled t o []
  unfolding all_pass cuts_at
  no_points = refl

  pub point_passes : (p : Point) (s : Spot) → spot_at t o p ≡ Some s → Ok s.cuts ≡ points_ruled t o (p ∷ [])
  unfolding all_pass cuts_at
  point_passes p s e =
      let c : s.cuts ≡ cut_parts (place_of t o p) = unfold spot_at in spot_cuts (place_of t o p) s.point s.cuts e in
      let z : s.cuts ≡ cut_parts (place_of t o p) + 0 = omega arith in
      rw e (ap Ok z)

  pub point_strays : (p : Point) → spot_at t o p ≡ None → Err Outside ≡ points_ruled t o (p ∷ [])
  unfolding all_pass
  point_strays p e = rw e

-- ---- within reach
pub corner_near : Reach corner
corner_near = record { x_low = lit≤ tt; x_high = lit≤ tt; y_low = lit≤ tt; y_high = lit≤ tt }

pub spot_near : (t : Transform) (o p : Point) (s : Spot) → spot_at t o p ≡ Some s → Reach s.point
unfolding spot_at
spot_near t o p s e =
    let w = spot_within (place_of t o p) s.point s.cuts e in
    record {
      x_low = omega (arith, w.x_in.low);
      x_high = omega (arith, w.x_in.high);
      y_low = omega (arith, w.y_in.low);
      y_high = omega (arith, w.y_in.high);
    }

pub fixed_in : (t : Transform) (o p : Point) (s : Spot) → spot_at t o p ≡ Some s → s.point ≡ fixed_at t o p
unfolding fixed_at
fixed_in t o p s e = rw e

pub fixed_out : (t : Transform) (o p : Point) → spot_at t o p ≡ None → corner ≡ fixed_at t o p
unfolding fixed_at
fixed_out t o p e = rw e
