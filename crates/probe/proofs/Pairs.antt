-- Points read off a list of numbers, two at a time.
use Prim.Native.Nat.{◌≤◌, ◌<◌}
use mathlib.Core.Path.{◌≡◌, refl}
use mathlib.Core.List.{List, [], ◌∷◌, ◌++◌}
use native.Mathlib.Omega.{arith}
use lib.ListN.{length, get_or, drop}
use lib.Ieee.{Float}
use Rattle.float.specs.Cut.{zero_f}
use Rattle.geometry.specs.declared.Bounds.{Bounds}
use Rattle.geometry.specs.Affine.{point_of}
use Rattle.geometry.specs.Box.{box_at, around, box_from, box_of}
use Rattle.probe.specs.Probes.{pairs_of}

pairs_short : (ps : List Float) → length ps < 2 → pairs_of ps ≡ []
unfolding pairs_of
pairs_short [] h = refl
pairs_short (x ∷ []) h = refl
pairs_short (x ∷ (y ∷ zs)) h = absurd (omega arith)

pub none : (ps : List Float) → length ps < 2 → box_at (point_of zero_f zero_f) ≡ box_of (pairs_of ps)
unfolding box_of
none ps h = rw (pairs_short ps h)

-- the two numbers of a pair come before those of the pairs behind it
two : (x zs : List Float) (d : Float) → length x ≡ 2 → pairs_of (x ++ zs) ≡ point_of (get_or x 0 d) (get_or x 1 d) ∷ pairs_of zs
unfolding pairs_of
two [] zs d h = absurd (omega arith)
two (a ∷ []) zs d h = absurd (omega arith)
two (a ∷ (b ∷ [])) zs d h = refl
two (a ∷ (b ∷ (c ∷ x))) zs d h = absurd (omega arith)

-- the box so far, and the numbers that are left
pub record Going (ps : List Float) (b : Bounds) (rest : List Float) : Type 0 where
  pub same : box_from b (pairs_of rest) ≡ box_of (pairs_of ps)

pub started : (ps : List Float) (d : Float) (b : Bounds) → 2 ≤ length ps → b ≡ box_at (point_of (get_or ps 0 d) (get_or ps 1 d)) → Going ps b (drop 2 ps)
unfolding box_of pairs_of
started [] d b h e = absurd (omega arith)
started (x ∷ []) d b h e = absurd (omega arith)
started (x ∷ (y ∷ zs)) d b h e = record { same = rw e }

module _ (ps : List Float) (d : Float) {b : Bounds} {rest : List Float} (g : Going ps b rest) where
  pub goes_on : (b' : Bounds) (x zs : List Float) → length x ≡ 2 → rest ≡ x ++ zs → b' ≡ around b (point_of (get_or x 0 d) (get_or x 1 d)) → Going ps b' zs
  unfolding box_from
  goes_on b' x zs h e f = record { same = rw f (rw (e, two x zs d h) at g.same) }

  pub done : length rest < 2 → b ≡ box_of (pairs_of ps)
  unfolding box_from
  done h = rw (pairs_short rest h) at g.same
