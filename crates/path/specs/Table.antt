-- Worked values, by computation: the strokes of a path under a transform and an offset, lists that are turned away, pools.
use Rattle.std.specs.Prelude.{ℕ, ◌≡◌, refl, List, [], ◌∷◌, ◌++◌, map}
use Rattle.std.specs.Float.Ieee.{of_bits}
use Rattle.geometry.specs.Affine.{identity_of, scale_of}
use Rattle.geometry.specs.Bits.{float, at}
use Rattle.fixed.specs.Points.{point}
use Rattle.command.specs.declared.Command.TheVariants.{MoveTo, LineTo, QuadTo, CurveTo, Close}
use Rattle.list.specs.Written.{move, line, close}
use Rattle.raster.specs.declared.Stroke.TheVariants as stroke
use Rattle.path.specs.declared.Refusal.TheVariants.{Cut, First, Outside, AfterClose}
use Rattle.path.specs.Reading.{refused, path, read_list}
use Rattle.path.specs.Strokes.{strokes_of}
use Rattle.path.specs.Pouring.{pool_of}

abbrev closed : List ℕ  -- MoveTo (0,0), Close
closed = move 0 0 ++ close

pub record Table : Type 0 where
  -- scaled by 2 and 3, offset (1,0.5): MoveTo (1,2), LineTo (3,4), QuadTo (0.5,1) (2,3),
  -- CurveTo (1,0.25) (2,0.5) (3,0.75), Close
  pub strokes :
      strokes_of (scale_of (float 0x4000_0000) (float 0x4040_0000)) (at 0x3f80_0000 0x3f00_0000)
      (MoveTo (at 0x3f80_0000 0x4000_0000)
      ∷ LineTo (at 0x4040_0000 0x4080_0000)
      ∷ QuadTo (at 0x3f00_0000 0x3f80_0000) (at 0x4000_0000 0x4040_0000)
      ∷ CurveTo (at 0x3f80_0000 0x3e80_0000) (at 0x4000_0000 0x3f00_0000) (at 0x4040_0000 0x3f40_0000)
      ∷ Close ∷ [])
      ≡ stroke.Move (point 768 1664)
      ∷ stroke.Line (point 1792 3200)
      ∷ stroke.Quad (point 512 896) (point 1280 2432)
      ∷ stroke.Cubic (point 768 320) (point 1280 512) (point 1792 704)
      ∷ stroke.Close ∷ []
  -- MoveTo (1,1) and a stray byte: the record of index 1 is cut
  pub cut : read_list identity_of (at 0 0) (move 0x3f80_0000 0x3f80_0000 ++ 0x0A ∷ []) ≡ refused Cut 1
  -- LineTo (1,1) first, and second
  pub line_first : read_list identity_of (at 0 0) (line 0x3f80_0000 0x3f80_0000) ≡ refused First 0
  pub line_second :
      read_list identity_of (at 0 0) (move 0x3f80_0000 0x3f80_0000 ++ line 0x3f80_0000 0x3f80_0000)
      ≡ path (MoveTo (at 0x3f80_0000 0x3f80_0000) ∷ LineTo (at 0x3f80_0000 0x3f80_0000) ∷ [])
  -- LineTo (1,1) directly after Close, after a second Close, and behind a MoveTo
  pub line_after_close : read_list identity_of (at 0 0) (closed ++ line 0x3f80_0000 0x3f80_0000) ≡ refused AfterClose 2
  pub line_after_closes :
      read_list identity_of (at 0 0) (closed ++ close ++ line 0x3f80_0000 0x3f80_0000) ≡ refused AfterClose 3
  pub line_behind_move :
      read_list identity_of (at 0 0) (closed ++ move 0 0 ++ line 0x3f80_0000 0x3f80_0000)
      ≡ path (MoveTo (at 0 0) ∷ Close ∷ MoveTo (at 0 0) ∷ LineTo (at 0x3f80_0000 0x3f80_0000) ∷ [])
  -- (4096,0) offset by (0.00390625,0) lies outside
  pub outside : read_list identity_of (at 0x3b80_0000 0) (move 0 0 ++ line 0x4580_0000 0) ≡ refused Outside 1
  -- the pool of three rows: 0, 3, 4, 7 and 8 words behind the rows' heads
  pub small : map (pool_of 3) (3 ∷ 6 ∷ 7 ∷ 10 ∷ 11 ∷ []) ≡ 0 ∷ 0 ∷ 1 ∷ 1 ∷ 2 ∷ []
  -- 65,535, 65,536 and 65,540
  pub most : map (pool_of 3) (65538 ∷ 65539 ∷ 65543 ∷ []) ≡ 16383 ∷ 16384 ∷ 16384 ∷ []

pub table : Table
unfolding strokes_of read_list of_bits
table = record {
  strokes = refl;
  cut = refl;
  line_first = refl;
  line_second = refl;
  line_after_close = refl;
  line_after_closes = refl;
  line_behind_move = refl;
  outside = refl;
  small = refl;
  most = refl;
}
