-- docs/RULES.md, "From floats to 24.8 numbers": points, the point rule, cells, transforms.
use Rattle.std.specs.Prelude.{ℕ, ◌+◌ as ◌+ℕ◌, ◌*◌ as ◌*ℕ◌, ◌/◌ as ◌/ℕ◌, ◌%◌ as ◌%ℕ◌, Bool, false, not, cond, ◌&&◌, List, [], ◌∷◌, ◌++◌, map, leb, eqb, ℤ, pos, neg_ℤ, nat_abs, Float}
use Rattle.std.specs.Float.{nan, inf, fin, binary32}
use Rattle.std.specs.Float.Ieee.{of_bits, add, mul, up, down}
use Rattle.std.specs.Float.Ieee.Scale.{finite}
use Rattle.geometry.specs.declared.Point.{Point}
use Rattle.geometry.specs.declared.Transform.{Transform}
use Rattle.command.specs.declared.Command.{Command}
use Rattle.paper.specs.Numbers.{◌-ᶻ◌, ◌·◌, ◌/ᶻ◌, +0}
use Rattle.paper.specs.PathList.{points_of}

-- a sum and a product of binary32 floats, each rounded once, to the nearest, ties to even
infixl 65 ◌⊕◌
abbrev pub ◌⊕◌ : Float → Float → Float
a ⊕ b = add binary32 a b

infixl 70 ◌⊗◌
abbrev pub ◌⊗◌ : Float → Float → Float
a ⊗ b = mul binary32 a b

abbrev pub moved : Transform → Point → Point  -- a point under a transform
moved t p = record {
  x = (p.x ⊗ t.xx ⊕ p.y ⊗ t.yx) ⊕ t.x;
  y = (p.x ⊗ t.xy ⊕ p.y ⊗ t.yy) ⊕ t.y;
}

abbrev pub moved_vector : Transform → Point → Point  -- a vector, which the last two entries leave alone
moved_vector t p = record { x = p.x ⊗ t.xx ⊕ p.y ⊗ t.yx; y = p.x ⊗ t.xy ⊕ p.y ⊗ t.yy }

abbrev pub shifted : Point → Point → Point  -- a point with the offset added
shifted o p = record { x = p.x ⊕ o.x; y = p.y ⊕ o.y }

unfoldable pub points_in : Transform → List Command → List Point  -- every transformed point, control points too
points_in t [] = []
points_in t (c ∷ cs) = map (moved t) (points_of c) ++ points_in t cs

-- 256 times a float, cut toward zero. A finite float is m · 2^e, or −m · 2^e if its sign is set; 2^e is up e / down e
unfoldable pub fixed_of : Float → ℤ
fixed_of nan = +0
fixed_of (inf sign) = +0
fixed_of (fin sign m e) = let n = pos (m *ℕ up e *ℕ 256 /ℕ down e) in cond sign (neg_ℤ n) n

abbrev pub is_cut : Float → Bool  -- something is cut off: 256 times the float is not whole
is_cut nan = false
is_cut (inf sign) = false
is_cut (fin sign m e) = not (eqb (m *ℕ up e *ℕ 256 %ℕ down e) 0)

unfoldable pub cut_of : List Point → ℕ  -- how many coordinates of these points are cut, x and y apart
cut_of [] = 0
cut_of (p ∷ ps) = cond (is_cut p.x) 1 0 +ℕ cond (is_cut p.y) 1 0 +ℕ cut_of ps

abbrev pub cut_in : Transform → Point → List Command → ℕ  -- of all points of a path, where the offset is added
cut_in t o cs = cut_of (map (shifted o) (points_in t cs))

pub record Spot : Type 0 where  -- a point in 24.8 numbers: whole numbers of 256ths
  pub x : ℤ
  pub y : ℤ

abbrev pub limit : ℕ  -- how far from zero a part of a point may lie, in 256ths of a pixel: 4,096 pixels
limit = 1048576

abbrev pub near : Float → Bool  -- finite, and within the limit when it is cut
near v = finite v && leb (nat_abs (fixed_of v)) limit

abbrev pub passes : Point → Bool  -- the point rule: both parts are near
passes p = near p.x && near p.y

abbrev pub cell : ℤ → ℤ  -- the column or row in which a 24.8 number lies
cell z = z /ᶻ 256

abbrev pub fraction : ℤ → ℤ  -- how far in, from 0 to 255
fraction z = z -ᶻ 256 · cell z

abbrev pub zero : Float
zero = of_bits binary32 0

abbrev pub one : Float
one = of_bits binary32 0x3f80_0000

abbrev pub scale : Float → Float → Transform
scale a b = record { xx = a; xy = zero; yx = zero; yy = b; x = zero; y = zero }

abbrev pub translation : Float → Float → Transform
translation a b = record { xx = one; xy = zero; yx = zero; yy = one; x = a; y = b }

abbrev pub identity : Transform
identity = scale one one

abbrev pub combine : Transform → Transform → Transform  -- a followed by b; what is scaled is combined with a scale
combine a b = record {
  xx = a.xx ⊗ b.xx ⊕ a.xy ⊗ b.yx;
  xy = a.xx ⊗ b.xy ⊕ a.xy ⊗ b.yy;
  yx = a.yx ⊗ b.xx ⊕ a.yy ⊗ b.yx;
  yy = a.yx ⊗ b.xy ⊕ a.yy ⊗ b.yy;
  x = a.x ⊗ b.xx ⊕ a.y ⊗ b.yx ⊕ b.x;
  y = a.x ⊗ b.xy ⊕ a.y ⊗ b.yy ⊕ b.y;
}

abbrev pub then_translate : Transform → Float → Float → Transform  -- a move behind a transform only adds to x and y
then_translate t a b = record { xx = t.xx; xy = t.xy; yx = t.yx; yy = t.yy; x = t.x ⊕ a; y = t.y ⊕ b }
