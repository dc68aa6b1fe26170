-- docs/RULES.md, "When a label is turned away": checks 6 and 7.
use Rattle.std.specs.Prelude.{ℕ, Bool, not, cond, ◌&&◌, ltb, ⊤, Result, Ok, Err}
use Rattle.std.specs.Float.Ieee.Scale.{finite}
use Rattle.geometry.specs.declared.Point.{Point}
use Rattle.geometry.specs.declared.Transform.{Transform}
use Rattle.path.specs.declared.Refusal.{Refusal}
use Rattle.path.specs.declared.Refusal.TheVariants.{NotFinite, Long}

-- the longest list, in bytes
abbrev pub most_bytes : ℕ
most_bytes = 65536

abbrev pub finite_point : Point → Bool
finite_point p = finite p.x && finite p.y

abbrev pub finite_transform : Transform → Bool
finite_transform t = finite t.xx && finite t.xy && finite t.yx && finite t.yy && finite t.x && finite t.y

-- 6, a number of the transform or of the offset is not finite; 7, the list has more than 65,536 bytes
unfoldable pub inputs_of : Transform → Point → ℕ → Result ⊤ Refusal
inputs_of t o list =
    cond (not (finite_transform t && finite_point o)) (Err NotFinite)
    (cond (ltb most_bytes list) (Err Long)
    (Ok tt))
