-- Worked quads, by computation.
use Rattle.std.specs.Prelude.{◌≡◌, refl, [], ◌∷◌, length}
use Rattle.fixed.specs.Points.{above, below, at}
use Rattle.pen.specs.declared.Frame.{Frame}
use Rattle.line.specs.Lines.{along}
use Rattle.quad.specs.Quads.{quad_points, quad_marks}

-- the number is 64: one line
pub one_line :
    quad_points (at (above 0) (above 0)) (at (above 128) (above 32)) (at (above 256) (above 0))
    ≡ at (above 256) (above 0)
    ∷ []
unfolding quad_points
one_line = refl

-- it is 65: two lines
pub two_lines :
    quad_points (at (above 0) (above 1)) (at (above 128) (above 33)) (at (above 256) (above 0))
    ≡ at (above 128) (above 16)
    ∷ at (above 256) (above 0)
    ∷ []
unfolding quad_points
two_lines = refl

-- 2045, then 511, 127 and 31: eight lines
pub eight_lines :
    quad_points (at (above 0) (above 3)) (at (above 517) (above 1021)) (at (above 1000) (below 6))
    ≡ at (above 128) (above 225)
    ∷ at (above 256) (above 384)
    ∷ at (above 382) (above 478)
    ∷ at (above 508) (above 509)
    ∷ at (above 632) (above 476)
    ∷ at (above 756) (above 379)
    ∷ at (above 878) (above 218)
    ∷ at (above 1000) (below 6)
    ∷ []
unfolding quad_points
eight_lines = refl

-- 2860, then 715, 178 and 44: eight lines; points round down left of 0 and above it too
pub eight_more :
    quad_points (at (below 300) (above 5)) (at (above 10) (below 777)) (at (above 900) (above 1301))
    ≡ at (below 214) (below 147)
    ∷ at (below 109) (below 208)
    ∷ at (above 14) (below 180)
    ∷ at (above 155) (below 62)
    ∷ at (above 314) (above 144)
    ∷ at (above 491) (above 440)
    ∷ at (above 686) (above 825)
    ∷ at (above 900) (above 1301)
    ∷ []
unfolding quad_points
eight_more = refl

-- as far as a quad can bend within reach: 256 lines
pub most_lines : length (quad_points (at (below 1048576) (above 0)) (at (above 1048576) (above 0)) (at (below 1048576) (above 0))) ≡ 256
unfolding quad_points
most_lines = refl

-- ---- in a band of the rows 1 and 2
abbrev band : Frame
band = record { wide = 8196; first = 8193; end = 8195 }

-- every point past its end, and every point before it: no marks
pub all_below : quad_marks band (at (above 0) (above 768)) (at (above 300) (above 1500)) (at (above 600) (above 800)) ≡ []
unfolding quad_marks
all_below = refl

pub all_before : quad_marks band (at (above 0) (above 255)) (at (above 300) (below 700)) (at (above 600) (above 0)) ≡ []
unfolding quad_marks
all_before = refl

-- the control point alone on the other side, or in the band: the lines are drawn
pub control_before : quad_marks band (at (above 0) (above 768)) (at (above 300) (below 1)) (at (above 600) (above 800))
    ≡ along band (at (above 0) (above 768)) (quad_points (at (above 0) (above 768)) (at (above 300) (below 1)) (at (above 600) (above 800)))
unfolding quad_marks
control_before = refl

pub control_inside : quad_marks band (at (above 0) (above 255)) (at (above 300) (above 256)) (at (above 600) (above 0))
    ≡ along band (at (above 0) (above 255)) (quad_points (at (above 0) (above 255)) (at (above 300) (above 256)) (at (above 600) (above 0)))
unfolding quad_marks
control_inside = refl
