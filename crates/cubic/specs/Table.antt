-- Worked values of the rules, by computation.
use Rattle.std.specs.Prelude.{◌≡◌, refl, [], ◌∷◌}
use Rattle.fixed.specs.Points.{above, below, at}
use Rattle.pen.specs.declared.Frame.{Frame}
use Rattle.cubic.specs.Cubics.{cubic_points, cubic_marks}

-- nearly straight: one line
one_line :
    cubic_points (at (above 0) (above 0)) (at (above 30) (above 10)) (at (above 70) (above 20)) (at (above 100) (above 30))
    ≡ at (above 100) (above 30)
    ∷ []
unfolding cubic_points
one_line = refl

-- 2p0 − 3p1 + p3 is 128 on the x axis: one line still
at_128 :
    cubic_points (at (above 0) (above 0)) (at (above 21) (above 0)) (at (above 0) (above 0)) (at (above 64) (above 0))
    ≡ at (above 64) (above 0)
    ∷ []
unfolding cubic_points
at_128 = refl

-- 129: two lines
at_129 :
    cubic_points (at (above 0) (above 0)) (at (above 22) (above 0)) (at (above 1) (above 0)) (at (above 66) (above 0))
    ≡ at (above 16) (above 0)
    ∷ at (above 66) (above 0)
    ∷ []
unfolding cubic_points
at_129 = refl

-- −129: two lines, and −135/8 is rounded down
at_minus_129 :
    cubic_points (at (above 0) (above 0)) (at (below 22) (above 0)) (at (below 1) (above 0)) (at (below 66) (above 0))
    ≡ at (below 17) (above 0)
    ∷ at (below 66) (above 0)
    ∷ []
unfolding cubic_points
at_minus_129 = refl

-- a quarter turn: two lines
two_lines :
    cubic_points (at (above 0) (above 0)) (at (above 0) (above 128)) (at (above 128) (above 256)) (at (above 256) (above 256))
    ≡ at (above 80) (above 176)
    ∷ at (above 256) (above 256)
    ∷ []
unfolding cubic_points
two_lines = refl

-- a loop: ten lines, not all by the same number of splits
ten_lines :
    cubic_points (at (below 1024) (below 512)) (at (above 1024) (above 2048)) (at (below 1024) (above 2048)) (at (above 1024) (below 512))
    ≡ at (below 686) (below 62)
    ∷ at (below 432) (above 328)
    ∷ at (below 128) (above 928)
    ∷ at (below 16) (above 1288)
    ∷ at (above 0) (above 1408)
    ∷ at (above 16) (above 1288)
    ∷ at (above 128) (above 928)
    ∷ at (above 432) (above 328)
    ∷ at (above 686) (below 62)
    ∷ at (above 1024) (below 512)
    ∷ []
unfolding cubic_points
ten_lines = refl

-- rows 0 to 8: with every point at row 8 or below, or every point above row 0, nothing is drawn
eight : Frame
eight = record { wide = 8200; first = 8192; end = 8200 }

past_the_end : cubic_marks eight (at (above 0) (above 2048)) (at (above 0) (above 4000)) (at (above 900) (above 2048)) (at (above 900) (above 3000)) ≡ []
unfolding eight cubic_marks
past_the_end = refl

before_the_first : cubic_marks eight (at (above 0) (below 1)) (at (above 0) (below 400)) (at (above 900) (below 1)) (at (above 900) (below 300)) ≡ []
unfolding eight cubic_marks
before_the_first = refl
