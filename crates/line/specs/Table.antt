-- The rules on lines of each kind, by computation; the values are the Rust's. Numbers are 256ths, from the label's corner.
use Rattle.std.specs.Prelude.{ℕ, ◌+◌, ◌≡◌, refl, List, [], ◌∷◌}
use Rattle.fixed.specs.Points.{above, below, at, point}
use Rattle.pen.specs.Marks.{Mark, enter, give}
use Rattle.line.specs.Lines.{ends, line_marks}
use Rattle.line.specs.Trail.{crossings}

abbrev into : ℕ → ℕ → Mark
into c r = enter (8192 + c) (8192 + r)

-- the marks of a line in a band that it meets
abbrev line : ℕ → ℕ → ℕ → ℕ → List Mark
line x1 y1 x2 y2 = line_marks (record { wide = 8196; first = 8192; end = 8195 }) (point x1 y1) (point x2 y2)

-- K4's slanted edge, (0,0) to (1,1), and the same back
k4 : line 0 0 256 256 ≡ give 255 65280 ∷ into 1 0 ∷ give 1 0 ∷ into 1 1 ∷ give 0 0 ∷ []
unfolding line_marks
k4 = refl

k4_back : line 256 256 0 0 ≡ give 0 0 ∷ into 0 1 ∷ give 0 0 ∷ into 0 0 ∷ give 4294967040 4294902016 ∷ []
unfolding line_marks
k4_back = refl

-- its two crossings: the right side at 255, then the corner
k4_crossings : crossings (ends (point 0 0) (point 256 256)) ≡ 255 ∷ 0 ∷ []
unfolding crossings
k4_crossings = refl

-- the other diagonal, both ways
across : line 256 0 0 256 ≡ give 0 0 ∷ into 0 0 ∷ give 256 65536 ∷ into 0 1 ∷ give 0 0 ∷ []
unfolding line_marks
across = refl

across_back : line 0 256 256 0 ≡ give 0 0 ∷ into 0 0 ∷ give 4294967040 4294901760 ∷ into 1 0 ∷ give 0 0 ∷ []
unfolding line_marks
across_back = refl

-- towards the other three corners
back : line 600 300 100 20
    ≡ give 4294967252 4294963028 ∷ into 2 0 ∷ give 4294967290 4294967242 ∷ into 1 0 ∷ give 4294967153 4294930688 ∷ into 0 0 ∷ give 4294967209 4294936324 ∷ []
unfolding line_marks
back = refl

up : line 600 20 100 300 ≡ give 49 4312 ∷ into 1 0 ∷ give 143 36608 ∷ into 0 0 ∷ give 44 19096 ∷ into 0 1 ∷ give 44 12232 ∷ []
unfolding line_marks
up = refl

down : line 100 300 600 20
    ≡ give 4294967252 4294955064 ∷ into 0 0 ∷ give 4294967252 4294948200 ∷ into 1 0 ∷ give 4294967153 4294930688 ∷ into 2 0 ∷ give 4294967247 4294962984 ∷ []
unfolding line_marks
down = refl

-- from column −2 into the label
from_left : line_marks (record { wide = 8196; first = 8192; end = 8195 }) (at (below 300) (above 10)) (point 20 200)
    ≡ give 26 12168 ∷ enter 8191 8192 ∷ give 152 38912 ∷ into 0 0 ∷ give 12 240 ∷ []
unfolding line_marks
from_left = refl

-- vertical, to the next rows and to the previous ones
vertical : line 100 20 100 600 ≡ give 236 47200 ∷ into 0 1 ∷ give 256 51200 ∷ into 0 2 ∷ give 88 17600 ∷ []
unfolding line_marks
vertical = refl

vertical_back : line 100 600 100 20 ≡ give 4294967208 4294949696 ∷ into 0 1 ∷ give 4294967040 4294916096 ∷ into 0 0 ∷ give 4294967060 4294920096 ∷ []
unfolding line_marks
vertical_back = refl

-- level: the end's cell is entered, no pair is given
level : line 0 100 700 100 ≡ into 2 0 ∷ []
unfolding line_marks
level = refl

-- within one cell
within : line 10 20 200 250 ≡ give 230 48300 ∷ []
unfolding line_marks
within = refl

within_level : line 10 20 200 20 ≡ give 0 0 ∷ []
unfolding line_marks
within_level = refl

-- both ends past the band, both before it, and one before with one past
past_end : line 0 768 600 900 ≡ []
unfolding line_marks
past_end = refl

before_first : line_marks (record { wide = 8196; first = 8194; end = 8195 }) (point 0 0) (point 600 511) ≡ []
unfolding line_marks
before_first = refl

over_the_band : line_marks (record { wide = 8196; first = 8193; end = 8194 }) (point 100 20) (point 100 600) ≡ line 100 20 100 600
unfolding line_marks
over_the_band = refl

-- 440 cells: the sum of their areas
abbrev areas : List Mark → ℕ
areas [] = 0
areas (enter c r ∷ ms) = areas ms
areas (give v a ∷ ms) = a + areas ms

long : areas (line 0 0 102400 10240) ≡ 2600960
unfolding line_marks
long = refl
