-- docs/RULES.md, "From cells to a byte".
use Rattle.std.specs.Prelude.{ℕ, min, ◌%◌ as ◌%ℕ◌, ◌+◌ as ◌+ℕ◌, ◌-◌ as ◌-ℕ◌, ◌/◌ as ◌/ℕ◌, cond, ◌&&◌, List, [], ◌∷◌, ltb, ℤ, pos, nat_abs}
use Rattle.sweep.specs.declared.Fill.{Fill}
use Rattle.sweep.specs.declared.Fill.TheVariants.{NonZero, EvenOdd}
use Rattle.label.specs.declared.Label.{Label}
use Rattle.paper.specs.Numbers.{+0, +1, ◌+ᶻ◌, ◌-ᶻ◌, ◌·◌, ◌/ᶻ◌, ◌<ᶻ◌, ◌≤ᶻ◌, ◌==ᶻ◌, wrapped}
use Rattle.paper.specs.TurnedAway.{rows}
use Rattle.paper.specs.Cells.{Pair}

unfoldable pub cover_up_to : List Pair → ℤ → ℤ → ℤ  -- the cover of all that is stored in row y up to column x
cover_up_to [] y x = +0
cover_up_to (d ∷ ds) y x = cond (d.row ==ᶻ y && d.column ≤ᶻ x) d.cover +0 +ᶻ cover_up_to ds y x

unfoldable pub area_at : List Pair → ℤ → ℤ → ℤ  -- the area of what is stored in row y and column x
area_at [] y x = +0
area_at (d ∷ ds) y x = cond (d.row ==ᶻ y && d.column ==ᶻ x) d.area +0 +ᶻ area_at ds y x

abbrev pub value : List Pair → ℤ → ℤ → ℤ  -- v of a pixel, in 32 bits with a sign
value ds y x = wrapped (512 · cover_up_to ds y x -ᶻ area_at ds y x)

-- nonzero: −v − 1 for a v below 0, and 255 at most; even-odd: v's remainder by 512, folded back from 256 on
abbrev pub rule : Fill → ℤ → ℕ
rule NonZero v = min 255 (nat_abs (cond (v <ᶻ +0) (+0 -ᶻ v -ᶻ +1) v))
rule EvenOdd v = let r = nat_abs (v -ᶻ 512 · (v /ᶻ 512)) in cond (ltb r 256) r (511 -ℕ r)

unfoldable pub byte_of : Fill → ℤ → ℕ  -- v is first divided by 512, rounded down
byte_of f v = rule f (v /ᶻ 512)

-- the path row of a line of the mask: from the band's first row on, or back from its last when up
abbrev pub row_at : Label → ℕ → ℕ
row_at l line = cond l.up (l.end -ℕ 1 -ℕ line) (l.first +ℕ line)

abbrev pub byte_at : Label → List Pair → ℕ → ℕ → ℕ  -- the byte at i: one of `width` in a line of the band, or as it was
byte_at l ds i old =
    let line = i /ℕ l.pitch in
    let x = i %ℕ l.pitch in
    cond (ltb line (rows l) && ltb x l.width) (byte_of l.fill (value ds (pos (row_at l line)) (pos x))) old

unfoldable pub painted : Label → List Pair → ℕ → List ℕ → List ℕ  -- the mask from byte i on
painted l ds i [] = []
painted l ds i (b ∷ bs) = byte_at l ds i b ∷ painted l ds (i +ℕ 1) bs
