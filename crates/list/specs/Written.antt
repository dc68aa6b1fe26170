-- For worked values: records as their bytes, by the bits of their coordinates.
use Rattle.std.specs.Prelude.{ℕ, ◌/◌, ◌%◌, List, [], ◌∷◌, ◌++◌}

abbrev pub four : ℕ → List ℕ
four w = w % 256 ∷ w / 0x100 % 256 ∷ w / 0x1_0000 % 256 ∷ w / 0x100_0000 ∷ []

abbrev pub move : ℕ → ℕ → List ℕ
move x y = 0x0A ∷ 0x00 ∷ 0x01 ∷ 0x00 ∷ four x ++ four y

abbrev pub line : ℕ → ℕ → List ℕ
line x y = 0x0A ∷ 0x00 ∷ 0x02 ∷ 0x00 ∷ four x ++ four y

abbrev pub quad : ℕ → ℕ → ℕ → ℕ → List ℕ
quad a b x y = 0x12 ∷ 0x00 ∷ 0x03 ∷ 0x00 ∷ four a ++ four b ++ four x ++ four y

abbrev pub curve : ℕ → ℕ → ℕ → ℕ → ℕ → ℕ → List ℕ
curve a b c d x y = 0x1A ∷ 0x00 ∷ 0x04 ∷ 0x00 ∷ four a ++ four b ++ four c ++ four d ++ four x ++ four y

abbrev pub close : List ℕ
close = 0x02 ∷ 0x00 ∷ 0x05 ∷ 0x00 ∷ []
