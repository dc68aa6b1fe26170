-- Worked values of a band of a log, by computation.
use Rattle.std.specs.Prelude.{◌≡◌, refl, [], ◌∷◌}
use Rattle.storage.specs.Deposits.{given}
use Rattle.claims.specs.Parts.{part, band}

-- row 1 of three: from its first place, which is the cell left of column 0, to its last; the rows beside it are dropped
pub one_row :
    band 1 2 (given 0 8191 1 2 ∷ given 1 0 3 4 ∷ given 1 8191 5 6 ∷ given 2 0 7 8 ∷ [])
    ≡ given 0 0 3 4 ∷ given 0 8191 5 6 ∷ []
unfolding part
one_row = refl
