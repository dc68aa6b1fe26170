-- Worked values of the rules, by computation.
use Rattle.std.specs.Prelude.{◌≡◌, ℕ, true, false, List, [], ◌∷◌, map, replicate, nat_eq, refl}
use Rattle.storage.specs.Deposits.{place_of, Deposit, given, cover_of, area_of, known, distinct, sum_of}
use Rattle.storage.specs.Cells.{next_in, back_in, links_of, link_at, with_pair, with_back, with_new, columns}
use Rattle.storage.specs.Answers.{is_at}

-- column −1 of row 0, the last place of the row, the first of the next, and column 4095 of row 4095
places :
    place_of 0 0 ∷ place_of 0 8191 ∷ place_of 1 0 ∷ place_of 4095 4096 ∷ []
    ≡ 0 ∷ 8191 ∷ 8192 ∷ 33550336 ∷ []
places = refl

-- row 0, place 1, is given two pairs; 4294967295 is −1
log : List Deposit
log = given 0 1 256 10 ∷ given 0 3 5 6 ∷ given 0 1 4294967295 4 ∷ given 1 1 7 8 ∷ []

-- three places for four pairs
three : distinct log ≡ 3
unfolding log distinct
three = refl

stored : map (known log) (place_of 0 1 ∷ place_of 1 1 ∷ place_of 1 3 ∷ []) ≡ true ∷ true ∷ false ∷ []
unfolding log known
stored = refl

-- 256 − 1 and 10 + 4; a place that nothing was given
covers : map (λ (p : ℕ). sum_of cover_of (nat_eq p) log) (place_of 0 1 ∷ place_of 1 1 ∷ place_of 1 3 ∷ []) ≡ 255 ∷ 7 ∷ 0 ∷ []
unfolding log sum_of
covers = refl

areas : map (λ (p : ℕ). sum_of area_of (nat_eq p) log) (place_of 0 1 ∷ place_of 1 1 ∷ place_of 1 3 ∷ []) ≡ 14 ∷ 8 ∷ 0 ∷ []
unfolding log sum_of
areas = refl

-- on to cell 3 and back to cell 5; both to the last cell of the largest pool
halves : next_in 327683 ∷ back_in 327683 ∷ links_of 3 5 ∷ links_of 16384 16384 ∷ [] ≡ 3 ∷ 5 ∷ 327683 ∷ 1073758208 ∷ []
halves = refl

-- two rows and three cells; in row 1 place 5 is stored, then place 3 before it and place 7 behind it
pool : List ℕ
pool =
    let first = with_new (replicate 14 0) 2 0 1 0 (place_of 1 5) 10 20 in
    let second = with_new first 2 1 1 0 (place_of 1 3) 30 40 in
    with_new second 2 2 1 1 (place_of 1 7) 50 60

-- row 1's head leads on to cell 2 and back to cell 3, cell 1 on to 3 and back to 2, cell 2 on to 1, cell 3 back to 1
words :
    pool
    ≡ 0 ∷ 196610
    ∷ 8197 ∷ 10 ∷ 20 ∷ 131075
    ∷ 8195 ∷ 30 ∷ 40 ∷ 1
    ∷ 8199 ∷ 50 ∷ 60 ∷ 65536 ∷ []
unfolding pool
words = refl

list : columns pool 2 3 (link_at pool 2 1 0) ≡ 3 ∷ 5 ∷ 7 ∷ []
unfolding pool columns
list = refl

-- cell 1 is that of place 5; cell 2 is not, and 0 is no cell
named : map (is_at pool 2 (place_of 1 5)) (1 ∷ 2 ∷ 0 ∷ []) ≡ true ∷ false ∷ false ∷ []
unfolding pool
named = refl

-- place 5 again: its sums grow, and the head leads back to it
again : with_back (with_pair pool 2 1 4294967295) 1 1 ≡ 0 ∷ 65538 ∷ 8197 ∷ 11 ∷ 19 ∷ 131075 ∷ 8195 ∷ 30 ∷ 40 ∷ 1 ∷ 8199 ∷ 50 ∷ 60 ∷ 65536 ∷ []
unfolding pool
again = refl
