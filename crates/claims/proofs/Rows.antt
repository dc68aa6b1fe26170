-- A band's log is the whole's, with the other rows dropped and its own counted from its first; so a band's pixel is the whole's.
use Prim.Native.Nat.{ℕ, ◌+◌, ◌-◌, ◌*◌, ◌%◌, ◌^◌, ◌≤◌, ◌<◌}
use mathlib.Core.Path.{◌≡◌, refl, sym, ap, ◌∙◌}
use mathlib.Core.Bool.{Bool, true, false, ◌&&◌, false≢true}
use mathlib.Core.List.{List, [], ◌∷◌}
use native.Mathlib.Omega.{arith}
use lib.Dec.{eqb, leb, ltb}
use borrow.Author.Tests.{leb-true, ltb-true, le-leb, lt-ltb, eqb-true, eq-eqb, ne_eqb}
use Rattle.storage.specs.Deposits.{per_row, Deposit, cover_of, area_of}
use Rattle.storage.specs.Laws.{sum_total}
use Rattle.pen.specs.declared.Frame.{Frame}
use Rattle.pen.specs.Marks.{Pair, inside, placed, seen}
use Rattle.sweep.specs.declared.Fill.{Fill}
use Rattle.sweep.specs.Pixels.{byte_of, signed, cover_up_to, area_at, pixel}
use Rattle.label.specs.Checks.{most_pixels}
use Rattle.claims.specs.Parts.{from, band, frame}
use Rattle.line.proofs.Tests.{both_true}
use Rattle.claims.proofs.Parts.{same_test, Among, among_is, among_not, part_in, part_out, part_none, total_part}

-- ---- what is seen
-- a pair in the columns and rows of the band [first, end)
record Inside (width first end : ℕ) (d : Pair) : Type 0 where
  right : d.col < 8192 + width
  above : 8192 + first ≤ d.row
  below : d.row < 8192 + end

module _ (width first end : ℕ) (d : Pair) where
  is_inside : inside (frame width first end) d ≡ true → Inside width first end d
  is_inside e =
      let a = both_true (ltb d.col (8192 + width) && leb (8192 + first) d.row) (ltb d.row (8192 + end)) e in
      let b = both_true (ltb d.col (8192 + width)) (leb (8192 + first) d.row) a.0 in
      record { right = ltb-true _ _ b.0; above = leb-true _ _ b.1; below = ltb-true _ _ a.1 }

  inside_is : Inside width first end d → inside (frame width first end) d ≡ true
  inside_is h = rw (lt-ltb _ _ h.right, le-leb _ _ h.above, lt-ltb _ _ h.below)

seen_none : (f : Frame) → seen f [] ≡ []
unfolding seen
seen_none f = refl

module _ (f : Frame) (d : Pair) (ds : List Pair) where
  seen_in : inside f d ≡ true → seen f (d ∷ ds) ≡ placed f d ∷ seen f ds
  unfolding seen
  seen_in e = rw e

  seen_out : inside f d ≡ false → seen f (d ∷ ds) ≡ seen f ds
  unfolding seen
  seen_out e = rw e

module _ (width first end height : ℕ) (narrow : width ≤ most_pixels) (low : end ≤ height) where
  abbrev whole : Frame
  whole = frame width 0 height

  abbrev own : Frame
  own = frame width first end

  -- a place of the whole is in the band's rows exactly where the pair is
  place_in : (d : Pair) → Inside width first end d → Among (per_row * first) (per_row * end) (placed whole d).place
  place_in d h = record { low = omega arith; high = omega arith }

  place_back : (d : Pair) → Inside width 0 height d → Among (per_row * first) (per_row * end) (placed whole d).place → Inside width first end d
  place_back d h g = record { right = h.right; above = omega (arith, g.low, g.high); below = omega (arith, g.low, g.high) }

  place_from : (d : Pair) → Inside width first end d → (placed own d).place ≡ (placed whole d).place - per_row * first
  place_from d h = omega arith

  placed_from : (d : Pair) → Inside width first end d → placed own d ≡ from (per_row * first) (placed whole d)
  placed_from d h = ap (λ (p : ℕ). record { place = p; cover = d.cover; area = d.area }) (place_from d h)

  pub seen_band : (ds : List Pair) → seen (frame width first end) ds ≡ band first end (seen (frame width 0 height) ds)
  seen_band [] = rw (seen_none whole, part_none (per_row * first) (per_row * end)) (seen_none own)
  seen_band (d ∷ ds) = go (seen_band ds) (inside own d) (inside whole d) refl refl
    where
      go : seen own ds ≡ band first end (seen whole ds) → (t u : Bool) → inside own d ≡ t → inside whole d ≡ u → seen own (d ∷ ds) ≡ band first end (seen whole (d ∷ ds))
      go rest true u e g =
          let h = is_inside width first end d e in
          let k : inside whole d ≡ true = inside_is width 0 height d (record { right = h.right; above = omega (arith, h.above); below = omega (arith, h.below) }) in
          let m = among_is (per_row * first) (per_row * end) (placed whole d).place (place_in d h) in
          rw (seen_in own d ds e, seen_in whole d ds k, part_in (per_row * first) (per_row * end) (placed whole d) (seen whole ds) m, placed_from d h, rest)
      go rest false true e g =
          let h = is_inside width 0 height d g in
          let m = among_not (per_row * first) (per_row * end) (placed whole d).place (λ k. false≢true (sym e ∙ inside_is width first end d (place_back d h k))) in
          rw (seen_out own d ds e, seen_in whole d ds g, part_out (per_row * first) (per_row * end) (placed whole d) (seen whole ds) m) rest
      go rest false false e g = rw (seen_out own d ds e, seen_out whole d ds g) rest

-- ---- pixels
-- row r of the band [first, end), and column x
module _ (first end r x : ℕ) (inner : first + r < end) (slim : x < most_pixels) (log : List Deposit) where
  abbrev lo : ℕ
  lo = per_row * first

  abbrev hi : ℕ
  hi = per_row * end

  abbrev up_to : ℕ → ℕ → Bool
  up_to row p = leb (per_row * row) p && leb p (per_row * row + x + 1)

  up_to_is : (row p : ℕ) → per_row * row ≤ p → p ≤ per_row * row + x + 1 → up_to row p ≡ true
  up_to_is row p h g = rw (le-leb _ _ h, le-leb _ _ g)

  record Between (row p : ℕ) : Type 0 where
    from_row : per_row * row ≤ p
    to_x : p ≤ per_row * row + x + 1

  is_up_to : (row p : ℕ) → up_to row p ≡ true → Between row p
  is_up_to row p e = let h = both_true (leb (per_row * row) p) (leb p (per_row * row + x + 1)) e in record { from_row = leb-true _ _ h.0; to_x = leb-true _ _ h.1 }

  up_to_in : (p : ℕ) → Among lo hi p → up_to (first + r) p ≡ up_to r (p - lo)
  up_to_in p h =
      same_test _ _
      (λ e. let g = is_up_to (first + r) p e in up_to_is r (p - lo) (omega (arith, g.from_row, g.to_x)) (omega (arith, g.from_row, g.to_x)))
      (λ e. let g = is_up_to r (p - lo) e in up_to_is (first + r) p (omega (arith, g.from_row, g.to_x)) (omega (arith, g.from_row, g.to_x)))

  up_to_out : (p : ℕ) → (Among lo hi p → ⊥) → up_to (first + r) p ≡ false
  up_to_out p n =
      same_test (up_to (first + r) p) false
      (λ e. let g = is_up_to (first + r) p e in absurd (n (record { low = omega (arith, g.from_row); high = omega (arith, g.to_x) })))
      (λ e. absurd (false≢true e))

  cover_band : cover_up_to (band first end log) r x ≡ cover_up_to log (first + r) x
  cover_band =
      sum_total cover_of (up_to r) (band first end log)
      ∙ ap (λ (n : ℕ). n % 2 ^ 32) (total_part cover_of lo hi (λ d. refl) (up_to r) (up_to (first + r)) up_to_in up_to_out log)
      ∙ sym (sum_total cover_of (up_to (first + r)) log)

  abbrev here : ℕ → ℕ → Bool
  here row = eqb (per_row * row + x + 1)

  here_in : (p : ℕ) → Among lo hi p → here (first + r) p ≡ here r (p - lo)
  here_in p h =
      same_test (here (first + r) p) (here r (p - lo))
      (λ e. let g = eqb-true (per_row * (first + r) + x + 1) p e in eq-eqb (per_row * r + x + 1) (p - lo) (omega arith))
      (λ e. let g = eqb-true (per_row * r + x + 1) (p - lo) e in eq-eqb (per_row * (first + r) + x + 1) p (omega arith))

  here_out : (p : ℕ) → (Among lo hi p → ⊥) → here (first + r) p ≡ false
  here_out p n = ne_eqb (per_row * (first + r) + x + 1) p (λ g. n (record { low = omega arith; high = omega arith }))

  area_band : area_at (band first end log) r x ≡ area_at log (first + r) x
  area_band =
      sum_total area_of (here r) (band first end log)
      ∙ ap (λ (n : ℕ). n % 2 ^ 32) (total_part area_of lo hi (λ d. refl) (here r) (here (first + r)) here_in here_out log)
      ∙ sym (sum_total area_of (here (first + r)) log)

  pub pixel_band : (fill : Fill) → pixel fill (band first end log) r x ≡ pixel fill log (first + r) x
  unfolding pixel
  pixel_band fill =
      ap (λ (c : ℕ). byte_of fill (signed ((512 * c + (2 ^ 32 - area_at (band first end log) r x)) % 2 ^ 32))) cover_band
      ∙ ap (λ (a : ℕ). byte_of fill (signed ((512 * cover_up_to log (first + r) x + (2 ^ 32 - a)) % 2 ^ 32))) area_band
