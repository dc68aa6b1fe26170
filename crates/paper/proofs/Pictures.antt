-- The bytes of a painted mask: each pixel's is the rule's, each other byte is as it was.
use Prim.Native.Nat.{ℕ, zero, suc, ◌+◌, ◌*◌, ◌-◌, ◌/◌, ◌%◌, ◌≤◌, ◌<◌}
use mathlib.Core.Path.{◌≡◌, refl, ap, ◌∙◌}
use mathlib.Core.Bool.{Bool, true, false, cond, ◌&&◌, ◌||◌}
use mathlib.Core.List.{List, [], ◌∷◌}
use native.Mathlib.Omega.{arith}
use native.Mathlib.Nat.{div-add-mod, mul-le-mul_left}
use native.Mathlib.Decide.{dec_lt}
use lib.Dec.{ltb}
use lib.ListN.{length, get_or}
use lib.IntN.{pos}
use borrow.Author.Tests.{lt-ltb, le-ltb, ltb-false}
use Rattle.sweep.proofs.Mask.{line_of_is, column_of}
use Rattle.label.specs.declared.Label.{Label}
use Rattle.paper.specs.TurnedAway.{rows, most_pixels, size_fault}
use Rattle.paper.specs.Cells.{Pair}
use Rattle.paper.specs.Bytes.{value, byte_of, row_at, byte_at, painted}
use Rattle.paper.specs.Demands.{In, place}

-- ---- sizes that are right
pub record Sound (l : Label) (mask words : ℕ) : Type 0 where
  pub narrow : l.width ≤ most_pixels
  pub pitched : l.width ≤ l.pitch
  pub near : l.pitch ≤ 65536
  pub lines : 0 < rows l → l.pitch * (rows l - 1) + l.width ≤ mask

first_is : (x y : Bool) → (x || y) ≡ false → x ≡ false
first_is true y e = e
first_is false y e = refl

second_is : (x y : Bool) → (x || y) ≡ false → y ≡ false
second_is true y e = absurd (let z : ◌≡◌ {A = ℕ} 0 1 = cc in omega arith)
second_is false y e = e

none_of_five : (a b c d e : Bool) → cond {A = ℕ} a 1 (cond b 2 (cond c 3 (cond d 4 (cond e 5 0)))) ≡ 0
    → (a ≡ false) × (c ≡ false) × (d ≡ false)
none_of_five true b c d e h = absurd (omega arith)
none_of_five false true c d e h = absurd (omega arith)
none_of_five false false true d e h = absurd (omega arith)
none_of_five false false false true e h = absurd (omega arith)
none_of_five false false false false e h = (refl, refl, refl)

long_enough_is : (n mask need : ℕ) → (ltb 0 n && ltb mask need) ≡ false → 0 < n → need ≤ mask
long_enough_is n mask need e h = ltb-false mask need (rw (lt-ltb 0 n h) at e)

pub sound : (l : Label) (mask words : ℕ) → size_fault l mask words ≡ 0 → Sound l mask words
unfolding size_fault
sound l mask words e =
    let h = none_of_five
    (ltb most_pixels l.width || ltb most_pixels l.height)
    (ltb l.end l.first || ltb l.height l.end)
    (ltb l.pitch l.width || ltb 65536 l.pitch)
    (ltb 0 (rows l) && ltb mask (l.pitch * (rows l - 1) + l.width))
    (ltb words (rows l)) e in
    record {
      narrow = ltb-false most_pixels l.width (first_is (ltb most_pixels l.width) (ltb most_pixels l.height) h.0);
      pitched = ltb-false l.pitch l.width (first_is (ltb l.pitch l.width) (ltb 65536 l.pitch) h.1);
      near = ltb-false 65536 l.pitch (second_is (ltb l.pitch l.width) (ltb 65536 l.pitch) h.1);
      lines = long_enough_is (rows l) mask (l.pitch * (rows l - 1) + l.width) h.2;
    }

-- ---- a byte by its index
module _ (l : Label) (ds : List Pair) where
  pub painted_long : (i : ℕ) (mask : List ℕ) → length (painted l ds i mask) ≡ length mask
  unfolding painted
  painted_long i [] = refl
  painted_long i (b ∷ bs) = ap suc (painted_long (i + 1) bs)

  from_at : (i : ℕ) (mask : List ℕ) (j : ℕ) → j < length mask
      → get_or (painted l ds i mask) j 0 ≡ byte_at l ds (i + j) (get_or mask j 0)
  unfolding painted
  from_at i [] j h = absurd (omega arith)
  from_at i (b ∷ bs) zero h = let e : i + 0 ≡ i = omega arith in rw e
  from_at i (b ∷ bs) (suc j) h =
      let e : (i + 1) + j ≡ i + suc j = omega arith in
      rw e at (from_at (i + 1) bs j (omega arith))

  byte_at_is : (mask : List ℕ) (i : ℕ) → i < length mask → get_or (painted l ds 0 mask) i 0 ≡ byte_at l ds i (get_or mask i 0)
  byte_at_is mask i h = let e : 0 + i ≡ i = omega arith in rw e at (from_at 0 mask i h)

  -- ---- by its row and column
  abbrev line : ℕ → ℕ
  line y = cond l.up (l.end - 1 - y) (y - l.first)

  line_in : (y : ℕ) → l.first ≤ y → y < l.end → line y < rows l
  line_in y p q = go l.up
    where
      go : (u : Bool) → cond u (l.end - 1 - y) (y - l.first) < rows l
      go true = omega arith
      go false = omega arith

  row_back : (y : ℕ) → l.first ≤ y → y < l.end → row_at l (line y) ≡ y
  row_back y p q = go l.up
    where
      go : (u : Bool)
          → cond u (l.end - 1 - cond u (l.end - 1 - y) (y - l.first))
          (l.first + cond u (l.end - 1 - y) (y - l.first)) ≡ y
      go true = omega arith
      go false = omega arith

  module _ (mask : List ℕ) (words : ℕ) (h : Sound l (length mask) words) where
    pub inside : (y x : ℕ) → In l y x → place l y x < length mask
    inside y x p =
        let n = line_in y p.0 p.1 in
        let most : l.pitch * line y ≤ l.pitch * (rows l - 1) = mul-le-mul_left l.pitch (omega arith) in
        let long = h.lines (omega arith) in
        let wide = p.2 in
        omega arith

    pub pixel_at : (y x : ℕ) → In l y x
        → get_or (painted l ds 0 mask) (place l y x) 0 ≡ byte_of l.fill (value ds (pos y) (pos x))
    pixel_at y x p =
        let near : x < l.pitch = omega (arith, p.2, h.pitched) in
        byte_at_is mask (place l y x) (inside y x p)
        ∙ rw (line_of_is l.pitch (line y) x near, column_of l.pitch (line y) x near)
        (rw (lt-ltb (line y) (rows l) (line_in y p.0 p.1), lt-ltb x l.width p.2)
        (ap (λ (r : ℕ). byte_of l.fill (value ds (pos r) (pos x))) (row_back y p.0 p.1)))

  -- a byte that is no pixel's
  pub other_at : (mask : List ℕ) (i : ℕ) → i < length mask → ((y x : ℕ) → In l y x → place l y x ≡ i → ⊥)
      → get_or (painted l ds 0 mask) i 0 ≡ get_or mask i 0
  other_at mask i h n = byte_at_is mask i h ∙ go (dec_lt (i / l.pitch) (rows l)) (dec_lt (i % l.pitch) l.width)
    where
      m : ℕ
      m = i / l.pitch

      there : m < rows l → (u : Bool)
          → cond u (l.end - 1 - cond u (l.end - 1 - m) (l.first + m))
          (cond u (l.end - 1 - m) (l.first + m) - l.first) ≡ m
      there a true = omega arith
      there a false = omega arith

      row_in : m < rows l → (u : Bool)
          → (l.first ≤ cond u (l.end - 1 - m) (l.first + m)) × (cond u (l.end - 1 - m) (l.first + m) < l.end)
      row_in a true = (omega arith, omega arith)
      row_in a false = (omega arith, omega arith)

      go : Dec (i / l.pitch < rows l) → Dec (i % l.pitch < l.width) → byte_at l ds i (get_or mask i 0) ≡ get_or mask i 0
      go (yes a) (yes b) =
          let r = row_in a l.up in
          absurd (n (row_at l m) (i % l.pitch) (r.0, r.1, b)
          (ap (λ (k : ℕ). l.pitch * k + i % l.pitch) (there a l.up) ∙ div-add-mod i l.pitch))
      go (yes a) (no b) =
          let g : l.width ≤ i % l.pitch = omega arith in
          rw (lt-ltb (i / l.pitch) (rows l) a, le-ltb (i % l.pitch) l.width g)
      go (no a) b = let g : rows l ≤ i / l.pitch = omega arith in rw (le-ltb (i / l.pitch) (rows l) g)
