-- The bytes of a painted mask: each pixel's is the rule's, each other byte is as it was.
use Prim.Native.Nat.{ℕ, ◌+◌, ◌*◌, ◌-◌, ◌/◌, ◌%◌, ◌≤◌, ◌<◌}
use mathlib.Core.Path.{◌≡◌, refl, sym, ap, ◌∙◌}
use mathlib.Core.Bool.{Bool, true, false}
use mathlib.Core.List.{List}
use native.Mathlib.Omega.{arith}
use native.Mathlib.Nat.{div-add-mod, mul-le-mul_left}
use native.Mathlib.Decide.{dec_lt}
use lib.ListN.{length, get_or}
use borrow.Author.Tests.{lt-ltb, le-ltb}
use Rattle.storage.specs.Deposits.{Deposit}
use Rattle.sweep.specs.Masks.{row_at, byte_at}
use Rattle.sweep.specs.Pixels.{pixel}
use Rattle.sweep.proofs.Mask.{mask_long, mask_at, line_of_is, column_of}
use Rattle.label.specs.declared.Label.{Label}
use Rattle.label.specs.Checks.{rows}
use Rattle.label.specs.Draw.{painted_of}
use Rattle.claims.specs.OldContents.{spot_of}

-- the row that stands on a line, and the line on which a row stands, are one rule
pub back : (up : Bool) (n r : ℕ) → r < n → row_at up n (row_at up n r) ≡ r
back true n r h = omega arith
back false n r h = refl

pub on_line : (up : Bool) (n r : ℕ) → r < n → row_at up n r < n
on_line true n r h = omega arith
on_line false n r h = h

module _ (l : Label) (log : List Deposit) (mask : List ℕ) where
  byte_at_is : (i : ℕ) → i < length mask → get_or (painted_of l log mask) i 0 ≡ byte_at l.fill log (rows l) l.width l.up l.pitch i (get_or mask i 0)
  unfolding painted_of
  byte_at_is i h = let e : 0 + i ≡ i = omega arith in rw e at (mask_at l.fill log (rows l) l.width l.up l.pitch 0 mask i h)

  pub painted_long : length (painted_of l log mask) ≡ length mask
  unfolding painted_of
  painted_long = mask_long l.fill log (rows l) l.width l.up l.pitch 0 mask

  module _ (pitched : l.width ≤ l.pitch) (lines : 0 < rows l → l.pitch * (rows l - 1) + l.width ≤ length mask) where
    pub inside : (m x : ℕ) → m < rows l → x < l.width → spot_of l m x < length mask
    inside m x h g =
        let most : l.pitch * m ≤ l.pitch * (rows l - 1) = mul-le-mul_left l.pitch (omega arith) in
        let long = lines (omega arith) in
        omega arith

    -- by its line
    pub painted_line : (m x : ℕ) → m < rows l → x < l.width → get_or (painted_of l log mask) (spot_of l m x) 0 ≡ pixel l.fill log (row_at l.up (rows l) m) x
    painted_line m x h g =
        let near : x < l.pitch = omega arith in
        byte_at_is (spot_of l m x) (inside m x h g) ∙ rw (line_of_is l.pitch m x near, column_of l.pitch m x near, lt-ltb _ _ h, lt-ltb _ _ g)

    -- by its row
    pub painted_row : (r x : ℕ) → r < rows l → x < l.width → get_or (painted_of l log mask) (spot_of l (row_at l.up (rows l) r) x) 0 ≡ pixel l.fill log r x
    painted_row r x h g =
        painted_line (row_at l.up (rows l) r) x (on_line l.up (rows l) r h) g
        ∙ ap (λ (n : ℕ). pixel l.fill log n x) (back l.up (rows l) r h)

  -- a byte that no line and column has
  pub other_byte : (i : ℕ) → i < length mask → ((m x : ℕ) → m < rows l → x < l.width → i ≡ spot_of l m x → ⊥) → get_or (painted_of l log mask) i 0 ≡ get_or mask i 0
  other_byte i h n = byte_at_is i h ∙ go (dec_lt (i / l.pitch) (rows l)) (dec_lt (i % l.pitch) l.width)
    where
      go : Dec (i / l.pitch < rows l) → Dec (i % l.pitch < l.width) → byte_at l.fill log (rows l) l.width l.up l.pitch i (get_or mask i 0) ≡ get_or mask i 0
      go (yes a) (yes b) = absurd (n (i / l.pitch) (i % l.pitch) a b (sym (div-add-mod i l.pitch)))
      go (yes a) (no b) = let g : l.width ≤ i % l.pitch = omega arith in rw (lt-ltb (i / l.pitch) (rows l) a, le-ltb (i % l.pitch) l.width g)
      go (no a) b = let g : rows l ≤ i / l.pitch = omega arith in rw (le-ltb (i / l.pitch) (rows l) g)
