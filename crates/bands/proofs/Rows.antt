-- Bands of a label: rule 13, their sizes, and the lines of their rows.
use Prim.Native.Nat.{ℕ, zero, suc, ◌+◌, ◌-◌, ◌≤◌, ◌<◌}
use mathlib.Core.Path.{◌≡◌, refl, ap}
use mathlib.Core.Bool.{Bool, true, false, cond, ◌||◌}
use mathlib.Core.List.{List}
use native.Mathlib.Omega.{arith}
use borrow.Author.Tests.{lt-ltb, le-ltb}
use Rattle.command.specs.declared.Command.{Command}
use Rattle.sweep.specs.Masks.{row_at}
use Rattle.label.specs.declared.Label.{Label}
use Rattle.label.specs.Checks.{rows}
use Rattle.label.specs.Draw.{too_many, room_for}
use Rattle.claims.specs.Bands.{band_of}
use Rattle.bands.specs.InBands.{band_end, too_many_from, room_from}
use Rattle.bands.specs.Steps.{line_of}

-- ---- rule 13, band by band
module _ (l : Label) (step words : ℕ) (cs : List Command) (at : ℕ) where
  pub none_left : too_many_from 0 step l words cs at ≡ false
  unfolding too_many_from
  none_left = refl

  pub none_behind : l.end ≤ at → (fuel : ℕ) → too_many_from fuel step l words cs at ≡ false
  unfolding too_many_from
  none_behind h zero = refl
  none_behind h (suc n) = rw (too_many_from, le-ltb at l.end h)

  pub one_band : at < l.end → (fuel : ℕ) → 0 < fuel
      → too_many_from fuel step l words cs at ≡ (too_many (band_of l at (band_end step at l.end)) words cs || too_many_from (fuel - 1) step l words cs (band_end step at l.end))
  unfolding too_many_from
  one_band h zero g = absurd (omega arith)
  one_band h (suc n) g =
      let e : n ≡ suc n - 1 = omega arith in
      rw (too_many_from, lt-ltb at l.end h)
      (ap (λ (k : ℕ). too_many (band_of l at (band_end step at l.end)) words cs || too_many_from k step l words cs (band_end step at l.end)) e)

  -- of the record that it names: the band's own, or that of a band behind it
  pub one_room : at < l.end → (fuel : ℕ) → 0 < fuel
      → let own = band_of l at (band_end step at l.end) in
      room_from fuel step l words cs at ≡ cond (too_many own words cs) (room_for own words cs) (room_from (fuel - 1) step l words cs (band_end step at l.end))
  unfolding room_from
  one_room h zero g = absurd (omega arith)
  one_room h (suc n) g =
      let own = band_of l at (band_end step at l.end) in
      let e : n ≡ suc n - 1 = omega arith in
      rw (room_from, lt-ltb at l.end h)
      (ap (λ (k : ℕ). cond (too_many own words cs) (room_for own words cs) (room_from k step l words cs (band_end step at l.end))) e)

-- ---- sizes
-- the line of row y from the bottom of [first, end)
pub from_bottom : (first end y : ℕ) → first ≤ y → y < end → end - first - 1 - (y - first) + (y + 1) ≡ end
from_bottom first end y p q = omega arith

module _ (l : Label) (a b : ℕ) (from : l.first ≤ a) (ordered : a ≤ b) (to : b ≤ l.end) where
  -- the band's lines are lines of the label
  pub line_in : line_of l a b + (b - a) ≤ rows l
  line_in = go l.up
    where
      go : (u : Bool) → cond u (l.end - b) (a - l.first) + (b - a) ≤ rows l
      go true = omega arith
      go false = omega arith

  -- row y of the band stands on the line of the label's row
  pub row_line : (y : ℕ) → a ≤ y → y < b → line_of l a b + row_at l.up (b - a) (y - a) ≡ row_at l.up (rows l) (y - l.first)
  row_line y p q = go l.up
    where
      joined : (m n r b end y : ℕ) → m + b ≡ end → n + y ≡ b → r + y ≡ end → m + n ≡ r
      joined m n r b end y e f g = omega arith

      below : l.end - b + b ≡ l.end
      below = omega arith

      go : (u : Bool) → cond u (l.end - b) (a - l.first) + row_at u (b - a) (y - a) ≡ row_at u (rows l) (y - l.first)
      go true = joined (l.end - b) (b - a - 1 - (y - a)) (l.end - l.first - 1 - (y - l.first)) b l.end (y + 1) below
          (from_bottom a b y p q) (from_bottom l.first l.end y (omega arith) (omega arith))
      go false = omega arith
