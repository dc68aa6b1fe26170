-- The log of a band of a label, of which the label's own is made up.
use Prim.Native.Nat.{ℕ, ◌+◌, ◌*◌, ◌-◌, ◌≤◌, ◌<◌}
use mathlib.Core.Path.{◌≡◌, sym, ap, ◌∙◌}
use mathlib.Core.List.{List}
use native.Mathlib.Omega.{arith}
use Rattle.storage.specs.Deposits.{per_row, Deposit, distinct}
use Rattle.command.specs.declared.Command.{Command}
use Rattle.sweep.specs.Pixels.{pixel}
use Rattle.label.specs.declared.Label.{Label}
use Rattle.label.specs.Checks.{most_pixels}
use Rattle.label.specs.Draw.{log_of}
use Rattle.label.specs.Inking.{Sized}
use Rattle.claims.specs.Parts.{band}
use Rattle.claims.specs.Bands.{band_of, whole_of}
use Rattle.claims.proofs.Parts.{part_part, distinct_join}
use Rattle.claims.proofs.Rows.{pixel_band}
use Rattle.claims.proofs.Bands.{log_band}

-- a band of a band
band_band : (first end a b : ℕ) → first ≤ a → b ≤ end → a ≤ b → (log : List Deposit) → band (a - first) (b - first) (band first end log) ≡ band a b log
band_band first end a b p q r log =
    let lo : per_row * first + per_row * (a - first) ≡ per_row * a = omega arith in
    let hi : per_row * first + per_row * (b - first) ≡ per_row * b = omega arith in
    rw (lo, hi) at (part_part (per_row * first) (per_row * end) (per_row * (a - first)) (per_row * (b - first)) (omega arith) log)

module _ (l : Label) (z : Sized l) (cs : List Command) where
  abbrev log : List Deposit
  log = log_of l cs

  narrow : l.width ≤ most_pixels
  narrow = omega (arith, z.narrow)

  own : log ≡ band l.first l.end (log_of (whole_of l) cs)
  own = log_band l narrow cs l.first l.end z.inside

  module _ (a b : ℕ) (from : l.first ≤ a) (ordered : a ≤ b) (to : b ≤ l.end) where
    pub sub_log : log_of (band_of l a b) cs ≡ band (a - l.first) (b - l.first) log
    sub_log =
        log_band l narrow cs a b (omega (arith, z.inside))
        ∙ sym (band_band l.first l.end a b from to ordered (log_of (whole_of l) cs))
        ∙ ap (band (a - l.first) (b - l.first)) (sym own)

    -- ---- cells: those above the band and its own are those above its end
    pub more_cells : distinct (band 0 (a - l.first) log) + distinct (log_of (band_of l a b) cs) ≡ distinct (band 0 (b - l.first) log)
    more_cells =
        ap (λ (n : ℕ). distinct (band 0 (a - l.first) log) + n) (ap distinct sub_log)
        ∙ distinct_join (per_row * 0) (per_row * (a - l.first)) (per_row * (b - l.first)) (omega arith) (omega arith) log

    -- ---- a pixel
    pub sub_pixel : (y x : ℕ) → a ≤ y → y < b → x < l.width → pixel l.fill (log_of (band_of l a b) cs) (y - a) x ≡ pixel l.fill log (y - l.first) x
    sub_pixel y x p q r =
        let e : a - l.first + (y - a) ≡ y - l.first = omega arith in
        ap (λ (ds : List Deposit). pixel l.fill ds (y - a) x) sub_log
        ∙ pixel_band (a - l.first) (b - l.first) (y - a) x (omega arith) (omega (arith, narrow)) log l.fill
        ∙ ap (λ (n : ℕ). pixel l.fill log n x) e

  pub no_cells : distinct (band 0 (l.first - l.first) log) ≡ 0
  no_cells =
      let e : l.first - l.first ≡ 0 = omega arith in
      let j = distinct_join (per_row * 0) (per_row * 0) (per_row * 0) (omega arith) (omega arith) log in
      let n : distinct (band 0 0 log) ≡ 0 = omega arith in
      ap (λ (n : ℕ). distinct (band 0 n log)) e ∙ n

  pub all_cells : distinct (band 0 (l.end - l.first) log) ≡ distinct log
  all_cells =
      let e : l.first - l.first ≡ 0 = omega arith in
      ap distinct (sym (rw e at (sub_log l.first l.end (omega arith) z.ordered (omega arith))))
