-- The bands painted one after the other: the rows before `at` have their pixels, every other byte is as it was.
use Prim.Native.Nat.{ℕ, ◌+◌, ◌*◌, ◌-◌, ◌≤◌, ◌<◌}
use mathlib.Core.Path.{◌≡◌, refl, sym, ap, ◌∙◌, subst}
use mathlib.Core.Bool.{Bool, true, false, cond, ◌||◌}
use mathlib.Core.Logic.{◌⊎◌, inl, inr}
use mathlib.Core.List.{List}
use native.Mathlib.Omega.{arith}
use native.Mathlib.Nat.{mul-le-mul, mul-le-mul_left}
use native.Mathlib.Decide.{dec_lt}
use lib.ListN.{length, get_or, take, drop, length-drop}
use lib.Seq.{length-take-le, get_or-take, get_or-drop}
use borrow.Author.Tests.{ltb-false}
use borrow.Rule.Slice.PartMut.{put_mid}
use Rattle.storage.specs.Cells.{Holds}
use Rattle.command.specs.declared.Command.{Command}
use Rattle.sweep.specs.Masks.{row_at, Swept}
use Rattle.sweep.specs.Pixels.{pixel}
use Rattle.sweep.proofs.Lines.{mid_before, mid_inside, mid_behind, mid_long}
use Rattle.sweep.proofs.Mask.{mask_is, mask_by_bytes}
use Rattle.std.specs.Prelude.{Result, Ok}
use Rattle.path.specs.declared.Overfull.{Overfull}
use Rattle.label.specs.declared.Label.{Label}
use Rattle.label.specs.Checks.{most_pixels, most_pitch, rows}
use Rattle.label.specs.Draw.{painted_of, log_of, too_many}
use Rattle.label.specs.Inking.{Sized, Poured}
use Rattle.claims.specs.OldContents.{spot_of}
use Rattle.claims.specs.Bands.{band_of}
use Rattle.claims.proofs.Painted.{back, on_line, painted_row, other_byte}
use Rattle.bands.specs.InBands.{band_end, too_many_from, too_many_in_band}
use Rattle.bands.specs.Steps.{line_of, Reads, BandPainted, Painted}
use Rattle.bands.proofs.Cells.{sub_pixel}
use Rattle.bands.proofs.Rows.{one_band, from_bottom, line_in, row_line}

-- ---- one band
pub band_swept : (b : Label) → Sized b → (s words words' mask mask' : List ℕ) (k : Result ℕ Overfull) {n : ℕ} → k ≡ Ok n → Poured b s words words' k
    → Swept words' mask mask' (rows b) n b.width b.fill b.up b.pitch → BandPainted b s (length words) mask mask'
unfolding painted_of
band_swept b z s words words' mask mask' k {n} f P S = record {
  painted = λ cs e room.
      let holds : Holds words' (rows b) b.width n (log_of b cs) = rw f at (P.stored cs e) in
      mask_is z.pitched S holds;
}

-- ---- all bands
neither : (a b : Bool) → (a || b) ≡ false → (a ≡ false) × (b ≡ false)
neither false b e = (refl, e)
neither true b e = absurd (let z : ◌≡◌ {A = ℕ} 0 1 = cc in omega arith)

-- the byte of path row y and column x
abbrev pub byte_of : Label → ℕ → ℕ → ℕ
byte_of l y x = spot_of l (row_at l.up (rows l) (y - l.first)) x

-- what is so of a path that fits
pub record Shown (l : Label) (step : ℕ) (words : ℕ) (before after : List ℕ) (at fuel : ℕ) (cs : List Command) : Type 0 where
  pub rest : too_many_from fuel step l words cs at ≡ false
  pub painted : (y x : ℕ) → l.first ≤ y → y < at → x < l.width → get_or after (byte_of l y x) 0 ≡ pixel l.fill (log_of l cs) (y - l.first) x
  pub kept : (i : ℕ) → ((y x : ℕ) → l.first ≤ y → y < at → x < l.width → i ≡ byte_of l y x → ⊥) → get_or after i 0 ≡ get_or before i 0

pub record Painting (l : Label) (step : ℕ) (s : List ℕ) (words : ℕ) (before after : List ℕ) (at : ℕ) : Type 0 where
  pub from : l.first ≤ at
  pub to : at ≤ l.end
  pub long : length after ≡ length before
  pub fuel : ℕ
  pub enough : l.end - at ≤ fuel
  pub shown : (cs : List Command) → Reads l s cs → too_many_in_band step l words cs ≡ false → Shown l step words before after at fuel cs

-- ---- the part of the mask that the band [a, b) is painted into
module _ (l : Label) (z : Sized l) (mask : List ℕ) (lines : 0 < rows l → l.pitch * (rows l - 1) + l.width ≤ length mask)
    (a b : ℕ) (from : l.first ≤ a) (some : a < b) (to : b ≤ l.end) where
  abbrev own : Label
  own = band_of l a b

  abbrev low : ℕ
  low = l.pitch * line_of l a b

  abbrev size : ℕ
  size = l.pitch * (b - a - 1) + l.width

  -- the band's last line is not behind the label's
  part_top : low + size ≤ l.pitch * (rows l - 1) + l.width
  part_top =
      let k = line_in l a b from (omega arith) to in
      let most : l.pitch * (line_of l a b + (b - a - 1)) ≤ l.pitch * (rows l - 1) = mul-le-mul_left l.pitch (omega arith) in
      omega arith

  pub part_in : low + size ≤ length mask
  part_in = omega (arith, part_top, lines (omega arith))

  pub part_near : low + size ≤ most_pitch * most_pixels
  part_near =
      let far : l.pitch * (rows l - 1) ≤ most_pitch * (most_pixels - 1) = mul-le-mul {m₂ = most_pixels - 1} z.near (omega (arith, z.inside, z.low)) in
      omega (arith, part_top, z.narrow)

  -- a row's byte in the part
  pub byte_in : (y x : ℕ) → a ≤ y → y < b → byte_of l y x ≡ low + byte_of own y x
  byte_in y x p q =
      let e = row_line l a b from (omega arith) to y p q in
      let d = ap (λ (n : ℕ). l.pitch * n) e in
      omega arith

  pub byte_fits : (y x : ℕ) → a ≤ y → y < b → x < l.width → byte_of own y x < size
  byte_fits y x p q r =
      let m = on_line l.up (b - a) (y - a) (omega arith) in
      let most : l.pitch * row_at l.up (b - a) (y - a) ≤ l.pitch * (b - a - 1) = mul-le-mul_left l.pitch (omega arith) in
      omega arith

  -- an earlier row has no byte there
  apart : (y x : ℕ) → l.first ≤ y → y < a → x < l.width → (byte_of l y x < low) ⊎ (low + size ≤ byte_of l y x)
  apart y x p q r = go l.up
    where
      under : (m k n a b end y : ℕ) → m + b ≡ end → k + (a + 1) ≡ b → n + (y + 1) ≡ end → y < a → m + (k + 1) ≤ n
      under m k n a b end y e f g h = omega arith

      go : (u : Bool)
          → (l.pitch * row_at u (rows l) (y - l.first) + x < l.pitch * cond u (l.end - b) (a - l.first))
          ⊎ (l.pitch * cond u (l.end - b) (a - l.first) + size ≤ l.pitch * row_at u (rows l) (y - l.first) + x)
      go true =
          let e : l.end - b + b ≡ l.end = omega arith in
          let f : b - a - 1 + (a + 1) ≡ b = omega arith in
          let g = from_bottom l.first l.end y p (omega arith) in
          let below = under (l.end - b) (b - a - 1) (rows l - 1 - (y - l.first)) a b l.end y e f g q in
          let most : l.pitch * (l.end - b + (b - a - 1 + 1)) ≤ l.pitch * (rows l - 1 - (y - l.first)) = mul-le-mul_left l.pitch below in
          inr (omega (arith, z.pitched))
      go false =
          let most : l.pitch * (y - l.first + 1) ≤ l.pitch * (a - l.first) = mul-le-mul_left l.pitch (omega arith) in
          inl (omega (arith, z.pitched))

-- ---- one band more
module _ (l : Label) (z : Sized l) (step : ℕ) (positive : 0 < step) (s : List ℕ) (words : ℕ) (before after : List ℕ)
    (lines : 0 < rows l → l.pitch * (rows l - 1) + l.width ≤ length before) (at : ℕ) (P : Painting l step s words before after at) (inner : at < l.end) where
  abbrev next : ℕ
  next = band_end step at l.end

  abbrev mine : Label
  mine = band_of l at next

  abbrev first : ℕ
  first = l.pitch * line_of l at next

  abbrev count : ℕ
  count = l.pitch * (next - at - 1) + l.width

  fits_in : first + count ≤ length after
  fits_in = rw (← P.long) at (part_in l z before lines at next P.from (omega arith) (omega arith))

  module _ (part new : List ℕ) (lent : part ≡ take count (drop first after)) (as_long : length part ≡ count) (back_long : length new ≡ count)
      (B : BandPainted mine s words part new) where
    abbrev whole : List ℕ
    whole = put_mid first count after new

    module _ (cs : List Command) (e : Reads l s cs) (f : too_many_in_band step l words cs ≡ false) where
      S : Shown l step words before after at P.fuel cs
      S = P.shown cs e f

      two : (too_many mine words cs ≡ false) × (too_many_from (P.fuel - 1) step l words cs next ≡ false)
      two = neither _ _ (sym (one_band l step words cs at inner P.fuel (omega (arith, P.enough))) ∙ S.rest)

      is_painted : new ≡ painted_of mine (log_of mine cs) part
      is_painted = B.painted cs e (ltb-false _ _ two.0)

      mine_lines : 0 < rows mine → l.pitch * (rows mine - 1) + l.width ≤ length part
      mine_lines h = omega arith

      new_row : (y x : ℕ) → at ≤ y → y < next → x < l.width → get_or whole (byte_of l y x) 0 ≡ pixel l.fill (log_of l cs) (y - l.first) x
      new_row y x p q r =
          ap (λ (i : ℕ). get_or whole i 0) (byte_in l z before lines at next P.from (omega arith) (omega arith) y x p q)
          ∙ mid_inside first count after new fits_in back_long (byte_of mine y x) (byte_fits l z before lines at next P.from (omega arith) (omega arith) y x p q r)
          ∙ ap (λ (d : List ℕ). get_or d (byte_of mine y x) 0) is_painted
          ∙ painted_row mine (log_of mine cs) part z.pitched mine_lines (y - at) x (omega arith) r
          ∙ sub_pixel l z cs at next P.from (omega arith) (omega arith) y x p q r

      old_row : (y x : ℕ) → l.first ≤ y → y < at → x < l.width → get_or whole (byte_of l y x) 0 ≡ pixel l.fill (log_of l cs) (y - l.first) x
      old_row y x p q r = go (apart l z before lines at next P.from (omega arith) (omega arith) y x p q r) ∙ S.painted y x p q r
        where
          go : (byte_of l y x < first) ⊎ (first + count ≤ byte_of l y x) → get_or whole (byte_of l y x) 0 ≡ get_or after (byte_of l y x) 0
          go (inl h) = mid_before first count after new fits_in back_long (byte_of l y x) h
          go (inr h) = mid_behind first count after new fits_in back_long (byte_of l y x) h

      row : (y x : ℕ) → l.first ≤ y → y < next → x < l.width → Dec (y < at) → get_or whole (byte_of l y x) 0 ≡ pixel l.fill (log_of l cs) (y - l.first) x
      row y x p q r (yes h) = old_row y x p h r
      row y x p q r (no h) = new_row y x (omega arith) q r

      -- a byte of the part that is no pixel's
      between : (j : ℕ) → j < count → ((y x : ℕ) → l.first ≤ y → y < next → x < l.width → first + j ≡ byte_of l y x → ⊥) → get_or whole (first + j) 0 ≡ get_or after (first + j) 0
      between j g h =
          mid_inside first count after new fits_in back_long j g
          ∙ ap (λ (d : List ℕ). get_or d j 0) is_painted
          ∙ other_byte mine (log_of mine cs) part j (omega arith) (λ m x a b u. h (at + row_at l.up (next - at) m) x (omega (arith, P.from)) (omega (arith, on_line l.up (next - at) m a)) b (spot m x a u))
          ∙ ap (λ (d : List ℕ). get_or d j 0) lent
          ∙ get_or-take count (drop first after) j 0 g
          ∙ get_or-drop first after j 0
        where
          spot : (m x : ℕ) → m < next - at → j ≡ l.pitch * m + x → first + j ≡ byte_of l (at + row_at l.up (next - at) m) x
          spot m x a u =
              let y = at + row_at l.up (next - at) m in
              let c : y - at ≡ row_at l.up (next - at) m = omega arith in
              let d : row_at l.up (next - at) (y - at) ≡ m = ap (row_at l.up (next - at)) c ∙ back l.up (next - at) m a in
              let k = ap (λ (n : ℕ). l.pitch * n) d in
              let i = byte_in l z before lines at next P.from (omega arith) (omega arith) y x (omega arith) (omega (arith, on_line l.up (next - at) m a)) in
              omega arith

      other : (i : ℕ) → ((y x : ℕ) → l.first ≤ y → y < next → x < l.width → i ≡ byte_of l y x → ⊥) → Dec (i < first) → Dec (i < first + count) → get_or whole i 0 ≡ get_or after i 0
      other i h (yes a) b = mid_before first count after new fits_in back_long i a
      other i h (no a) (yes b) =
          let e : first + (i - first) ≡ i = omega arith in
          rw e at (between (i - first) (omega arith) (λ y x p q r u. h y x p q r (sym e ∙ u)))
      other i h (no a) (no b) = mid_behind first count after new fits_in back_long i (omega arith)

      shown_more : Shown l step words before whole next (P.fuel - 1) cs
      shown_more = record {
        rest = two.1;
        painted = λ y x p q r. row y x p q r (dec_lt y at);
        kept = λ i h. other i h (dec_lt i first) (dec_lt i (first + count)) ∙ S.kept i (λ y x p q r. h y x p (omega arith) r);
      }

    pub painting_more : Painting l step s words before (put_mid first count after new) next
    painting_more = record {
      from = omega (arith, P.from);
      to = omega arith;
      long = mid_long first count after new fits_in back_long ∙ P.long;
      fuel = P.fuel - 1;
      enough = omega (arith, P.enough);
      shown = shown_more;
    }

  -- the same, with the numbers as the code has them
  module _ (n line size : ℕ) (is-next : n ≡ next) (is-line : line ≡ line_of l at next) (is-size : size ≡ count) (new : List ℕ) (back_long : length new ≡ size) where
    as_long : length (take count (drop first after)) ≡ count
    as_long = length-take-le count (drop first after) (omega (arith, length-drop first after, fits_in))

    pub painting_again : BandPainted (band_of l at n) s words (take size (drop (l.pitch * line) after)) new → Painting l step s words before (put_mid (l.pitch * line) size after new) n
    painting_again B =
        rw (is-next, is-line, is-size)
        (painting_more (take count (drop first after)) new refl as_long (back_long ∙ is-size) (rw (is-next, is-line, is-size) at B))

-- ---- the last band is done
module _ (l : Label) (z : Sized l) (step : ℕ) (s : List ℕ) (words : ℕ) (before after : List ℕ) (at : ℕ) (P : Painting l step s words before after at) (over : l.end ≤ at) where
  pub painted_all : Painted l step s words before after
  unfolding painted_of
  painted_all = record {
    painted = λ cs e f.
        let S = P.shown cs e f in
        mask_by_bytes l.fill (log_of l cs) (rows l) l.width l.up l.pitch before after z.pitched P.long
        (λ m x a b.
        let r = row_at l.up (rows l) m in
        let c : l.first + r - l.first ≡ r = omega arith in
        let g = on_line l.up (rows l) m a in
        let d : row_at l.up (rows l) (l.first + r - l.first) ≡ m = ap (row_at l.up (rows l)) c ∙ back l.up (rows l) m a in
        ap (λ (n : ℕ). get_or after (l.pitch * n + x) 0) (sym d) ∙ S.painted (l.first + r) x (omega arith) (omega arith) b
        ∙ ap (λ (n : ℕ). pixel l.fill (log_of l cs) n x) c)
        (λ i h. S.kept i (λ y x p q r. h (row_at l.up (rows l) (y - l.first)) x (on_line l.up (rows l) (y - l.first) (omega (arith, P.to))) r));
  }

-- what is painted of a label is painted of one that is the same
pub as_band : {a b : Label} {s : List ℕ} {words : ℕ} {before after : List ℕ} → a ≡ b → BandPainted a s words before after → BandPainted b s words before after
as_band {a} {b} {s} {words} {before} {after} e p = subst (λ (l : Label). BandPainted l s words before after) e p
