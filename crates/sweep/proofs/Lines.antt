-- The lines of a mask: the first l are painted, each lent as a part of the mask and put back.
use Rattle.std.proofs.Common.{◌≡◌, ℕ, ◌+◌, ◌-◌, ◌*◌, ◌<◌, ◌≤◌, Bool, true, false, List, ◌++◌, length, get_or, take, drop, sym, ap, ◌∙◌, subst, mul-le-mul_left, arith, length-append, length-drop, length-take-le, get_or-drop, get_or-take, get_or-append-add}
use native.Mathlib.Decide.{dec_lt, ℕ_discrete}
use lib.ListN.{get_or-append}
use borrow.Rule.Slice.PartMut.{put_mid}
use Rattle.storage.specs.Deposits.{Deposit}
use Rattle.storage.specs.Cells.{Holds}
use Rattle.sweep.specs.declared.Fill.{Fill}
use Rattle.sweep.specs.Pixels.{pixel}
use Rattle.sweep.specs.Masks.{row_at, Fits, Swept}

pub record Lines (ws d d' : List ℕ) (rows count width : ℕ) (fill : Fill) (up : Bool) (pitch l : ℕ) : Type 0 where
  pub top : l ≤ rows
  pub long : length d' ≡ length d
  pub kept : (i : ℕ) → ((k x : ℕ) → k < l → x < width → i ≡ pitch * k + x → ⊥) → get_or d' i 0 ≡ get_or d i 0
  pub so : (log : List Deposit) → Holds ws rows width count log → (k x : ℕ) → k < l → x < width → get_or d' (pitch * k + x) 0 ≡ pixel fill log (row_at up rows k) x

-- ---- a part that was lent and has come back

module _ (a k : ℕ) (xs ys : List ℕ) (h : a + k ≤ length xs) (e : length ys ≡ k) where
  first : length (take a xs) ≡ a
  first = length-take-le a xs (omega arith)

  pub mid_before : (i : ℕ) → i < a → get_or (put_mid a k xs ys) i 0 ≡ get_or xs i 0
  mid_before i g = get_or-append (take a xs) (ys ++ drop k (drop a xs)) 0 i (omega (arith, first)) ∙ get_or-take a xs i 0 g

  mid_at : (x : ℕ) → get_or (put_mid a k xs ys) (a + x) 0 ≡ get_or (ys ++ drop k (drop a xs)) x 0
  mid_at x = ap (λ (n : ℕ). get_or (put_mid a k xs ys) (n + x) 0) (sym first) ∙ get_or-append-add (take a xs) (ys ++ drop k (drop a xs)) x 0

  pub mid_inside : (x : ℕ) → x < k → get_or (put_mid a k xs ys) (a + x) 0 ≡ get_or ys x 0
  mid_inside x g = mid_at x ∙ get_or-append ys (drop k (drop a xs)) 0 x (omega arith)

  pub mid_behind : (i : ℕ) → a + k ≤ i → get_or (put_mid a k xs ys) i 0 ≡ get_or xs i 0
  mid_behind i g =
      ap (λ (n : ℕ). get_or (put_mid a k xs ys) n 0) p ∙ mid_at (length ys + (i - (a + k)))
      ∙ get_or-append-add ys (drop k (drop a xs)) (i - (a + k)) 0
      ∙ get_or-drop k (drop a xs) (i - (a + k)) 0 ∙ get_or-drop a xs (k + (i - (a + k))) 0
      ∙ ap (λ (n : ℕ). get_or xs n 0) q
    where
      p : i ≡ a + (length ys + (i - (a + k)))
      p = omega arith

      q : a + (k + (i - (a + k))) ≡ i
      q = omega arith

  pub mid_long : length (put_mid a k xs ys) ≡ length xs
  mid_long = simp (length-append, length-drop) (omega (arith, first))

-- ---- lines

line_lt : (pitch k l : ℕ) → k < l → pitch * k + pitch ≤ pitch * l
line_lt pitch k l h = omega (arith, mul-le-mul_left pitch h)

module _ {ws d : List ℕ} {rows count width : ℕ} {fill : Fill} {up : Bool} {pitch : ℕ} where
  module _ (fits : width ≤ pitch) {d' : List ℕ} {l : ℕ} (L : Lines ws d d' rows count width fill up pitch l) (hl : l < rows)
      (room : pitch * l + width ≤ length d) where
    inside : pitch * l + width ≤ length d'
    inside = omega (arith, L)

    line_more : (ys : List ℕ) (row : ℕ) → length ys ≡ width → row ≡ row_at up rows l
        → ((log : List Deposit) → Holds ws rows width count log → (x : ℕ) → x < width → get_or ys x 0 ≡ pixel fill log row x)
        → Lines ws d (put_mid (pitch * l) width d' ys) rows count width fill up pitch (l + 1)
    line_more ys row len is_row told = record {
      top = omega arith;
      long = mid_long (pitch * l) width d' ys inside len ∙ L.long;
      kept = λ i h. kept' i h (dec_lt i (pitch * l)) (dec_lt i (pitch * l + width));
      so = λ log P k x h g. so' log P k x h g (ℕ_discrete k l);
    }
      where
        kept' : (i : ℕ) → ((k x : ℕ) → k < l + 1 → x < width → i ≡ pitch * k + x → ⊥) → Dec (i < pitch * l) → Dec (i < pitch * l + width) → get_or (put_mid (pitch * l) width d' ys) i 0 ≡ get_or d i 0
        kept' i h (yes a) b = mid_before (pitch * l) width d' ys inside len i a ∙ L.kept i (λ k x g. h k x (omega arith))
        kept' i h (no a) (yes b) = absurd (h l (i - pitch * l) (omega arith) (omega arith) (omega arith))
        kept' i h (no a) (no b) = mid_behind (pitch * l) width d' ys inside len i (omega arith) ∙ L.kept i (λ k x g. h k x (omega arith))

        so' : (log : List Deposit) → Holds ws rows width count log → (k x : ℕ) → k < l + 1 → x < width → Dec (k ≡ l)
            → get_or (put_mid (pitch * l) width d' ys) (pitch * k + x) 0 ≡ pixel fill log (row_at up rows k) x
        so' log P k x h g (yes e) =
            ap (λ (n : ℕ). get_or (put_mid (pitch * l) width d' ys) n 0) (omega (arith, ap (λ (n : ℕ). pitch * n) e)) ∙ mid_inside (pitch * l) width d' ys inside len x g
            ∙ told log P x g ∙ ap (λ (r : ℕ). pixel fill log r x) (is_row ∙ ap (row_at up rows) (sym e))
        so' log P k x h g (no e) =
            mid_before (pitch * l) width d' ys inside len (pitch * k + x) (omega (arith, line_lt pitch k l (omega arith))) ∙ L.so log P k x (omega arith) g

    -- the same, with the part's length as the code has it
    pub lines_more : (n : ℕ) (ys : List ℕ) (row : ℕ) → n ≡ width → length ys ≡ n → row ≡ row_at up rows l
        → ((log : List Deposit) → Holds ws rows width count log → (x : ℕ) → x < width → get_or ys x 0 ≡ pixel fill log row x)
        → Lines ws d (put_mid (pitch * l) n d' ys) rows count width fill up pitch (l + 1)
    lines_more n ys row e len is_row told =
        subst (λ (m : ℕ). Lines ws d (put_mid (pitch * l) m d' ys) rows count width fill up pitch (l + 1)) (sym e) (line_more ys row (len ∙ e) is_row told)

pub row_up : (up : Bool) (rows l r : ℕ) → up ≡ true → r ≡ rows - 1 - l → r ≡ row_at up rows l
row_up up rows l r e h = rw e h

pub row_down : (up : Bool) (rows l r : ℕ) → up ≡ false → r ≡ l → r ≡ row_at up rows l
row_down up rows l r e h = rw e h

-- the last line fits, so each does
pub line_fits : {words mask : List ℕ} {rows count width pitch : ℕ} → Fits words mask rows count width pitch → (l : ℕ) → l < rows → pitch * l + width ≤ length mask
line_fits {pitch = pitch} F l h = omega (arith, F.lines (omega arith), mul-le-mul_left pitch (before h))
  where
    before : {l rows : ℕ} → l < rows → l ≤ rows - 1
    before h = omega arith

pub lines_all : {ws d d' : List ℕ} {rows count width : ℕ} {fill : Fill} {up : Bool} {pitch l : ℕ} → Lines ws d d' rows count width fill up pitch l → rows ≤ l
    → Swept ws d d' rows count width fill up pitch
lines_all L h = record {
  painted = λ log P k x a b. L.so log P k x (omega arith) b;
  kept = λ i g. L.kept i (λ k x a. g k x (omega (arith, L.top)));
  long = L.long;
}
