-- What `sweep` leaves is the mask of the rule: byte i belongs to line i / pitch and column i % pitch, and to no other.
use Rattle.std.proofs.Common.{◌≡◌, ℕ, zero, suc, ◌+◌, ◌*◌, ◌/◌, ◌%◌, ◌<◌, ◌≤◌, Bool, List, [], ◌∷◌, length, get_or, sym, refl, ap, ◌∙◌, mod-eq_of_lt, arith, ext_get_or, le-ltb, lt-ltb}
use native.Mathlib.Nat.{div-add-mod, mul-add-div, div-eq_of_lt, mul-add-mod_self_left}
use native.Mathlib.Decide.{dec_lt}
use Rattle.storage.specs.Deposits.{Deposit}
use Rattle.storage.specs.Cells.{Holds}
use Rattle.sweep.specs.declared.Fill.{Fill}
use Rattle.sweep.specs.Pixels.{pixel}
use Rattle.sweep.specs.Masks.{row_at, byte_at, mask_from, Swept}

module _ (fill : Fill) (log : List Deposit) (rows width : ℕ) (up : Bool) (pitch : ℕ) where
  pub mask_long : (i : ℕ) (bs : List ℕ) → length (mask_from fill log rows width up pitch i bs) ≡ length bs
  unfolding mask_from
  mask_long i [] = refl
  mask_long i (b ∷ bs) = ap suc (mask_long (i + 1) bs)

  pub mask_at : (i : ℕ) (bs : List ℕ) (k : ℕ) → k < length bs → get_or (mask_from fill log rows width up pitch i bs) k 0 ≡ byte_at fill log rows width up pitch (i + k) (get_or bs k 0)
  unfolding mask_from
  mask_at i [] k h = absurd (omega arith)
  mask_at i (b ∷ bs) zero h = ap (λ (n : ℕ). byte_at fill log rows width up pitch n b) (omega arith)
  mask_at i (b ∷ bs) (suc k) h = mask_at (i + 1) bs k (omega arith) ∙ ap (λ (n : ℕ). byte_at fill log rows width up pitch n (get_or bs k 0)) (omega arith)

-- the line and the column of a byte
pub line_of_is : (pitch l x : ℕ) → x < pitch → (pitch * l + x) / pitch ≡ l
line_of_is pitch l x h = let p : 0 < pitch = omega arith in mul-add-div p l x ∙ ap (λ (n : ℕ). l + n) (div-eq_of_lt h) ∙ omega arith

pub column_of : (pitch l x : ℕ) → x < pitch → (pitch * l + x) % pitch ≡ x
column_of pitch l x h = mul-add-mod_self_left pitch l x ∙ mod-eq_of_lt h

-- a mask whose bytes are the rule's is the rule's mask
module _ (fill : Fill) (log : List Deposit) (rows width : ℕ) (up : Bool) (pitch : ℕ) (before after : List ℕ) (fits : width ≤ pitch) (long : length after ≡ length before)
    (painted : (l x : ℕ) → l < rows → x < width → get_or after (pitch * l + x) 0 ≡ pixel fill log (row_at up rows l) x)
    (kept : (i : ℕ) → ((l x : ℕ) → l < rows → x < width → i ≡ pitch * l + x → ⊥) → get_or after i 0 ≡ get_or before i 0) where
  -- no pixel's byte
  other : (i : ℕ) → ((i / pitch < rows) × (i % pitch < width) → ⊥) → get_or after i 0 ≡ get_or before i 0
  other i n =
      kept i
      (λ l x a b e.
      let q : i / pitch ≡ l = ap (λ (k : ℕ). k / pitch) e ∙ line_of_is pitch l x (omega arith) in
      let r : i % pitch ≡ x = ap (λ (k : ℕ). k % pitch) e ∙ column_of pitch l x (omega arith) in
      n (omega arith, omega arith))

  byte_is : (i : ℕ) → Dec (i / pitch < rows) → Dec (i % pitch < width) → get_or after i 0 ≡ byte_at fill log rows width up pitch i (get_or before i 0)
  byte_is i (yes a) (yes b) =
      rw (lt-ltb (i / pitch) rows a, lt-ltb (i % pitch) width b)
      (ap (λ (k : ℕ). get_or after k 0) (sym (div-add-mod i pitch)) ∙ painted (i / pitch) (i % pitch) a b)
  byte_is i (yes a) (no b) = let g : width ≤ i % pitch = omega arith in rw (lt-ltb (i / pitch) rows a, le-ltb (i % pitch) width g) (other i (λ k. b k.1))
  byte_is i (no a) b = let g : rows ≤ i / pitch = omega arith in rw (le-ltb (i / pitch) rows g) (other i (λ k. a k.0))

  pub mask_by_bytes : after ≡ mask_from fill log rows width up pitch 0 before
  mask_by_bytes =
      ext_get_or 0 after (mask_from fill log rows width up pitch 0 before) (long ∙ sym (mask_long fill log rows width up pitch 0 before))
      (λ i h.
      let e : 0 + i ≡ i = omega arith in
      byte_is i (dec_lt (i / pitch) rows) (dec_lt (i % pitch) width)
      ∙ sym (rw e at (mask_at fill log rows width up pitch 0 before i (omega (arith, long)))))

pub mask_is : {words before after : List ℕ} {rows count width : ℕ} {fill : Fill} {up : Bool} {pitch : ℕ} {log : List Deposit} → width ≤ pitch
    → Swept words before after rows count width fill up pitch → Holds words rows width count log → after ≡ mask_from fill log rows width up pitch 0 before
mask_is {before = before} {after} {rows} {width = width} {fill} {up} {pitch} {log} fits S P =
    mask_by_bytes fill log rows width up pitch before after fits S.long (S.painted log P) S.kept
