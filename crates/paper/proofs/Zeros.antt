-- Zeros: a zero times a finite number is a zero, and added to a number it changes nothing but the sign of a zero.
use Prim.Native.Nat.{ℕ, ◌+◌, ◌-◌, ◌*◌, ◌<◌}
use mathlib.Core.Path.{◌≡◌, refl, sym, ap, ◌∙◌}
use mathlib.Core.Bool.{Bool, true, false, cond, ◌&&◌, true≢false}
use mathlib.Core.Logic.{inl, inr, ⊎_elim}
use native.Mathlib.Omega.{arith}
use native.Mathlib.Nat.{zero-mul, mul-zero, mul-pos}
use borrow.Author.Tests.{lt-ltb, le-ltb}
use lib.Dec.{ltb, lit≤}
use lib.IntN.{ℤ, pos}
use lib.Ieee.{Float, nan, inf, fin, binary32, up, down, unlike, round, sum, add, mul}
use lib.Ieee.Fits.{down_pos}
use lib.Ieee.Scale.{round_same, finite}
use Rattle.float.proofs.Differences.{which}
use Rattle.paper.specs.Floats.{◌⊕◌, ◌⊗◌}
use Rattle.paper.specs.Combining.{Is, Same}
use Rattle.paper.proofs.Wholes.{size_of}

abbrev pub Zero : Float → Type 0
Zero v = (s : Bool) × (v ≡ fin s 0 (pos 0))

zero_round : (s : Bool) (a c : ℕ) → 0 < c → a ≡ 0 → round binary32 s a c ≡ fin s 0 (pos 0)
unfolding round
zero_round s a c C h = round_same binary32 s a c 0 1 C (lit≤ tt) (rw h (sym (zero-mul c)))

no_size : (s : Bool) (m : ℕ) (e : ℤ) → Is (fin s m e) (pos 0) → m * up e ≡ 0
unfolding Is
no_size s m e (n, h, z) = h ∙ ap (λ (k : ℕ). k * down e) (sym (size_of s n (pos 0) z)) ∙ zero-mul (down e)

pub zero_times : (u v : Float) → Is u (pos 0) → finite v ≡ true → Zero (u ⊗ v) × Zero (v ⊗ u)
unfolding mul
zero_times nan v z h = unfold Is in absurd z
zero_times (inf t) v z h = unfold Is in absurd z
zero_times (fin t m e) nan z h = absurd (true≢false (sym h))
zero_times (fin t m e) (inf r) z h = absurd (true≢false (sym h))
zero_times (fin t m e) (fin r n d) z h =
    let o = no_size t m e z in (
      (unlike t r, zero_round (unlike t r) _ _ (mul-pos (down_pos e) (down_pos d)) (rw o (zero-mul (n * up d)))),
      (unlike r t, zero_round (unlike r t) _ _ (mul-pos (down_pos d) (down_pos e)) (rw o (mul-zero (n * up d)))),
    )

-- ---- sums
zero_fin : (s : Bool) → Is (fin s 0 (pos 0)) (pos 0)
unfolding Is
zero_fin false = (0, refl, refl)
zero_fin true = (0, refl, refl)

zero_of : (v : Float) → Zero v → Is v (pos 0)
zero_of v (s, h) = rw h (zero_fin s)

and_true : (s : Bool) → (s && true) ≡ s
and_true false = refl
and_true true = refl

module _ (c : ℕ) (C : 0 < c) (a b : ℕ) where
  unlike_second : (s r : Bool) → b ≡ 0 → 0 < a
      → cond (ltb a b) (round binary32 r (b - a) c) (round binary32 (s && ltb b a) (a - b) c) ≡ round binary32 s a c
  unlike_second s r o h =
      let e : a - b ≡ a = omega arith in
      rw (le-ltb a b (omega arith), lt-ltb b a (omega arith), e, and_true s)

  second_zero : (s t : Bool) → b ≡ 0 → 0 < a → sum binary32 s a t b c ≡ round binary32 s a c
  unfolding sum
  second_zero false false o h = ap (λ (k : ℕ). round binary32 false k c) (omega arith)
  second_zero false true o h = unlike_second false true o h
  second_zero true false o h = unlike_second true false o h
  second_zero true true o h = ap (λ (k : ℕ). round binary32 true k c) (omega arith)

  unlike_first : (v : Float) (r : Bool) → a ≡ 0 → 0 < b → cond (ltb a b) (round binary32 r (b - a) c) v ≡ round binary32 r b c
  unlike_first v r o h =
      let e : b - a ≡ b = omega arith in
      rw (lt-ltb a b (omega arith), e)

  first_zero : (s t : Bool) → a ≡ 0 → 0 < b → sum binary32 s a t b c ≡ round binary32 t b c
  unfolding sum
  first_zero false false o h = ap (λ (k : ℕ). round binary32 false k c) (omega arith)
  first_zero false true o h = unlike_first _ true o h
  first_zero true false o h = unlike_first _ false o h
  first_zero true true o h = ap (λ (k : ℕ). round binary32 true k c) (omega arith)

  unlike_both : (s r : Bool) → a ≡ 0 → b ≡ 0 → Zero (cond (ltb a b) (round binary32 r (b - a) c) (round binary32 (s && ltb b a) (a - b) c))
  unlike_both s r o h = rw (le-ltb a b (omega arith)) (s && ltb b a, zero_round (s && ltb b a) (a - b) c C (omega arith))

  both_zero : (s t : Bool) → a ≡ 0 → b ≡ 0 → Zero (sum binary32 s a t b c)
  unfolding sum
  both_zero false false o h = (false, zero_round false (a + b) c C (omega arith))
  both_zero false true o h = unlike_both false true o h
  both_zero true false o h = unlike_both true false o h
  both_zero true true o h = (true, zero_round true (a + b) c C (omega arith))

pub right_zero : (v : Float) (s t : Bool) → Same (v ⊕ fin s 0 (pos 0)) (v ⊕ fin t 0 (pos 0))
unfolding add
right_zero nan s t = inl refl
right_zero (inf r) s t = inl refl
right_zero (fin r m e) s t =
    let C : 0 < down e * 1 = mul-pos (down_pos e) (lit≤ tt) in
    let o = zero-mul (down e) in
    ⊎_elim
    (λ h. inl (second_zero _ C _ _ r s o h ∙ sym (second_zero _ C _ _ r t o h)))
    (λ h. inr (zero_of _ (both_zero _ C _ _ r s (omega arith) o), zero_of _ (both_zero _ C _ _ r t (omega arith) o)))
    (which 0 (m * up e * 1))

pub left_zero : (v : Float) (s t : Bool) → Same (fin s 0 (pos 0) ⊕ v) (fin t 0 (pos 0) ⊕ v)
unfolding add
left_zero nan s t = inl refl
left_zero (inf r) s t = inl refl
left_zero (fin r m e) s t =
    let C : 0 < 1 * down e = mul-pos (lit≤ tt) (down_pos e) in
    let o = zero-mul (down e) in
    ⊎_elim
    (λ h. inl (first_zero _ C _ _ s r o h ∙ sym (first_zero _ C _ _ t r o h)))
    (λ h. inr (zero_of _ (both_zero _ C _ _ s r o (omega arith)), zero_of _ (both_zero _ C _ _ t r o (omega arith))))
    (which 0 (m * up e * 1))

pub zeros_sum : (u v : Float) → Zero u → Zero v → Is (u ⊕ v) (pos 0)
zeros_sum u v (s, f) (t, g) = rw (f, g) (go s t)
  where
    go : (s t : Bool) → Is (fin s 0 (pos 0) ⊕ fin t 0 (pos 0)) (pos 0)
    go s t = unfold add in zero_of _ (both_zero 1 (lit≤ tt) 0 0 s t refl refl)
