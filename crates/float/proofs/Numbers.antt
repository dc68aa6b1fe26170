-- The whole numbers around a float, from its cut: toward zero it is the whole part, away from zero one more where something was cut off. Assumes nothing.
use mathlib.Core.Path.{◌≡◌, refl, sym, ap, ◌∙◌}
use Prim.Native.Nat.{ℕ, ◌+◌, ◌-◌, ◌*◌, ◌/◌, ◌%◌, ◌^◌, ◌≤◌, ◌<◌}
use native.Mathlib.Nat.{add-zero, zero-div, zero-mod}
use native.Mathlib.Omega.{arith}
use mathlib.Core.Bool.{Bool, true, false, not, cond}
use lib.Dec.{ltb, eqb}
use lib.IntN.{ℤ, pos, neg_ℤ, neg_ℤ-neg_ℤ}
use lib.Ieee.{Float, nan, inf, fin, up, down, lt, neg}
use lib.Ieee.Fits.{down_pos}
use borrow.Author.Tests.{ltb-true, ltb-false, eqb-true, eqb-false, eq-eqb}
use Rattle.std.specs.Prelude.{None}
use Rattle.float.specs.declared.Cut.{Cut}
use Rattle.float.specs.Cut.{zero_f, near, sized_of, cut_of}
use Rattle.float.specs.Round.{floor_z, ceil_z}
use Rattle.float.proofs.Fitting.{below_zero}
use Rattle.float.proofs.Rounding.{up_whole, up_more}

-- ---- what a near cut says of the float, and a far one
pub record Cuts (s : Bool) (m : ℕ) (e : ℤ) (b : Bool) (n : ℕ) (r : Bool) : Type 0 where
  pub below : lt (fin s m e) zero_f ≡ b
  pub size : m * up e / down e ≡ n
  pub rest : not (eqb (m * up e % down e) 0) ≡ r
  pub small : n < 2 ^ 24

pub cuts : (s : Bool) (m : ℕ) (e : ℤ) (b : Bool) (n : ℕ) (r : Bool) → cut_of (fin s m e) ≡ near b n r → Cuts s m e b n r
unfolding sized_of
cuts s m e b n r = go (ltb (m * up e / down e) (2 ^ 24)) refl
  where
    go : (u : Bool) → ltb (m * up e / down e) (2 ^ 24) ≡ u → cond u (near (lt (fin s m e) zero_f) (m * up e / down e) (not (eqb (m * up e % down e) 0))) None ≡ near b n r → Cuts s m e b n r
    go true h p =
        let q : ◌≡◌ {A = Cut} (record { below = lt (fin s m e) zero_f; whole = m * up e / down e; rest = not (eqb (m * up e % down e) 0) }) (record { below = b; whole = n; rest = r }) = cc in
        let size : m * up e / down e ≡ n = ap (λ (cut : Cut). cut.whole) q in
        record { below = ap (λ (cut : Cut). cut.below) q; size = size; rest = ap (λ (cut : Cut). cut.rest) q; small = omega (arith, size, ltb-true (m * up e / down e) (2 ^ 24) h) }
    go false h p = absurd (let z : ◌≡◌ {A = ℕ} 0 1 = cc in omega arith)

pub beyond : (s : Bool) (m : ℕ) (e : ℤ) → cut_of (fin s m e) ≡ None → 2 ^ 24 ≤ m * up e / down e
unfolding sized_of
beyond s m e = go (ltb (m * up e / down e) (2 ^ 24)) refl
  where
    go : (u : Bool) → ltb (m * up e / down e) (2 ^ 24) ≡ u → cond u (near (lt (fin s m e) zero_f) (m * up e / down e) (not (eqb (m * up e % down e) 0))) None ≡ None → 2 ^ 24 ≤ m * up e / down e
    go true h p = absurd (let z : ◌≡◌ {A = ℕ} 0 1 = cc in omega arith)
    go false h p = ltb-false _ _ h

-- ---- away from zero
away : (a d : ℕ) → 0 < d → (a + (d - 1)) / d ≡ a / d + cond (not (eqb (a % d) 0)) 1 0
away a d h = go (eqb (a % d) 0) refl
  where
    go : (u : Bool) → eqb (a % d) 0 ≡ u → (a + (d - 1)) / d ≡ a / d + cond (not (eqb (a % d) 0)) 1 0
    go true p = up_whole a d h (eqb-true _ _ p) ∙ sym (add-zero (a / d)) ∙ ap (λ (u : Bool). a / d + cond (not u) 1 0) (sym p)
    go false p = up_more a d h (eqb-false _ _ p) ∙ ap (λ (u : Bool). a / d + cond (not u) 1 0) (sym p)

-- the float has the sign: where it is not below zero it is a zero
signed : (a d : ℕ) (b : Bool) (n k : ℕ) → 0 < d → not (eqb a 0) ≡ b → a / d ≡ n → a / d + cond (not (eqb (a % d) 0)) 1 0 ≡ k → (neg_ℤ (pos k) ≡ cond b (neg_ℤ (pos k)) (pos n)) × (neg_ℤ (pos n) ≡ cond b (neg_ℤ (pos n)) (pos k))
signed a d true n k h p q w = (refl, refl)
signed a d false n k h p q w =
    let z : a ≡ 0 = none (eqb a 0) refl in
    let zn : n ≡ 0 = sym q ∙ ap (λ (x : ℕ). x / d) z ∙ zero-div d in
    let zr : eqb (a % d) 0 ≡ true = eq-eqb _ _ (ap (λ (x : ℕ). x % d) z ∙ zero-mod d) in
    let zk : k ≡ 0 = sym w ∙ ap (λ (x : ℕ). x + cond (not (eqb (a % d) 0)) 1 0) (q ∙ zn) ∙ ap (λ (u : Bool). 0 + cond (not u) 1 0) zr in
    (ap (λ (x : ℕ). neg_ℤ (pos x)) zk ∙ ap pos (sym zn), ap (λ (x : ℕ). neg_ℤ (pos x)) zn ∙ ap pos (sym zk))
  where
    none : (u : Bool) → eqb a 0 ≡ u → a ≡ 0
    none true e = eqb-true _ _ e
    none false e = absurd (let x : ◌≡◌ {A = Bool} true false = ap not (sym e) ∙ p in let y : ◌≡◌ {A = ℕ} 0 1 = cc in omega arith)

abbrev pub Around : Float → Bool → ℕ → ℕ → Type 0
Around v b n k = (floor_z v ≡ cond b (neg_ℤ (pos k)) (pos n)) × (ceil_z v ≡ cond b (neg_ℤ (pos n)) (pos k))

pub around_cut : (v : Float) (b : Bool) (n : ℕ) (r : Bool) → cut_of v ≡ near b n r → Around v b n (n + cond r 1 0)
unfolding sized_of floor_z ceil_z neg
around_cut nan b n r p = absurd (let z : ◌≡◌ {A = ℕ} 0 1 = cc in omega arith)
around_cut (inf s) b n r p = absurd (let z : ◌≡◌ {A = ℕ} 0 1 = cc in omega arith)
around_cut (fin s m e) b n r p = go s (cuts s m e b n r p)
  where
    next : (s : Bool) → Cuts s m e b n r → m * up e / down e + cond (not (eqb (m * up e % down e) 0)) 1 0 ≡ n + cond r 1 0
    next s k = ap (λ (x : ℕ). x + cond (not (eqb (m * up e % down e) 0)) 1 0) k.size ∙ ap (λ (u : Bool). n + cond u 1 0) k.rest

    more : (s : Bool) → Cuts s m e b n r → (m * up e + (down e - 1)) / down e ≡ n + cond r 1 0
    more s k = away (m * up e) (down e) (down_pos e) ∙ next s k

    go : (s : Bool) → Cuts s m e b n r → Around (fin s m e) b n (n + cond r 1 0)
    go false k =
        let z : b ≡ false = sym k.below ∙ below_zero false m e in (
          ap pos k.size ∙ sym (ap (λ (u : Bool). cond u (neg_ℤ (pos (n + cond r 1 0))) (pos n)) z),
          neg_ℤ-neg_ℤ (pos ((m * up e + (down e - 1)) / down e)) ∙ ap pos (more false k) ∙ sym (ap (λ (u : Bool). cond u (neg_ℤ (pos n)) (pos (n + cond r 1 0))) z),
        )
    go true k =
        let w = signed (m * up e) (down e) b n (n + cond r 1 0) (down_pos e) (sym (below_zero true m e) ∙ k.below) k.size (next true k) in
        (ap (λ (x : ℕ). neg_ℤ (pos x)) (more true k) ∙ w.0, ap (λ (x : ℕ). neg_ℤ (pos x)) k.size ∙ w.1)
