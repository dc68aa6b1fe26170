-- The parts on the stack, and the points that are left, from the top down. Halving the top or taking it off keeps the points in order.
use Prim.Native.Nat.{ℕ, zero, suc, ◌+◌, ◌-◌, ◌*◌, ◌/◌, ◌%◌, ◌^◌, ◌≤◌, ◌<◌}
use mathlib.Core.Path.{◌≡◌, refl, sym, ap, ◌∙◌, subst}
use mathlib.Core.List.{List, [], ◌∷◌, ◌++◌, append_assoc, append-nil}
use mathlib.Core.Logic.{⊎_elim}
use native.Mathlib.Omega.{arith}
use native.Mathlib.Nat.{pow-suc, add_comm, eq-zero-or-pos}
use lib.ListN.{length, set, length-set, replicate}
use lib.Pow.{pow_pos}
use Rattle.fixed.specs.declared.FixedPoint.{FixedPoint}
use Rattle.fixed.specs.Split.{zero_point, point_of, mid, mid4, split_quad, Every}
use Rattle.fixed.proofs.Range.{quad_keeps}
use Rattle.fixed.proofs.Stored.{puts, puts_low, puts_at}
use Rattle.line.specs.Range.{Reach}
use Rattle.line.proofs.Points.{reach_kept}
use Rattle.quad.specs.Quads.{quad_halves}
use Rattle.quad.specs.Stack.{part_at, above, halved}
use Rattle.quad.proofs.Depths.{Rising, none, more, rising_few, rising_from, lines, lines_few, lines_by, odd_multiple, even_deep, half_odd, odd_flat}

-- those of a part of depth e at place i
abbrev points : ℕ → List FixedPoint → ℕ → List FixedPoint
points e l i = quad_halves e (point_of l (i + 2)) (point_of l (i + 1)) (point_of l i)

-- those of the parts, from the top down
unfoldable pub waiting : List FixedPoint → List ℕ → List FixedPoint
waiting l [] = []
waiting l (e ∷ es) = points e l (2 * length es) ++ waiting l es

waiting_same : (l m : List FixedPoint) (es : List ℕ) → ((i : ℕ) → i ≤ 2 * length es → point_of l i ≡ point_of m i) → waiting l es ≡ waiting m es
unfolding waiting
waiting_same l m [] h = refl
waiting_same l m (e ∷ es) h =
    let r = waiting_same l m es (λ i g. h i (omega arith)) in
    rw (h (2 * length es) (omega arith), h (2 * length es + 1) (omega arith), h (2 * length es + 2) (omega arith), r)

four : List FixedPoint → List FixedPoint
four s = point_of s 1 ∷ point_of s 2 ∷ point_of s 3 ∷ point_of s 4 ∷ []

above_is : (l : List FixedPoint) (a : ℕ) (s : List FixedPoint) → above l a s ≡ puts l (a + 1) (four s)
unfolding four
above_is l a s =
    let e2 : a + 1 + 1 ≡ a + 2 = omega arith in
    let e3 : a + 2 + 1 ≡ a + 3 = omega arith in
    let e4 : a + 3 + 1 ≡ a + 4 = omega arith in
    rw (e2, e3, e4)

-- ---- the part at place a is halved
mid_flip : (a b : FixedPoint) → mid a b ≡ mid b a
mid_flip a b = rw (add_comm a.x b.x, add_comm a.y b.y)

mid4_flip : (a c b : FixedPoint) → mid4 a c b ≡ mid4 b c a
mid4_flip a c b =
    let x : a.x + 2 * c.x + b.x ≡ b.x + 2 * c.x + a.x = omega arith in
    let y : a.y + 2 * c.y + b.y ≡ b.y + 2 * c.y + a.y = omega arith in
    rw (x, y)

module _ (l : List FixedPoint) (a : ℕ) (room : a + 4 < length l) where
  low : (i : ℕ) → i ≤ a → point_of (halved l a) i ≡ point_of l i
  unfolding halved
  low i h = rw (above_is l a (split_quad (part_at l a))) (puts_low l (a + 1) (four (split_quad (part_at l a))) i (omega arith))

  at : (i : ℕ) → i < 4 → point_of (halved l a) (a + 1 + i) ≡ point_of (split_quad (part_at l a)) (suc i)
  unfolding halved four
  at i h = rw (above_is l a (split_quad (part_at l a))) (puts_at l (a + 1) (four (split_quad (part_at l a))) i (omega arith) h ∙ shift (split_quad (part_at l a)) i h)
    where
      shift : (s : List FixedPoint) (i : ℕ) → i < 4 → point_of (four s) i ≡ point_of s (suc i)
      shift s zero h = refl
      shift s (suc zero) h = refl
      shift s (suc (suc zero)) h = refl
      shift s (suc (suc (suc zero))) h = refl
      shift s (suc (suc (suc (suc i)))) h = absurd (omega arith)

  at_place : (i j : ℕ) → i < 4 → j ≡ a + 1 + i → point_of (halved l a) j ≡ point_of (split_quad (part_at l a)) (suc i)
  at_place i j h e = ap (point_of (halved l a)) e ∙ at i h

  -- its start half, then its end half
  in_halves : (e : ℕ) → points (suc e) l a ≡ points e (halved l a) (a + 2) ++ points e (halved l a) a
  unfolding quad_halves split_quad
  in_halves e =
      let p = point_of l a in
      let q = point_of l (a + 1) in
      let r = point_of l (a + 2) in
      let h0 : point_of (halved l a) a ≡ p = low a (omega arith) in
      let h1 : point_of (halved l a) (a + 1) ≡ mid q p = at_place 0 (a + 1) (omega arith) (omega arith) ∙ mid_flip p q in
      let h2 : point_of (halved l a) (a + 2) ≡ mid4 r q p = at_place 1 (a + 2) (omega arith) (omega arith) ∙ mid4_flip p q r in
      let h3 : point_of (halved l a) (a + 2 + 1) ≡ mid r q = at_place 2 (a + 2 + 1) (omega arith) (omega arith) ∙ mid_flip q r in
      let h4 : point_of (halved l a) (a + 2 + 2) ≡ r = at_place 3 (a + 2 + 2) (omega arith) (omega arith) in
      rw (h0, h1, h2, h3, h4)

  part_reach : Every Reach (a + 3) l → Every Reach 3 (part_at l a)
  part_reach o = record { at = go }
    where
      go : (i : ℕ) → i < 3 → Reach (point_of (part_at l a) i)
      go zero h = o.at a (omega arith)
      go (suc zero) h = o.at (a + 1) (omega arith)
      go (suc (suc zero)) h = o.at (a + 2) (omega arith)
      go (suc (suc (suc i))) h = absurd (omega arith)

  halved_reach : Every Reach (a + 3) l → Every Reach (a + 2 + 3) (halved l a)
  halved_reach o = record { at = λ i h. ⊎_elim (below i) (higher i h) (eq-zero-or-pos (i - a)) }
    where
      five : Every Reach 5 (split_quad (part_at l a))
      five = quad_keeps reach_kept (part_reach o)

      below : (i : ℕ) → i - a ≡ 0 → Reach (point_of (halved l a) i)
      below i g = rw (low i (omega arith)) (o.at i (omega arith))

      higher : (i : ℕ) → i < a + 2 + 3 → 0 < i - a → Reach (point_of (halved l a) i)
      higher i h g = rw (at_place (i - a - 1) i (omega arith) (omega arith)) (five.at (suc (i - a - 1)) (omega arith))

-- ---- the whole stack, with its top at a: so many lines are left to draw, and these points; rest is an odd multiple of the top's lines
pub record Stacked (l : List FixedPoint) (a draw rest : ℕ) (left : List FixedPoint) : Type 0 where
  pub top : ℕ
  pub under : List ℕ
  pub odd : ℕ
  pub long : length l ≡ 33
  pub place : a ≡ 2 * length under
  pub rising : Rising top under
  pub count : draw ≡ 2 ^ top + lines under
  pub halvings : rest ≡ 2 ^ top * (2 * odd + 1)
  pub reach : Every Reach (a + 3) l
  pub points_left : left ≡ waiting l (top ∷ under)

module _ {l : List FixedPoint} {a draw rest : ℕ} {left : List FixedPoint} (s : Stacked l a draw rest left) where
  -- the stack is never full: 19 of its 33 places at most are in use
  pub never_full : a + 3 ≤ 19
  never_full = omega (arith, s.place, rising_few s.top s.under s.rising)

  pub few_left : draw ≤ 256
  few_left = omega (arith, s.count, lines_few s.top s.under s.rising)

  pub some_left : 1 ≤ draw
  some_left = omega (arith, s.count, pow_pos s.top)

  module _ (h : rest % 2 ≡ 0) where
    deep : (e : ℕ) × (s.top ≡ suc e)
    deep = even_deep s.top s.odd rest s.halvings h

    pub room : a ≤ 14
    room = omega (arith, s.place, deep.1, rising_few s.top s.under s.rising)

    pub pushed : Stacked (halved l a) (a + 2) draw (rest / 2) left
    unfolding lines waiting halved
    pushed =
        let e = deep.0 in
        let p = deep.1 in
        let n = halved l a in
        let fits : a + 4 < length l = omega (arith, s.long, room) in
        let es = s.under in
        let u : 2 * length es ≡ a = sym s.place in
        let v : 2 * length (e ∷ es) ≡ a + 2 = omega (arith, u) in
        record {
          top = e;
          under = e ∷ es;
          odd = s.odd;
          long = simp length-set s.long;
          place = sym v;
          rising = more {d = e} {e = e} {es = es} (omega arith) (subst (λ (t : ℕ). Rising t es) p s.rising);
          count = omega (arith, s.count, ap (λ (t : ℕ). 2 ^ t) p, pow-suc 2 e);
          halvings = omega (arith, s.halvings, ap (λ (t : ℕ). 2 ^ t * (2 * s.odd + 1)) p, half_odd e s.odd);
          reach = halved_reach l a fits s.reach;
          points_left =
              s.points_left
              ∙ ap (λ (t : ℕ). waiting l (t ∷ es)) p
              ∙ ap (λ (i : ℕ). points (suc e) l i ++ waiting l es) u
              ∙ ap (λ (ps : List FixedPoint). ps ++ waiting l es) (in_halves l a fits e)
              ∙ append_assoc (points e n (a + 2)) (points e n a) (waiting l es)
              ∙ ap (λ (ps : List FixedPoint). points e n (a + 2) ++ (points e n a ++ ps)) (sym (waiting_same n l es (λ i g. low l a fits i (omega (arith, u)))))
              ∙ ap (λ (i : ℕ). points e n (a + 2) ++ (points e n i ++ waiting n es)) (sym u)
              ∙ ap (λ (i : ℕ). points e n i ++ waiting n (e ∷ es)) (sym v);
        }

-- ---- the top is taken off: its end comes next, and then what is left
none_left : (l : List FixedPoint) (es : List ℕ) → lines es ≡ 0 → waiting l es ≡ []
unfolding lines waiting
none_left l [] h = refl
none_left l (e ∷ es) h = absurd (omega (arith, h, pow_pos e))

pub record Popped (l : List FixedPoint) (a draw : ℕ) (left : List FixedPoint) : Type 0 where
  pub next : List FixedPoint
  pub is : left ≡ point_of l a ∷ next
  pub last : draw - 1 ≡ 0 → next ≡ []
  pub low_enough : (draw - 1 ≡ 0 → ⊥) → 2 ≤ a
  pub stack : (draw - 1 ≡ 0 → ⊥) → Stacked l (a - 2) (draw - 1) (draw - 1) next

pub popped : {l : List FixedPoint} {a draw rest : ℕ} {left : List FixedPoint} → Stacked l a draw rest left → (rest % 2 ≡ 0 → ⊥) → Popped l a draw left
unfolding lines waiting quad_halves
popped {l} {a} {draw} {rest} {left} s h =
    let z = odd_flat s.top s.odd rest s.halvings h in
    let n : draw ≡ 1 + lines s.under = s.count ∙ ap (λ (t : ℕ). 2 ^ t + lines s.under) z in
    record {
      next = waiting l s.under;
      is = s.points_left ∙ ap (λ (t : ℕ). waiting l (t ∷ s.under)) z ∙ ap (λ (i : ℕ). point_of l i ∷ waiting l s.under) (sym s.place);
      last = λ g. none_left l s.under (omega arith);
      low_enough = λ g. two s.under s.place (λ e. g (omega arith));
      stack = λ g. go s.under s.place (subst (λ (t : ℕ). Rising t s.under) z s.rising) n g;
    }
  where
    two : (es : List ℕ) → a ≡ 2 * length es → (lines es ≡ 0 → ⊥) → 2 ≤ a
    two [] p g = absurd (g refl)
    two (e ∷ es) p g = omega (arith, p)

    go : (es : List ℕ) → a ≡ 2 * length es → Rising 0 es → draw ≡ 1 + lines es → (draw - 1 ≡ 0 → ⊥) → Stacked l (a - 2) (draw - 1) (draw - 1) (waiting l es)
    go [] p r n g = absurd (g (omega arith))
    go (e ∷ es) p (more k r) n g =
        let m = lines_by (suc e) es r in
        record {
          top = e;
          under = es;
          odd = m.0;
          long = s.long;
          place = omega (arith, p);
          rising = rising_from e es r;
          count = omega (arith, n);
          halvings = omega (arith, n, odd_multiple e (lines es) m.0 m.1);
          reach = record { at = λ i q. s.reach.at i (omega arith) };
          points_left = refl;
        }

-- ---- at first the whole quad is the one part
abbrev pub begin : FixedPoint → FixedPoint → FixedPoint → List FixedPoint
begin a c b = set (set (set (replicate 33 zero_point) 0 b) 1 c) 2 a

pub begun : (a c b : FixedPoint) (k draw : ℕ) → Reach a → Reach c → Reach b → k ≤ 8 → draw ≡ 2 ^ k → Stacked (begin a c b) 0 draw draw (quad_halves k a c b)
unfolding lines waiting
begun a c b k draw p q r h e =
    record {
      top = k;
      under = [];
      odd = 0;
      long = refl;
      place = refl;
      rising = none {d = k} h;
      count = omega arith;
      halvings = omega arith;
      reach = record { at = go };
      points_left = sym (append-nil (quad_halves k a c b));
    }
  where
    go : (i : ℕ) → i < 3 → Reach (point_of (begin a c b) i)
    go zero g = r
    go (suc zero) g = q
    go (suc (suc zero)) g = p
    go (suc (suc (suc i))) g = absurd (omega arith)
