-- Between two steps of the loop: the marks that the pen has made, and then those of lines from its point along the stack's points, are the curve's.
-- A split changes no point that is to come. A part that is drawn was the first of them.
use Prim.Native.Nat.{ℕ, zero, suc, ◌+◌, ◌-◌, ◌*◌, ◌/◌, ◌≤◌, ◌<◌}
use mathlib.Core.Path.{◌≡◌, refl, sym, ap, ◌∙◌, subst}
use mathlib.Core.Bool.{true, false}
use mathlib.Core.List.{List, [], ◌∷◌, ◌++◌, append_assoc, append-nil}
use native.Mathlib.Omega.{arith}
use lib.ListN.{length, set, replicate}
use Rattle.storage.specs.Answers.{Within}
use Rattle.fixed.specs.declared.FixedPoint.{FixedPoint}
use Rattle.fixed.specs.Split.{zero_point, point_of, split_cubic, Every}
use Rattle.fixed.proofs.Range.{cubic_keeps}
use Rattle.pen.specs.declared.boards.Board.{Board}
use Rattle.pen.specs.declared.Pen.{Pen}
use Rattle.pen.specs.Marks.{Mark}
use Rattle.pen.specs.Drawing.{Drew}
use Rattle.pen.proofs.Adding.{drew_then, drew_none}
use Rattle.line.specs.Range.{Reach}
use Rattle.line.specs.Lines.{line_marks, along}
use Rattle.line.proofs.Points.{along_next, along_none, reach_kept}
use Rattle.cubic.specs.Cubics.{curved, cubic, cubic_points, start_half, end_half}
use Rattle.cubic.specs.Depth.{Four}
use Rattle.cubic.proofs.Depth.{reach_flat}
use Rattle.cubic.proofs.Run.{Stacked, none, more, points, steps, flat_points, flat_steps, split_stacked, split_few, split_points, split_steps, reach_points}
use Rattle.cubic.proofs.Stack.{cubic_at, cubics, stack, stack_top, cubics_length, put6, put6_length, segment, pushed, pushed_every}

-- the array holds a stack whose top is at a
pub record Standing (arc : List FixedPoint) (a : ℕ) : Type 0 where
  pub long : length arc ≡ 129
  pub low : a ≤ 123
  pub by3 : 3 * (a / 3) ≡ a
  pub reach : Every Reach (a + 4) arc
  pub deep : Stacked (stack arc a)

pub record Going (board : Board) (ws₀ : List ℕ) (start : Pen) (curve : List Mark) (ws : List ℕ) (arc : List FixedPoint) (a : ℕ) (pen : Pen) (from : FixedPoint) : Type 0 where
  pub standing : Standing arc a
  pub from_in : Reach from
  pub made : List Mark
  pub drew : Drew board ws₀ ws start pen made
  pub rest : made ++ along board.frame from (points (stack arc a)) ≡ curve

module _ (arc : List FixedPoint) (a : ℕ) (h : Standing arc a) where
  top : stack arc a ≡ cubic_at arc a ∷ cubics arc (a / 3)
  top = stack_top arc a h.by3

  top_deep : Stacked (cubic_at arc a ∷ cubics arc (a / 3))
  top_deep = subst Stacked top h.deep

  -- ---- the top is curved
  module _ (e : curved (cubic_at arc a) ≡ true) where
    -- the stack is not full
    pub room : a ≤ 24
    room = omega (arith, split_few (cubic_at arc a) (cubics arc (a / 3)) e top_deep, cubics_length arc (a / 3), h.by3)

    module _ (s : List FixedPoint) (q : s ≡ split_cubic (segment arc a)) where
      fits : a + 6 < length arc
      fits = omega (arith, h.long, room)

      new : stack (put6 arc a s) (a + 3) ≡ start_half (cubic_at arc a) ∷ end_half (cubic_at arc a) ∷ cubics arc (a / 3)
      new = pushed arc a s fits q h.by3

      four_in : Every Reach 4 (segment arc a)
      four_in = record { at = go }
        where
          go : (i : ℕ) → i < 4 → Reach (point_of (segment arc a) i)
          go zero g = h.reach.at a (omega arith)
          go (suc zero) g = h.reach.at (a + 1) (omega arith)
          go (suc (suc zero)) g = h.reach.at (a + 2) (omega arith)
          go (suc (suc (suc zero))) g = h.reach.at (a + 3) (omega arith)
          go (suc (suc (suc (suc i)))) g = absurd (omega arith)

      pub split_standing : Standing (put6 arc a s) (a + 3)
      split_standing =
          let u : a + 3 + 4 ≡ a + 7 = omega arith in
          record {
            long = put6_length arc a s ∙ h.long;
            low = omega (arith, room);
            by3 = omega (arith, h.by3);
            reach = rw u (pushed_every arc a s fits q h.reach (cubic_keeps reach_kept four_in));
            deep = rw new (split_stacked (cubic_at arc a) (cubics arc (a / 3)) e top_deep);
          }

      same_points : points (stack (put6 arc a s) (a + 3)) ≡ points (stack arc a)
      same_points = ap points new ∙ sym (split_points (cubic_at arc a) (cubics arc (a / 3)) e top_deep) ∙ ap points (sym top)

      pub split_less : steps (stack (put6 arc a s) (a + 3)) < steps (stack arc a)
      split_less =
          omega (arith, ap steps new, split_steps (cubic_at arc a) (cubics arc (a / 3)) e top_deep, ap steps top)

  -- ---- the top is drawn
  module _ (e : curved (cubic_at arc a) ≡ false) where
    next_points : points (stack arc a) ≡ point_of arc a ∷ points (cubics arc (a / 3))
    next_points = ap points top ∙ flat_points (cubic_at arc a) (cubics arc (a / 3)) e

    pop : 3 ≤ a → suc ((a - 3) / 3) ≡ a / 3
    pop g = omega arith

    rest_deep : Stacked (cubics arc (a / 3))
    rest_deep = go top_deep
      where
        go : Stacked (cubic_at arc a ∷ cubics arc (a / 3)) → Stacked (cubics arc (a / 3))
        go (more f s) = s

    pub drawn_standing : 3 ≤ a → Standing arc (a - 3)
    drawn_standing g =
        record {
          long = h.long;
          low = omega (arith, h.low);
          by3 = omega (arith, h.by3);
          reach = record { at = λ i p. h.reach.at i (omega arith) };
          deep = rw (pop g) rest_deep;
        }

    pub drawn_less : 3 ≤ a → steps (stack arc (a - 3)) < steps (stack arc a)
    drawn_less g = omega (arith, ap (λ k. steps (cubics arc k)) (pop g), flat_steps (cubic_at arc a) (cubics arc (a / 3)) e, ap steps top)

module _ (board : Board) (ws₀ : List ℕ) (start : Pen) (curve : List Mark) (ws : List ℕ) (arc : List FixedPoint) (a : ℕ) (pen : Pen) (from : FixedPoint)
    (g : Going board ws₀ start curve ws arc a pen from) where
  pub going_split : (s : List FixedPoint) → curved (cubic_at arc a) ≡ true → s ≡ split_cubic (segment arc a) → Going board ws₀ start curve ws (put6 arc a s) (a + 3) pen from
  going_split s e q =
      record {
        standing = split_standing arc a g.standing e s q;
        from_in = g.from_in;
        made = g.made;
        drew = g.drew;
        rest = ap (λ ps. g.made ++ along board.frame from ps) (same_points arc a g.standing e s q) ∙ g.rest;
      }

  module _ (ws' : List ℕ) (pen' : Pen) (e : curved (cubic_at arc a) ≡ false) (d : Drew board ws ws' pen pen' (line_marks board.frame from (point_of arc a))) where
    one_more : (g.made ++ line_marks board.frame from (point_of arc a)) ++ along board.frame (point_of arc a) (points (cubics arc (a / 3))) ≡ curve
    one_more =
        append_assoc g.made (line_marks board.frame from (point_of arc a)) _
        ∙ ap (λ ms. g.made ++ ms) (sym (along_next board.frame from (point_of arc a) _))
        ∙ ap (λ ps. g.made ++ along board.frame from ps) (sym (next_points arc a g.standing e))
        ∙ g.rest

    pub going_drawn : 3 ≤ a → Going board ws₀ start curve ws' arc (a - 3) pen' (point_of arc a)
    going_drawn h =
        record {
          standing = drawn_standing arc a g.standing e h;
          from_in = g.standing.reach.at a (omega arith);
          made = g.made ++ line_marks board.frame from (point_of arc a);
          drew = drew_then board g.drew d;
          rest = rw (pop arc a g.standing e h) one_more;
        }

    pub going_done : a ≡ 0 → Drew board ws₀ ws' start pen' curve
    unfolding cubics points
    going_done z =
        let t : along board.frame (point_of arc a) (points (cubics arc (a / 3))) ≡ [] = ap (λ k. along board.frame (point_of arc a) (points (cubics arc (k / 3)))) z ∙ along_none board.frame (point_of arc a) in
        let u : g.made ++ line_marks board.frame from (point_of arc a) ≡ curve = sym (append-nil _) ∙ ap (λ ms. (g.made ++ line_marks board.frame from (point_of arc a)) ++ ms) (sym t) ∙ one_more in
        subst (Drew board ws₀ ws' start pen') u (drew_then board g.drew d)

-- ---- the start
abbrev pub started : FixedPoint → FixedPoint → FixedPoint → FixedPoint → List FixedPoint
started a c d b = set (set (set (set (replicate 129 zero_point) 0 b) 1 d) 2 c) 3 a

module _ (a c d b : FixedPoint) (ra : Reach a) (rc : Reach c) (rd : Reach d) (rb : Reach b) where
  all_four : Four Reach (cubic a c d b)
  all_four = record { end = rb; near_end = rd; near_start = rc; start = ra }

  four_points : (i : ℕ) → i < 4 → Reach (point_of (started a c d b) i)
  four_points zero g = rb
  four_points (suc zero) g = rd
  four_points (suc (suc zero)) g = rc
  four_points (suc (suc (suc zero))) g = ra
  four_points (suc (suc (suc (suc i)))) g = absurd (omega arith)

  started_standing : Standing (started a c d b) 0
  unfolding cubics
  started_standing =
      record {
        long = refl;
        low = omega arith;
        by3 = refl;
        reach = record { at = four_points };
        deep = more (reach_flat (cubic a c d b) all_four) none;
      }

  pub going_started : (board : Board) (ws : List ℕ) (pen : Pen) → Within board.cap pen.kept → Going board ws pen (along board.frame a (cubic_points a c d b)) ws (started a c d b) 0 pen a
  unfolding cubics
  going_started board ws pen w =
      record {
        standing = started_standing;
        from_in = ra;
        made = [];
        drew = drew_none board w;
        rest = ap (along board.frame a) (sym (reach_points a c d b all_four));
      }
