-- The marks that the pen has made, and those of the lines to the points that are left, are all the marks of the quad's lines.
use Prim.Native.Nat.{ℕ, ◌+◌, ◌-◌, ◌/◌, ◌%◌, ◌^◌}
use mathlib.Core.Path.{◌≡◌, refl, sym, ap, ◌∙◌, subst}
use mathlib.Core.List.{List, [], ◌++◌, append_assoc, append-nil}
use native.Mathlib.Omega.{arith}
use Rattle.storage.specs.Answers.{Within}
use Rattle.fixed.specs.declared.FixedPoint.{FixedPoint}
use Rattle.fixed.specs.Split.{point_of}
use Rattle.pen.specs.declared.Frame.{Frame}
use Rattle.pen.specs.declared.boards.Board.{Board}
use Rattle.pen.specs.declared.Pen.{Pen}
use Rattle.pen.specs.Marks.{Mark}
use Rattle.pen.specs.Drawing.{Drew}
use Rattle.pen.proofs.Adding.{drew_none, drew_then}
use Rattle.line.specs.Range.{Reach}
use Rattle.line.specs.Lines.{line_marks, along}
use Rattle.line.proofs.Points.{along_next, along_none}
use Rattle.quad.specs.Quads.{bend, doublings, quad_points}
use Rattle.quad.specs.Stack.{halved}
use Rattle.quad.proofs.Doubling.{eight}
use Rattle.quad.proofs.Stack.{Stacked, begin, begun, pushed, popped}

-- the marks that are to be made, from the stack as it is at first
abbrev pub all_marks : Frame → FixedPoint → List FixedPoint → List Mark
all_marks f a l = along f a (quad_points (point_of l 2) (point_of l 1) (point_of l 0))

pub record Going (board : Board) (all : List Mark) (ws₀ : List ℕ) (pen₀ : Pen) (ws : List ℕ) (l : List FixedPoint) (a draw rest : ℕ) (from : FixedPoint) (pen : Pen) : Type 0 where
  pub left : List FixedPoint
  pub stack : Stacked l a draw rest left
  pub from_in : Reach from
  pub done : List Mark
  pub drew : Drew board ws₀ ws pen₀ pen done
  pub same : done ++ along board.frame from left ≡ all

pub going : (board : Board) (ws : List ℕ) (pen : Pen) (a c b : FixedPoint) (draw : ℕ) → Within board.cap pen.kept → Reach a → Reach c → Reach b
    → draw ≡ 2 ^ doublings 16 (bend a c b) → Going board (all_marks board.frame a (begin a c b)) ws pen ws (begin a c b) 0 draw draw a pen
unfolding quad_points
going board ws pen a c b draw w p q r e =
    record {
      left = quad_points a c b;
      stack = begun a c b (doublings 16 (bend a c b)) draw p q r (eight a c b p q r 16) e;
      from_in = p;
      done = [];
      drew = drew_none board w;
      same = refl;
    }

module _ {board : Board} {all : List Mark} {ws₀ : List ℕ} {pen₀ : Pen} {ws : List ℕ} {l : List FixedPoint} {a draw rest : ℕ} {from : FixedPoint} {pen : Pen}
    (g : Going board all ws₀ pen₀ ws l a draw rest from pen) where
  pub halving : rest % 2 ≡ 0 → {m : List FixedPoint} → m ≡ halved l a → Going board all ws₀ pen₀ ws m (a + 2) draw (rest / 2) from pen
  halving h e =
      rw e (record { left = g.left; stack = pushed g.stack h; from_in = g.from_in; done = g.done; drew = g.drew; same = g.same })

  -- a line to the end of the top
  module _ (h : rest % 2 ≡ 0 → ⊥) {ws' : List ℕ} {pen' : Pen} (d : Drew board ws ws' pen pen' (line_marks board.frame from (point_of l a))) where
    line : List Mark
    line = line_marks board.frame from (point_of l a)

    parted : (g.done ++ line) ++ along board.frame (point_of l a) (popped g.stack h).next ≡ all
    unfolding line
    parted =
        let p = popped g.stack h in
        append_assoc g.done (line_marks board.frame from (point_of l a)) (along board.frame (point_of l a) p.next)
        ∙ ap (λ (ms : List Mark). g.done ++ ms) (sym (along_next board.frame from (point_of l a) p.next))
        ∙ ap (λ (ps : List FixedPoint). g.done ++ along board.frame from ps) (sym p.is)
        ∙ g.same

    drew : Drew board ws₀ ws' pen₀ pen' (g.done ++ line)
    unfolding line
    drew = drew_then board g.drew d

    pub finished : draw - 1 ≡ 0 → Drew board ws₀ ws' pen₀ pen' all
    finished z =
        let p = popped g.stack h in
        subst (λ (ms : List Mark). Drew board ws₀ ws' pen₀ pen' ms)
        (sym (append-nil (g.done ++ line))
        ∙ ap (λ (ms : List Mark). (g.done ++ line) ++ ms) (sym (along_none board.frame (point_of l a)))
        ∙ ap (λ (ps : List FixedPoint). (g.done ++ line) ++ along board.frame (point_of l a) ps) (sym (p.last z))
        ∙ parted)
        drew

    pub onward : (draw - 1 ≡ 0 → ⊥) → Going board all ws₀ pen₀ ws' l (a - 2) (draw - 1) (draw - 1) (point_of l a) pen'
    onward z =
        let p = popped g.stack h in
        record { left = p.next; stack = p.stack z; from_in = g.stack.reach.at a (omega arith); done = g.done ++ line; drew = drew; same = parted }
