-- Each arm calls what draws its stroke; the marks are that case's of `stroke_marks`.
use Rattle.raster.specs.declared.Stroke.TheVariants.{Move, Line, Quad, Cubic, Close}
use Rattle.raster.proofs.Told.{told_stroked, moves, lines, bends, curves, closes}
use Rattle.raster.proofs.trace.Goals as goal
use Rattle.raster.proofs.trace.Goals.{in-Move, in-Line, in-Quad, in-Cubic, in-Close}

pub returns : goal.returns
returns c =
    elim c.match-s.branch [
      | in-Move w ↦ told_stroked (Move _) w.in-Move.is (moves _ (rw w.result-is) (rw w.result-is) (rw (w.ws-is, w.result-is) w.move_to-pen.ensures))
      | in-Line w ↦ told_stroked (Line _) w.in-Line.is (lines _ (rw w.result-is) (rw w.result-is) (rw (w.ws-is, w.result-is) w.line_to-pen.ensures))
      | in-Quad w ↦ told_stroked (Quad _ _) w.in-Quad.is (bends _ _ (rw w.result-is) (rw w.result-is) (rw (w.ws-is, w.result-is) w.quad_to-pen.ensures))
      | in-Cubic w ↦ told_stroked (Cubic _ _ _) w.in-Cubic.is (curves _ _ _ (rw w.result-is) (rw w.result-is) (rw (w.ws-is, w.result-is) w.curve_to-pen.ensures))
      | in-Close w ↦ told_stroked Close w.in-Close.is (closes (rw w.result-is) (rw w.result-is) (rw (w.ws-is, w.result-is) w.line_to-pen-in-Close.ensures))
    ]
