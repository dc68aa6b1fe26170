-- From lent words to what a list stores: the heads are cleared, so that the words hold nothing, and the strokes are stored.
use Prim.Native.Nat.{ℕ, ◌-◌}
use mathlib.Core.Path.{◌≡◌, ap, ◌∙◌}
use mathlib.Core.List.{List, [], ◌++◌}
use native.Mathlib.Omega.{arith}
use lib.ListN.{length, drop, replicate, length-append, length-drop, length-replicate}
use Rattle.geometry.specs.declared.Point.{Point}
use Rattle.geometry.specs.declared.Transform.{Transform}
use Rattle.storage.specs.Deposits.{Deposit}
use Rattle.storage.specs.Cells.{Holds}
use Rattle.storage.proofs.Pools.{cleared}
use Rattle.pen.specs.declared.boards.Board.{Board}
use Rattle.pen.specs.Drawing.{rows as frameRows, width as frameWidth}
use Rattle.std.specs.Prelude.{Result}
use Rattle.path.specs.declared.Overfull.{Overfull}
use Rattle.path.specs.Storing.{Filled}
use Rattle.path.specs.Pouring.{pool_of, frame_of, Fits, Traced, Poured}

moved : (ws : List ℕ) {n n' w w' : ℕ} (cap : ℕ) (log : List Deposit) (each : List (List Deposit)) (r : Result ℕ Overfull) → n ≡ n' → w ≡ w'
    → Filled ws n w cap log each r → Filled ws n' w' cap log each r
moved ws cap log each r p q h = rw (← p, ← q) h

module _ (width first end : ℕ) (ws : List ℕ) (z : Fits width first end (length ws)) where
  abbrev rows : ℕ
  rows = end - first

  same_rows : frameRows (frame_of width first end) ≡ rows
  same_rows = omega (arith, z.ordered)

  same_width : frameWidth (frame_of width first end) ≡ width
  same_width = omega arith

  module _ (ws' : List ℕ) (board : Board) (f : board.frame ≡ frame_of width first end) (p : board.cap ≡ pool_of rows (length ws)) (e : ws' ≡ replicate rows 0 ++ drop rows ws) where
    cleared_long : length ws' ≡ length ws
    cleared_long =
        let h = z.heads in
        ap length e ∙ simp (length-append, length-replicate, length-drop) (omega arith)

    none_yet : (n w : ℕ) → n ≡ rows → Holds ws' n w 0 []
    none_yet n w r = rw (r, e) (cleared (drop rows ws) rows w)

    pub poured : (t : Transform) (o : Point) (s ws'' : List ℕ) (r : Result ℕ Overfull) → Traced board ws' ws'' t o s r
        → Poured t o width first end s ws ws'' r
    poured t o s ws'' r d =
        record {
          within = rw (← p) d.within;
          same = d.same ∙ cleared_long;
          stored = λ cs a.
              rw (← p)
              (moved ws'' board.cap _ _ r same_rows same_width
              (rw f at (d.stored cs a (none_yet (frameRows board.frame) (frameWidth board.frame) (rw f same_rows)))));
        }
