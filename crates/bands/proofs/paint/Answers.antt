-- Each band that the iterator cuts off has its part of the mask, and is one more of those that were painted.
use Prim.Native.Nat.{ℕ, ◌+◌, ◌*◌, ◌-◌}
use mathlib.Core.Path.{◌≡◌, ap, ◌∙◌}
use native.Mathlib.Omega.{arith}
use Rattle.label.specs.declared.Label.{Label}
use Rattle.claims.specs.Bands.{band_of}
use Rattle.bands.specs.Steps.{line_of}
use Rattle.bands.proofs.Painting.{as_band, part_in, part_near, painting_again, painted_all}
use Rattle.bands.proofs.paint.Goals as goal

pub overflow_add-to : goal.overflow_add-to
overflow_add-to c =
    let i = c.loop-band.invariant in
    let b = c.in-Some.ensures.steps in
    let l = c.args.l.label in
    let band = c.in-Some.band.label in
    let left = rw i.2 at b.left in
    let ends = rw (i.2, i.3) at b.ends in
    let is = rw i.2 at b.is in
    let first : band.first ≡ c.loop-band.band-iterator.at = ap (λ (x : Label). x.first) is in
    let last : band.end ≡ c.next.new.self.at = ap (λ (x : Label). x.end) is in
    let near = part_near l c.args.l.sized c.args.mask.now c.requires.lent.lines band.first band.end (omega (arith, i.5.from)) (omega (arith, c.args.step.ok)) (omega arith) in
    omega (arith, rw (← c.line_of.ensures) at near)

pub slice_bounds-paint_band-end : goal.slice_bounds-paint_band-end
slice_bounds-paint_band-end c =
    let i = c.loop-band.invariant in
    let b = c.in-Some.ensures.steps in
    let l = c.args.l.label in
    let band = c.in-Some.band.label in
    let left = rw i.2 at b.left in
    let ends = rw (i.2, i.3) at b.ends in
    let is = rw i.2 at b.is in
    let first : band.first ≡ c.loop-band.band-iterator.at = ap (λ (x : Label). x.first) is in
    let last : band.end ≡ c.next.new.self.at = ap (λ (x : Label). x.end) is in
    let inside = part_in l c.args.l.sized c.args.mask.now c.requires.lent.lines band.first band.end (omega (arith, i.5.from)) (omega (arith, c.args.step.ok)) (omega arith) in
    omega (arith, rw (← c.line_of.ensures, ← i.5.long) at inside)

pub loop-band-preserved : goal.loop-band-preserved
loop-band-preserved c =
    let i = c.loop-band.invariant in
    let b = c.in-Some.ensures.steps in
    let l = c.args.l.label in
    let band = c.in-Some.band.label in
    let at = c.loop-band.band-iterator.at in
    let n = c.next.new.self.at in
    let line = c.line_of.result in
    let ends = rw (i.2, i.3) at b.ends in
    let is : band ≡ band_of l at n = rw i.2 at b.is in
    let first : band.first ≡ at = ap (λ (x : Label). x.first) is in
    let last : band.end ≡ n = ap (λ (x : Label). x.end) is in
    let k : l.pitch * line + l.pitch * (band.end - band.first - 1) + l.width - l.pitch * line ≡ l.pitch * (n - at - 1) + l.width = rw (first, last) (omega arith) in (
      tt,
      tt,
      b.whole ∙ i.2,
      b.step ∙ i.3,
      omega (arith, c.paint_band.auto, i.4),
      painting_again l c.args.l.sized _ c.args.step.ok _ _ _ _ c.requires.lent.lines at i.5 (rw i.2 at b.left) n line _ ends
          (rw is at c.line_of.ensures ∙ ap (line_of l at) ends) (k ∙ ap (λ (m : ℕ). l.pitch * (m - at - 1) + l.width) ends) c.paint_band.new.mask
          (omega (arith, c.paint_band.auto, c.paint_band-arg-1.given.2)) (as_band is (rw i.4 at c.paint_band.ensures)),
    )

pub returns : goal.returns
returns c =
    let i = c.loop-band.invariant in
    let past = rw i.2 at c.in-None.ensures.steps in
    painted_all c.args.l.label c.args.l.sized _ _ _ _ _ _ i.5 (omega arith)
