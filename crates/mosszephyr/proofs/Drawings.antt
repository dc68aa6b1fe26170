-- What the crates below promise of a label, said of the face's label.
use Prim.Native.Nat.{ℕ}
use mathlib.Core.Path.{◌≡◌}
use mathlib.Core.List.{List}
use Rattle.label.specs.declared.Label.{Label}
use Rattle.paper.specs.Drawing.{Outcome}

-- by either rule of a drawing, at once or in bands
pub drawn : {l l' : Label} → l ≡ l' → (rule : Label → List ℕ → List ℕ → List ℕ → Outcome) (s mask words : List ℕ) (o : Outcome)
    → o ≡ rule l s mask words → o ≡ rule l' s mask words
drawn e rule s mask words o d = rw e at d
