-- What `label::cells` promises of a label, said of the face's label.
use Prim.Native.Nat.{ℕ}
use mathlib.Core.Path.{◌≡◌}
use mathlib.Core.List.{List}
use Rattle.label.specs.declared.Label.{Label}
use Rattle.label.specs.declared.Numbers.{Numbers}
use Rattle.label.specs.Draw.{Answer, numbers_of}
use Rattle.label.specs.Inking as inking
use Rattle.probe.specs.Probes.{Celled}

module _ {l l' : Label} (e : l ≡ l') (s old words : List ℕ) (a : Answer) (r : Numbers) (n : r ≡ numbers_of a) where
  pub celled : inking.Celled l s 0xffff_ffff_ffff_ffff old words a → Celled l' s old words r
  celled d = record { answer = a; numbers = n; celled = rw e at d }
