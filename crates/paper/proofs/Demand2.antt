-- DEMAND 2: what is accepted is painted, and of a painted mask each byte is known.
use Prim.Native.Nat.{ℕ, max}
use mathlib.Core.Path.{◌≡◌, refl, sym, ap, ◌∙◌}
use mathlib.Core.Bool.{Bool, true, false}
use mathlib.Core.List.{List, [], ◌∷◌}
use native.Mathlib.Omega.{arith}
use lib.ListN.{length}
use Rattle.command.specs.declared.Command.{Command}
use Rattle.label.specs.declared.Label.{Label}
use Rattle.paper.specs.Steps.{most_bands}
use Rattle.paper.specs.TurnedAway.{size_fault, path, read_list}
use Rattle.paper.specs.Cells.{cells_of}
use Rattle.paper.specs.Bytes.{painted}
use Rattle.paper.specs.Drawing.{one_full, first_of, draw_in, draw, bands_from, draw_in_bands}
use Rattle.paper.specs.Demands.{number, Pictured, Demand2}
use Rattle.paper.proofs.Pictures.{sound, painted_long, inside, pixel_at, other_at}
use Rattle.paper.proofs.Reading.{path_passed}
use Rattle.paper.proofs.Cuts.{uncut}
use Rattle.paper.proofs.Calls.{by_full, by_path, answered}
use Rattle.paper.proofs.Boxes.{box_is, of_path, of_none}

-- ---- an accepted list, drawn in whatever bands
module _ (bands : List Label) (l : Label) (s mask words : List ℕ) (cs : List Command)
    (g : read_list l.transform l.offset s ≡ path cs) where
  abbrev Full : List Command → Type 0
  Full ks = one_full (length words) ks bands ≡ true

  abbrev Out : List Command → ℕ → Type 0
  Out ks i = first_of (length words) ks bands ≡ i

  a_mask : (h : size_fault l (length mask) (length words) ≡ 0) → Pictured l cs mask (painted l (cells_of l cs) 0 mask)
  a_mask h =
      let fit = sound l (length mask) (length words) h in
      record {
        long = painted_long l (cells_of l cs) 0 mask;
        inside = inside l (cells_of l cs) mask (length words) fit;
        pixels = pixel_at l (cells_of l cs) mask (length words) fit;
        others = other_at l (cells_of l cs) mask;
      }

  full_or : size_fault l (length mask) (length words) ≡ 0 → (t : Bool) → one_full (length words) cs bands ≡ t
      → number (draw_in bands l s mask words) ≡ 0 → Pictured l cs mask (draw_in bands l s mask words).mask
  full_or h true t e =
      absurd (let z : 13 ≡ 0 = sym (ap number (by_full bands l s mask words cs h g t)) ∙ e in omega arith)
  full_or h false t e = rw (by_path bands l s mask words cs h g t) (a_mask h)

  pub pictured : number (draw_in bands l s mask words) ≡ 0 → Pictured l cs mask (draw_in bands l s mask words).mask
  pictured e =
      let why = (answered bands l s mask words Full Out (λ ks. (λ t. t, λ t. t)) (λ ks w t i. (λ e. e, λ e. e))).accepted.0 e in
      full_or why.1 (one_full (length words) cs bands) refl e

at_once_is : (l : Label) (s mask words : List ℕ) (cs : List Command)
    → number (draw l s mask words) ≡ 0 → read_list l.transform l.offset s ≡ path cs
    → Pictured l cs mask (draw l s mask words).mask
unfolding draw
at_once_is l s mask words cs e g = pictured (l ∷ []) l s mask words cs g e

in_bands_is : (step : ℕ) (l : Label) (s mask words : List ℕ) (cs : List Command)
    → number (draw_in_bands step l s mask words) ≡ 0 → read_list l.transform l.offset s ≡ path cs
    → Pictured l cs mask (draw_in_bands step l s mask words).mask
unfolding draw_in_bands
in_bands_is step l s mask words cs e g =
    pictured (bands_from (most_bands l) (max 1 step) l l.first) l s mask words cs g e

pub demand2 : Demand2
demand2 = record {
  at_once = at_once_is;
  in_bands = in_bands_is;
  boxes = λ t s cs e. box_is t s (path cs) e;
  places = of_path;
  nowhere = λ g t o s e h. of_none g t o s true h e;
  uncut = λ t o s cs e. uncut t o cs (path_passed t o s cs e);
}
