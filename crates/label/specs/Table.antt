-- docs/RULES.md, "When a label is turned away", by computation: checks 1 to 5, the pool, 13, what a refusal leaves.
use Rattle.std.specs.Prelude.{ℕ, ◌≡◌, refl, false, List, [], ◌∷◌, map, None, Some, Ok, Err}
use Rattle.std.specs.Float.Ieee.{of_bits}
use Rattle.geometry.specs.Affine.{identity_of}
use Rattle.geometry.specs.Bits.{at}
use Rattle.command.specs.declared.Command.{Command}
use Rattle.command.specs.declared.Command.TheVariants.{MoveTo, LineTo, Close}
use Rattle.storage.specs.Deposits.{distinct}
use Rattle.raster.specs.Path.{deposits_of}
use Rattle.sweep.specs.declared.Fill.TheVariants.{NonZero}
use Rattle.path.specs.declared.Refusal.TheVariants.{Size, Band, Pitch, Mask, Workspace, Full}
use Rattle.path.specs.Refusals.{refused_at}
use Rattle.path.specs.Strokes.{strokes_of}
use Rattle.path.specs.Storing.{stored_by, fitting}
use Rattle.label.specs.declared.Label.{Label}
use Rattle.label.specs.Checks.{sizes_of}
use Rattle.label.specs.Draw.{outcome, pool_of, ran_out, inked, turned_away}

-- width, height, pitch and band; nonzero, down, identity, offset zero
abbrev label : ℕ → ℕ → ℕ → ℕ → ℕ → Label
label width height pitch first end = record {
  transform = identity_of;
  offset = at 0 0;
  fill = NonZero;
  up = false;
  width = width;
  height = height;
  pitch = pitch;
  first = first;
  end = end;
}

-- one pixel
abbrev dot : Label
dot = label 1 1 1 0 1

-- a triangle within one cell, and a MoveTo into it: two pairs are stored in one place
abbrev twice : List Command
twice =
    MoveTo (at 0x3e80_0000 0x3e80_0000) ∷ LineTo (at 0x3f40_0000 0x3e80_0000) ∷ LineTo (at 0x3e80_0000 0x3f40_0000)
    ∷ Close ∷ MoveTo (at 0x3e80_0000 0x3e80_0000) ∷ []

-- MoveTo (0.5,0), LineTo (0.5,0.5), LineTo (1.5,0.5), and what follows
abbrev hook : List Command → List Command
hook cs =
    MoveTo (at 0x3f00_0000 0) ∷ LineTo (at 0x3f00_0000 0x3f00_0000) ∷ LineTo (at 0x3fc0_0000 0x3f00_0000) ∷ cs

pub record Table : Type 0 where
  -- ---- 1 to 4, where the check behind it would refuse too; 5 alone; none
  pub size : sizes_of (label 4097 1 1 2 1) 0 0 ≡ Err Size
  pub band : sizes_of (label 2 1 1 2 1) 0 0 ≡ Err Band
  pub pitch : sizes_of (label 4 3 3 0 3) 8 40 ≡ Err Pitch
  pub mask : sizes_of (label 4 3 4 0 3) 11 2 ≡ Err Mask
  pub workspace : sizes_of (label 4 3 4 0 3) 12 2 ≡ Err Workspace
  pub fine : sizes_of (label 4 3 4 0 3) 12 3 ≡ Ok tt
  -- ---- a band has as many heads as rows
  pub of_band : pool_of (label 1 9 1 4 6) 10 ≡ 2
  -- ---- 13: one place, which the end stores, in a pool of none and in a pool of one
  pub full : ran_out dot 4 (MoveTo (at 0 0) ∷ []) ≡ Some 1
  pub fits : ran_out dot 5 (MoveTo (at 0 0) ∷ []) ≡ None
  -- two pairs in one place, which the second MoveTo leaves
  pub one_place : map (λ words. ran_out dot words twice) (4 ∷ 5 ∷ []) ≡ Some 4 ∷ None ∷ []
  -- the second LineTo leaves the first place, Close the second
  pub by_turns : map (λ words. ran_out (label 2 1 2 0 1) words (hook (Close ∷ []))) (4 ∷ 8 ∷ 9 ∷ []) ≡ Some 2 ∷ Some 3 ∷ None ∷ []
  -- closed by a MoveTo, the subpath counts to that
  pub closed_by_move : ran_out (label 2 1 2 0 1) 8 (hook (MoveTo (at 0 0) ∷ Close ∷ [])) ≡ Some 3
  -- ---- what is left of a mask of 7s and a workspace of 9s: by 13, and by another refusal
  pub wiped : inked (Some 3) dot (7 ∷ []) (9 ∷ 9 ∷ []) [] ≡ outcome (refused_at Full 3) (7 ∷ []) (0 ∷ 0 ∷ [])
  pub kept : turned_away Size 0 (7 ∷ []) (9 ∷ 9 ∷ []) ≡ outcome (refused_at Size 0) (7 ∷ []) (9 ∷ 9 ∷ [])

pub table : Table
unfolding sizes_of distinct deposits_of stored_by fitting strokes_of inked of_bits
table = record {
  size = refl;
  band = refl;
  pitch = refl;
  mask = refl;
  workspace = refl;
  fine = refl;
  of_band = refl;
  full = refl;
  fits = refl;
  one_place = refl;
  by_turns = refl;
  closed_by_move = refl;
  wiped = refl;
  kept = refl;
}
