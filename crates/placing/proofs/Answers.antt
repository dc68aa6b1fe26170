-- What was judged tells how the list was read: turned away, or accepted with its commands. The answers follow.
use Prim.Native.Nat.{ℕ, ◌≤◌}
use mathlib.Core.Path.{◌≡◌, refl, sym, ap₂, ◌∙◌}
use mathlib.Core.Bool.{Bool, true, false, not, cond, ◌&&◌}
use mathlib.Core.List.{List, [], ◌∷◌}
use native.Mathlib.Omega.{arith}
use lib.ListN.{length}
use lib.Dec.{ltb}
use borrow.Author.Tests.{ltb-false}
use Rattle.geometry.specs.declared.Point.{Point}
use Rattle.geometry.specs.declared.Transform.{Transform}
use Rattle.geometry.specs.declared.Bounds.{Bounds}
use Rattle.geometry.specs.declared.Origin.{Origin}
use Rattle.geometry.specs.declared.Placed.{Placed}
use Rattle.std.specs.Prelude.{Option, None, Some}
use Rattle.geometry.specs.Affine.{shifted}
use Rattle.geometry.specs.Placing.{negated, placement_of, within, placed, placed_of}
use Rattle.command.specs.declared.Command.{Command}
use Rattle.fixed.specs.Fixed.{spot_of}
use Rattle.path.specs.declared.Refusal.{Refusal}
use Rattle.path.specs.declared.Refusal.TheVariants.{NotFinite, Long, Outside}
use Rattle.std.specs.Prelude.{⊤, Result, Ok, Err}
use Rattle.path.specs.Refusals.{refused_at}
use Rattle.path.specs.Inputs.{most_bytes, finite_point, finite_transform, inputs_of}
use Rattle.path.specs.Reading.{Read, refused, path, passed, cuts_in, read_list, counted, judged_of}
use Rattle.path.proofs.Telling.{ok_not_err, same_counts, same_refusal}
use Rattle.placing.specs.Placing.{unless_faulty, read_checked, nowhere, path_box, bounds_of, laid_with, laid_box, laid_path, laid_of}
use Rattle.placing.specs.Measuring.{Boxes, Lies}
use Rattle.placing.proofs.Near.{accepted_lies}
use Rattle.placing.proofs.Offset.{empty_lies}

module _ (t : Transform) (o : Point) (s : List ℕ) where
  -- ---- 6 and 7
  pub short : inputs_of t o (length s) ≡ Ok tt → length s ≤ most_bytes
  unfolding inputs_of
  short e = go (not (finite_transform t && finite_point o)) (ltb most_bytes (length s)) refl e
    where
      go : (a b : Bool) → ltb most_bytes (length s) ≡ b → cond a (Err NotFinite) (cond b (Err Long) (Ok (tt {0}))) ≡ Ok (tt {0}) → length s ≤ most_bytes
      go false false h k = ltb-false _ _ h
      go false true h k = ok_not_err (sym k)
      go true b h k = ok_not_err (sym k)

  pub checked_fine : inputs_of t o (length s) ≡ Ok tt → judged_of t o (read_list t o s) ≡ judged_of t o (read_checked t o s)
  unfolding read_checked
  checked_fine e = rw e

  pub checked_faulty : (w : Refusal) → inputs_of t o (length s) ≡ Err w → refused_at w 0 ≡ judged_of t o (read_checked t o s)
  unfolding read_checked judged_of
  checked_faulty w e = rw e

  -- ---- accepted
  pub record Accepted (n m : ℕ) : Type 0 where
    pub cs : List Command
    pub reads : read_list t o s ≡ path cs
    pub checked : read_checked t o s ≡ path cs
    pub count : n ≡ length cs
    pub cut : m ≡ cuts_in t o cs

  passes_on : (v : Result ⊤ Refusal) (cs : List Command) → unless_faulty v (read_list t o s) ≡ path cs → read_list t o s ≡ path cs
  passes_on (Ok u) cs e = e
  passes_on (Err w) cs e = absurd (let z : ◌≡◌ {A = ℕ} 0 1 = cc in omega arith)

  was_read : (cs : List Command) → read_checked t o s ≡ path cs → read_list t o s ≡ path cs
  unfolding read_checked
  was_read cs e = passes_on (inputs_of t o (length s)) cs e

  tells : (n m : ℕ) (r : Read) → read_checked t o s ≡ r → counted n m ≡ judged_of t o r → Accepted n m
  unfolding judged_of
  tells n m (path cs) e h = record { cs = cs; reads = was_read cs e; checked = e; count = (same_counts h).0; cut = (same_counts h).1 }
  tells n m (refused w i) e h = ok_not_err h

  pub accepted : (n m : ℕ) → counted n m ≡ judged_of t o (read_checked t o s) → Accepted n m
  accepted n m h = tells n m (read_checked t o s) refl h

  -- ---- turned away
  away : (w : Refusal) (i : ℕ) (r : Read) → refused_at w i ≡ judged_of t o r → r ≡ refused w i
  unfolding judged_of
  away w i (refused v k) h = let p = same_refusal h in rw (p.0, p.1)
  away w i (path cs) h = ok_not_err (sym h)

  pub turned : (w : Refusal) (i : ℕ) → refused_at w i ≡ judged_of t o (read_checked t o s) → read_checked t o s ≡ refused w i
  turned w i h = away w i (read_checked t o s) h

-- ---- bounds
module _ (t : Transform) (s : List ℕ) where
  pub boxed_at : (n m : ℕ) (b : Bounds) → counted n m ≡ judged_of t nowhere (read_checked t nowhere s) → Boxes t s b → Ok b ≡ bounds_of t s
  unfolding bounds_of
  boxed_at n m b h k =
      let a = accepted t nowhere s n m h in
      rw (a.checked, k.boxes nowhere a.cs a.reads)

  pub boxed_away : (w : Refusal) (i : ℕ) → refused_at w i ≡ judged_of t nowhere (read_checked t nowhere s) → refused_at w i ≡ bounds_of t s
  unfolding bounds_of
  boxed_away w i h = rw (turned t nowhere s w i h)

-- ---- placement
near_both : (a b : Bool) (x y : Option Placed) → a ≡ true → b ≡ true → cond (a && b) x y ≡ x
near_both a b x y p q = rw (p, q)

module _ (g : Origin) (o : Point) (b : Bounds) (l : Lies o b) where
  -- geometry's placement is never outside
  pub placed_near : placed_of g o b ≡ placed (negated (shifted o b.min)) (placement_of g (shifted o b.min) (shifted o b.max))
  placed_near = near_both (within (shifted o b.min)) (within (shifted o b.max)) _ _ l.low l.high

  pub lays : (w : Placed) (m : ℕ) → placed_of g o b ≡ Some w → laid_with w.offset w.placement m ≡ laid_box g o b m
  unfolding laid_box
  lays w m e = go (sym e ∙ placed_near)
    where
      go : {v w : Placed} → Some v ≡ Some w → laid_with v.offset v.placement m ≡ laid_with w.offset w.placement m
      go h = cc

  pub never_outside : placed_of g o b ≡ None → ⊥
  never_outside e = clash (sym e ∙ placed_near)
    where
      clash : {w : Placed} → None ≡ Some w → ⊥
      clash h = let z : ◌≡◌ {A = ℕ} 0 1 = cc in omega arith

-- where there is no record the offset passed
pub record Allowed (o : Point) (n : ℕ) : Type 0 where
  pub allowed : n ≡ 0 → passed (spot_of o) ≡ true

pub some_records : (o : Point) (n : ℕ) → (n ≡ 0 → ⊥) → Allowed o n
some_records o n h = record { allowed = λ z. absurd (h z) }

pub offset_passed : (o : Point) (n : ℕ) → passed (spot_of o) ≡ true → Allowed o n
offset_passed o n h = record { allowed = λ z. h }

module _ (t : Transform) (o : Point) (s : List ℕ) where
  -- an accepted list's box lies near: an empty one's by its offset, which passed
  path_lies : (cs : List Command) → read_list t o s ≡ path cs → (length cs ≡ 0 → passed (spot_of o) ≡ true) → Lies o (path_box t cs)
  path_lies [] r f = empty_lies t o (f refl)
  path_lies (c ∷ cs) r f = accepted_lies t o s c cs r

  pub box_lies : (n m : ℕ) → counted n m ≡ judged_of t o (read_checked t o s) → Allowed o n → (b : Bounds) → Boxes t s b → Lies o b
  box_lies n m h ok b k =
      let a = accepted t o s n m h in
      rw (k.boxes o a.cs a.reads) (path_lies a.cs a.reads (λ z. ok.allowed (a.count ∙ z)))

  -- so geometry's placement of an accepted list is never outside
  pub accepted_placed : (g : Origin) (c : Command) (cs : List Command) → read_list t o s ≡ path (c ∷ cs) → placed_of g o (path_box t (c ∷ cs)) ≡ None → ⊥
  accepted_placed g c cs e = never_outside g o (path_box t (c ∷ cs)) (accepted_lies t o s c cs e)

module _ (g : Origin) (t : Transform) (o : Point) (s : List ℕ) where
  pub laid_away : (w : Refusal) (i : ℕ) → refused_at w i ≡ judged_of t o (read_checked t o s) → refused_at w i ≡ laid_of g t o s
  unfolding laid_of
  laid_away w i h = rw (turned t o s w i h)

  module _ (n m : ℕ) (h : counted n m ≡ judged_of t o (read_checked t o s)) where
    laid_is : (cs : List Command) → read_checked t o s ≡ path cs → laid_path g t o cs ≡ laid_of g t o s
    unfolding laid_of
    laid_is cs e = rw e

    -- no record: the offset alone must pass
    none_refused : (cs : List Command) → length cs ≡ 0 → passed (spot_of o) ≡ false → refused_at Outside 0 ≡ laid_path g t o cs
    unfolding laid_path
    none_refused [] z f = rw f
    none_refused (c ∷ cs) z f = absurd (omega arith)

    pub offset_refused : n ≡ 0 → passed (spot_of o) ≡ false → refused_at Outside 0 ≡ laid_of g t o s
    offset_refused z f =
        let a = accepted t o s n m h in
        none_refused a.cs (omega (arith, a.count)) f ∙ laid_is a.cs a.checked

    module _ (ok : Allowed o n) (b : Bounds) (k : Boxes t s b) where
      path_laid : (cs : List Command) → (length cs ≡ 0 → passed (spot_of o) ≡ true) → laid_box g o (path_box t cs) (cuts_in t o cs) ≡ laid_path g t o cs
      unfolding laid_path
      path_laid [] f = rw (f refl)
      path_laid (c ∷ cs) f = refl

      pub laid_at : laid_box g o b m ≡ laid_of g t o s
      laid_at =
          let a = accepted t o s n m h in
          ap₂ (laid_box g o) (k.boxes o a.cs a.reads) a.cut ∙ path_laid a.cs (λ z. ok.allowed (a.count ∙ z)) ∙ laid_is a.cs a.checked
