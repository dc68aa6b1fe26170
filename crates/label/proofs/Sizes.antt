-- What is known where none of checks 1 to 7 refuses.
use Prim.Native.Nat.{ℕ, ◌+◌, ◌*◌, ◌-◌, ◌≤◌, ◌<◌}
use mathlib.Core.Path.{◌≡◌, refl, sym}
use mathlib.Core.Bool.{Bool, true, false, not, cond, ◌&&◌, ◌||◌}
use native.Mathlib.Omega.{arith}
use lib.Dec.{ltb}
use borrow.Author.Tests.{lt-ltb, le-ltb, ltb-false}
use Rattle.path.specs.declared.Refusal.{Refusal}
use Rattle.path.specs.declared.Refusal.TheVariants.{Size, Band, Pitch, Mask, Workspace, NotFinite, Long}
use Rattle.std.specs.Prelude.{⊤, Result, Ok, Err}
use Rattle.path.specs.Inputs.{most_bytes, finite_point, finite_transform, inputs_of}
use Rattle.path.proofs.Telling.{ok_not_err}
use Rattle.label.specs.declared.Label.{Label}
use Rattle.label.specs.Checks.{most_pixels, most_pitch, rows, sizes_of, and_then, checked_of}
use Rattle.label.specs.Inking.{Sized, Lent}

passed : (b : Bool) (w : Refusal) (v : Result ⊤ Refusal) → cond b (Err w) v ≡ Ok tt → (b ≡ false) × (v ≡ Ok tt)
passed true w v e = ok_not_err (sym e)
passed false w v e = (refl, e)

neither : (a b : Bool) → (a || b) ≡ false → (a ≡ false) × (b ≡ false)
neither false b e = (refl, e)
neither true b e = absurd (let z : ◌≡◌ {A = ℕ} 0 1 = cc in omega arith)

long_enough_is : (l : Label) (mask : ℕ) → (ltb 0 (rows l) && ltb mask (l.pitch * (rows l - 1) + l.width)) ≡ false
    → 0 < rows l → l.pitch * (rows l - 1) + l.width ≤ mask
long_enough_is l mask e h = ltb-false _ _ (rw (lt-ltb 0 (rows l) h) at e)

pub record Fitting (l : Label) (mask words : ℕ) : Type 0 where
  pub sized : Sized l
  pub lent : Lent l mask words

sizes_fit : (l : Label) (mask words : ℕ) → sizes_of l mask words ≡ Ok tt → Fitting l mask words
unfolding sizes_of
sizes_fit l mask words e =
    let p1 = passed _ Size _ e in
    let p2 = passed _ Band _ p1.1 in
    let p3 = passed _ Pitch _ p2.1 in
    let p4 = passed _ Mask _ p3.1 in
    let p5 = passed _ Workspace _ p4.1 in
    let n1 = neither (ltb most_pixels l.width) (ltb most_pixels l.height) p1.0 in
    let n2 = neither (ltb l.end l.first) (ltb l.height l.end) p2.0 in
    let n3 = neither (ltb l.pitch l.width) (ltb most_pitch l.pitch) p3.0 in
    record {
      sized = record {
        narrow = ltb-false _ _ n1.0;
        low = ltb-false _ _ n1.1;
        ordered = ltb-false _ _ n2.0;
        inside = ltb-false _ _ n2.1;
        pitched = ltb-false _ _ n3.0;
        near = ltb-false _ _ n3.1;
      };
      lent = record { lines = long_enough_is l mask p4.0; heads = ltb-false _ _ p5.0 };
    }

both : (v w : Result ⊤ Refusal) → and_then v w ≡ Ok tt → (v ≡ Ok tt) × (w ≡ Ok tt)
both (Ok u) w e = (refl, e)
both (Err r) w e = ok_not_err (sym e)

list_fits : (l : Label) (list : ℕ) → inputs_of l.transform l.offset list ≡ Ok tt → list ≤ most_bytes
unfolding inputs_of
list_fits l list e =
    let p = passed (not (finite_transform l.transform && finite_point l.offset)) NotFinite (cond (ltb most_bytes list) (Err Long) (Ok tt)) e in
    ltb-false _ _ (passed (ltb most_bytes list) Long (Ok tt) p.1).0

module _ (l : Label) (list mask words : ℕ) (e : checked_of l list mask words ≡ Ok tt) where
  halves : (sizes_of l mask words ≡ Ok tt) × (inputs_of l.transform l.offset list ≡ Ok tt)
  unfolding checked_of
  halves = both (sizes_of l mask words) (inputs_of l.transform l.offset list) e

  pub fitting : Fitting l mask words
  fitting = sizes_fit l mask words halves.0

  pub short_list : list ≤ most_bytes
  short_list = list_fits l list halves.1

-- and the other way round: 1 to 5 refuse nothing that fits
pub all_fit : (l : Label) (mask words : ℕ) → Sized l → (ltb 0 (rows l) && ltb mask (l.pitch * (rows l - 1) + l.width)) ≡ false → rows l ≤ words → Ok tt ≡ sizes_of l mask words
unfolding sizes_of
all_fit l mask words z h g =
    rw (
      le-ltb most_pixels l.width z.narrow,
      le-ltb most_pixels l.height z.low,
      le-ltb l.end l.first z.ordered,
      le-ltb l.height l.end z.inside,
      le-ltb l.pitch l.width z.pitched,
      le-ltb most_pitch l.pitch z.near,
      h,
      le-ltb words (rows l) g,
    )

-- 6 and 7 are asked behind them
pub sizes_then : (l : Label) (list mask words : ℕ) → sizes_of l mask words ≡ Ok tt → inputs_of l.transform l.offset list ≡ checked_of l list mask words
unfolding checked_of
sizes_then l list mask words e = rw e
