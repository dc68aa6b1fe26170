-- The loop over an accepted list keeps the box of the points that were passed and those that are left. It starts with the box of the first point,
-- which an accepted list has; to add that point once more changes nothing.
use Prim.Native.Nat.{ℕ}
use mathlib.Core.Path.{◌≡◌, refl, ap}
use mathlib.Core.Bool.{Bool, true, false, cond}
use mathlib.Core.List.{List, [], ◌∷◌, ◌++◌}
use lib.Ieee.{Float, lt}
use Rattle.std.specs.Prelude.{Some, None, Ok, Err}
use Rattle.geometry.specs.declared.Point.{Point}
use Rattle.geometry.specs.declared.Transform.{Transform}
use Rattle.geometry.specs.declared.Bounds.{Bounds}
use Rattle.geometry.specs.Affine.{moved}
use Rattle.geometry.specs.Box.{box_at, around, box_from, box_of}
use Rattle.command.specs.declared.Command.{Command}
use Rattle.list.specs.declared.Reason.{Reason}
use Rattle.list.specs.Records.{Step, found, step_at}
use Rattle.path.specs.Reading.{path, read_list}
use Rattle.path.proofs.Walk.{Unread, all_unread, Onward, at_the_end, never_refused, onward}
use Rattle.placing.specs.Placing.{nowhere, moved_points, path_points, path_box}
use Rattle.placing.specs.Measuring.{first_in, start_of, Boxes}
use Rattle.placing.proofs.Accepted.{Begins, begins}

-- ---- boxes
box_append : (b : Bounds) (xs ys : List Point) → box_from b (xs ++ ys) ≡ box_from (box_from b xs) ys
unfolding box_from
box_append b [] ys = refl
box_append b (x ∷ xs) ys = box_append (around b x) xs ys

chosen_same : (u : Bool) (v : Float) → cond u v v ≡ v
chosen_same true v = refl
chosen_same false v = refl

-- a box's only point once more
again : (p : Point) → around (box_at p) p ≡ box_at p
again p = rw (chosen_same (lt p.x p.x) p.x, chosen_same (lt p.y p.y) p.y)

first_again : (p : Point) (ps : List Point) → box_from (box_at p) (p ∷ ps) ≡ box_of (p ∷ ps)
unfolding box_from box_of
first_again p ps = ap (λ (b : Bounds). box_from b ps) (again p)

module _ (t : Transform) where
  -- a path starts with its first point
  starts : (c : Command) (cs : List Command) → Begins t c cs → box_from (first_in t c) (path_points t (c ∷ cs)) ≡ path_box t (c ∷ cs)
  unfolding path_box
  starts c cs b = rw (b.points, b.first) (first_again (moved t b.point) (path_points t cs))

  starts_empty : box_from (box_at nowhere) (path_points t []) ≡ path_box t []
  unfolding path_points path_box box_from box_of
  starts_empty = refl

  module _ (s : List ℕ) where
    start : (o : Point) (cs : List Command) (x : Step) → step_at s 0 ≡ x → read_list t o s ≡ path cs → box_from (start_of t x) (path_points t cs) ≡ path_box t cs
    start o cs (Ok None) e r = rw (at_the_end t o s 0 cs (all_unread t o s cs r) e) starts_empty
    start o cs (Err w) e r = absurd (never_refused t o s 0 cs (all_unread t o s cs r) w e)
    start o cs (Ok (Some k)) e r =
        let c = k.command in
        let w : Onward t o s c k.next cs = onward t o s 0 cs (all_unread t o s cs r) c k.next e in
        rw w.splits (starts c w.behind (begins t o s c w.behind (rw w.splits at r)))

    -- b is the box of what was passed of the commands cs; from `at` on the commands `rest` are read
    pub record Going (o : Point) (cs : List Command) (b : Bounds) (at : ℕ) : Type 0 where
      pub rest : List Command
      pub unread : Unread t o s at rest
      pub all : box_from b (path_points t rest) ≡ path_box t cs

    pub record Growing (b : Bounds) (at : ℕ) : Type 0 where
      pub going : (o : Point) (cs : List Command) → read_list t o s ≡ path cs → Going o cs b at

    begun : (b : Bounds) → b ≡ start_of t (step_at s 0) → (o : Point) (cs : List Command) → read_list t o s ≡ path cs → Going o cs b 0
    begun b h o cs e = record {
      rest = cs;
      unread = all_unread t o s cs e;
      all = rw h (start o cs (step_at s 0) refl e);
    }

    pub started : (b : Bounds) → b ≡ start_of t (step_at s 0) → Growing b 0
    started b h = record { going = begun b h }

    module _ (b : Bounds) (at : ℕ) (g : Growing b at) where
      module _ (k : Command) (next : ℕ) (e : step_at s at ≡ found k next) (b' : Bounds) (d : b' ≡ box_from b (moved_points t k)) where
        onto : (o : Point) (cs : List Command) → Going o cs b at → Going o cs b' next
        unfolding path_points
        onto o cs h =
            let w : Onward t o s k next h.rest = onward t o s at h.rest h.unread k next e in
            record {
              rest = w.behind;
              unread = w.unread;
              all = rw (d, ← box_append b (moved_points t k) (path_points t w.behind)) (rw w.splits at h.all);
            }

        pub goes_on : Growing b' next
        goes_on = record { going = λ o cs r. onto o cs (g.going o cs r) }

      ending : (o : Point) (cs : List Command) → step_at s at ≡ Ok None → Going o cs b at → b ≡ path_box t cs
      unfolding path_points box_from
      ending o cs e h = rw (at_the_end t o s at h.rest h.unread e) at h.all

      pub ended : step_at s at ≡ Ok None → Boxes t s b
      ended e = record { boxes = λ o cs r. ending o cs e (g.going o cs r) }

      pub turned : (w : Reason) → step_at s at ≡ Err w → Boxes t s b
      turned w e = record {
        boxes = λ o cs r. let h = g.going o cs r in absurd (never_refused t o s at h.rest h.unread w e);
      }
