-- What is known of a drawing that was accepted, and what suffices for it.
use Prim.Native.Nat.{ℕ, ◌≤◌, ◌<◌}
use mathlib.Core.Path.{◌≡◌, refl, sym, ◌∙◌}
use mathlib.Core.Bool.{Bool, true, false}
use mathlib.Core.List.{List, [], ◌∷◌}
use lib.ListN.{length}
use borrow.Author.Tests.{lt-ltb, le-ltb, ltb-true, ltb-false}
use Rattle.storage.specs.Deposits.{distinct}
use Rattle.geometry.specs.declared.Point.{Point}
use Rattle.geometry.specs.declared.Transform.{Transform}
use Rattle.fixed.specs.declared.Spot.{Spot}
use Rattle.std.specs.Prelude.{Option, None, Some, ⊤, Result, Ok, Err}
use Rattle.command.specs.declared.Command.{Command}
use Rattle.command.specs.declared.Command.TheVariants.{MoveTo, LineTo, QuadTo, CurveTo, Close}
use Rattle.line.specs.Range.{Reach}
use Rattle.raster.specs.Tracing.{ReachAll}
use Rattle.path.specs.Refusals.{refused_at}
use Rattle.path.specs.Reading.{spot_at, Read, refused, path, cuts_in, read_list}
use Rattle.path.specs.Strokes.{fixed_at, stroke_of, strokes_of}
use Rattle.path.proofs.Telling.{ok_not_err}
use Rattle.path.proofs.Points.{corner_near, spot_near, fixed_in, fixed_out}
use Rattle.label.specs.declared.Label.{Label}
use Rattle.path.specs.declared.Refusal.{Refusal}
use Rattle.path.specs.declared.Refusal.TheVariants.{Full}
use Rattle.label.specs.Checks.{checked_of}
use Rattle.label.specs.Draw.{drawn_with, outcome, pool_of, painted_of, wiped, log_of, drawn_as, too_many, room_for, ran_out, inked, draw_of}
use Rattle.label.proofs.Drawing.{answered, same_drawn, draw_is, by_refused, by_path, turned, drawn_from_is}
use Rattle.claims.specs.Ink.{AllReach}

-- ---- the strokes of a list are within reach
module _ (t : Transform) (o : Point) where
  fixed_near : (p : Point) → Reach (fixed_at t o p)
  fixed_near p = go (spot_at t o p) refl
    where
      go : (v : Option Spot) → spot_at t o p ≡ v → Reach (fixed_at t o p)
      go (Some s) e = rw (fixed_in t o p s e) at (spot_near t o p s e)
      go None e = rw (fixed_out t o p e) at corner_near

  stroke_near : (k : Command) → ReachAll (stroke_of t o k)
  unfolding stroke_of
  stroke_near (MoveTo p) = fixed_near p
  stroke_near (LineTo p) = fixed_near p
  stroke_near (QuadTo c p) = (fixed_near c, fixed_near p)
  stroke_near (CurveTo c d p) = (fixed_near c, fixed_near d, fixed_near p)
  stroke_near Close = tt

  pub strokes_near : (cs : List Command) → AllReach (strokes_of t o cs)
  unfolding strokes_of
  strokes_near [] = tt
  strokes_near (k ∷ cs) = (stroke_near k, strokes_near cs)

-- ---- accepted
pub record Accepted (l : Label) (s : List ℕ) (mask words records cells cut : ℕ) : Type 0 where
  pub cs : List Command
  pub fine : checked_of l (length s) mask words ≡ Ok tt
  pub read : read_list l.transform l.offset s ≡ path cs
  pub room : distinct (log_of l cs) ≤ pool_of l words
  pub counted : length cs ≡ records
  pub found : distinct (log_of l cs) ≡ cells
  pub cuts : cuts_in l.transform l.offset cs ≡ cut

module _ (l : Label) (mask words : List ℕ) (cs : List Command) where
  enough : distinct (log_of l cs) ≤ pool_of l (length words)
      → inked (ran_out l (length words) cs) l mask words cs ≡ outcome (drawn_as l cs) (painted_of l (log_of l cs) mask) (wiped words)
  unfolding inked
  enough room = rw (le-ltb _ _ room)

  too_many_refused : pool_of l (length words) < distinct (log_of l cs) → inked (ran_out l (length words) cs) l mask words cs ≡ outcome (refused_at Full (room_for l (length words) cs)) mask (wiped words)
  unfolding inked
  too_many_refused room = rw (lt-ltb _ _ room)

module _ (l : Label) (s mask words : List ℕ) where
  abbrev full : List Command → Option ℕ
  full = ran_out l (length words)

  abbrev known : Result ⊤ Refusal → Type 0
  known v = checked_of l (length s) (length mask) (length words) ≡ v

  module _ (cs : List Command) (fine : known (Ok tt)) (read : read_list l.transform l.offset s ≡ path cs) where
    is_inked : draw_of l s mask words ≡ inked (full cs) l mask words cs
    is_inked = sym (draw_is l s mask words) ∙ sym (drawn_from_is full l s mask words fine (path cs) read) ∙ by_path full l mask words cs

    -- a list that passes the checks and fits the pool is drawn
    pub draws : distinct (log_of l cs) ≤ pool_of l (length words) → draw_of l s mask words ≡ outcome (drawn_as l cs) (painted_of l (log_of l cs) mask) (wiped words)
    draws room = is_inked ∙ enough l mask words cs room

  -- and no other
  module _ (records cells cut : ℕ) (h : (draw_of l s mask words).answer ≡ drawn_with records cells cut) where
    turned_away_is : {X : Type 0} {w : Refusal} {i : ℕ} {words' : List ℕ} → outcome (refused_at w i) mask words' ≡ draw_of l s mask words → X
    turned_away_is e = ok_not_err (sym (answered e ∙ h))

    of_log : (cs : List Command) → known (Ok tt) → read_list l.transform l.offset s ≡ path cs → (t : Bool) → too_many l (length words) cs ≡ t → Accepted l s (length mask) (length words) records cells cut
    of_log cs e g true u = turned_away_is (sym (is_inked cs e g ∙ too_many_refused l mask words cs (ltb-true _ _ u)))
    of_log cs e g false u =
        let room = ltb-false _ _ u in
        let same : drawn_as l cs ≡ drawn_with records cells cut = sym (answered (draws cs e g room)) ∙ h in
        record { cs = cs; fine = e; read = g; room = room; counted = (same_drawn same).0; found = (same_drawn same).1; cuts = (same_drawn same).2 }

    of_read : known (Ok tt) → (r : Read) → read_list l.transform l.offset s ≡ r → Accepted l s (length mask) (length words) records cells cut
    of_read e (refused w i) g = turned_away_is (sym (by_refused full l mask words w i) ∙ drawn_from_is full l s mask words e (refused w i) g ∙ draw_is l s mask words)
    of_read e (path cs) g = of_log cs e g (too_many l (length words) cs) refl

    of_check : (v : Result ⊤ Refusal) → known v → Accepted l s (length mask) (length words) records cells cut
    of_check (Err w) e = turned_away_is (turned full l s mask words w e ∙ draw_is l s mask words)
    of_check (Ok u) e = of_read e (read_list l.transform l.offset s) refl

    pub accepted : Accepted l s (length mask) (length words) records cells cut
    accepted = of_check (checked_of l (length s) (length mask) (length words)) refl
