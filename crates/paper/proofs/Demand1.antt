-- DEMAND 1: drawing at once and drawing in bands are both drawing in some bands; rule 13 is asked of each.
use Prim.Native.Nat.{ℕ, max}
use mathlib.Core.Path.{◌≡◌, refl, sym, ◌∙◌}
use mathlib.Core.Bool.{Bool, true, false, ◌||◌}
use mathlib.Core.List.{[], ◌∷◌}
use native.Mathlib.Omega.{arith}
use borrow.Author.Tests.{ltb-true, lt-ltb}
use Rattle.paper.specs.Steps.{most_bands}
use Rattle.paper.specs.TurnedAway.{read_list}
use Rattle.paper.specs.Drawing.{full, one_full, record_of, first_of, draw, bands_from, draw_in_bands}
use Rattle.paper.specs.Placing.{origin}
use Rattle.paper.specs.Demands.{EveryCall, TooMany, OneTooMany, RunsOut, FirstRunsOut, Demand1}
use Rattle.paper.proofs.Reading.{path_apart}
use Rattle.paper.proofs.Room.{named, too_many, one_record}
use Rattle.paper.proofs.Calls.{by_bands}
use Rattle.paper.proofs.BandsFrom.{one_full_is, full_one, first_full, one_first}
use Rattle.paper.proofs.Boxes.{boxes, unboxed, places, bare}

at_once_is : EveryCall draw TooMany RunsOut
unfolding draw one_full first_of
at_once_is =
    by_bands (λ l. l ∷ []) TooMany RunsOut (λ l words cs. (λ e. ltb-true _ _ (alone _ e), λ h. rw (lt-ltb _ _ h)))
    (λ l words cs w e i.
    let out = named l w words cs (ltb-true _ _ (alone _ e)) in
    let own = own_index (full words cs l) (record_of words cs l) (alone _ e) in
    (λ p. rw (sym own ∙ p) at out, λ h. own ∙ one_record l w words cs _ i out h))
  where
    alone : (b : Bool) → (b || false) ≡ true → b ≡ true
    alone true e = refl
    alone false e = e

    own_index : (b : Bool) (i : ℕ) → b ≡ true → (elim b as (λ _. ℕ) [ true ↦ i | false ↦ 0 ]) ≡ i
    own_index true i e = refl
    own_index false i e = absurd (let z : ◌≡◌ {A = ℕ} 0 1 = cc in omega arith)

in_bands_is : (step : ℕ) → EveryCall (draw_in_bands step) (OneTooMany step) (FirstRunsOut step)
unfolding draw_in_bands
in_bands_is step =
    by_bands (λ l. bands_from (most_bands l) (max 1 step) l l.first) (OneTooMany step) (FirstRunsOut step)
    (λ l words cs. (
      one_full_is (max 1 step) l words cs (most_bands l) l.first,
      λ h. full_one (max 1 step) l words cs (omega arith) (most_bands l) l.first (omega arith) h.0 h.1 h.2,
    ))
    (λ l words cs w e i.
    let out = first_full (max 1 step) l words cs w (most_bands l) l.first e in
    (λ p. rw p at out, λ h. one_first (max 1 step) l words cs w l.first _ i out h))

pub demand1 : Demand1
demand1 = record {
  at_once = at_once_is;
  in_bands = in_bands_is;
  runs_out = λ l words cs w. (λ m. (record_of words cs l, named l w words cs m), λ h. too_many l w words cs h.0 h.1);
  apart = path_apart;
  boxes = λ t s n i a. boxes t s n i a (read_list t origin s) refl;
  no_box = λ t s. unboxed t s (read_list t origin s) refl;
  places = λ g t o s n i a. places g t o s n i a (read_list t o s) refl;
  no_place = λ g t o s. bare g t o s (read_list t o s) refl;
}
