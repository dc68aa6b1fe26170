-- Bounds and placements, by what the list is read as.
use Prim.Native.Nat.{ℕ, ◌≤◌, ◌<◌}
use mathlib.Core.Path.{◌≡◌, refl, sym, ap, ◌∙◌}
use mathlib.Core.Bool.{Bool, true, false, cond}
use mathlib.Core.List.{List, [], ◌∷◌}
use mathlib.Core.Logic.{◌↔◌, ◌⊎◌, inl, inr}
use native.Mathlib.Omega.{arith}
use Rattle.geometry.specs.declared.Point.{Point}
use Rattle.geometry.specs.declared.Transform.{Transform}
use Rattle.geometry.specs.declared.Origin.{Origin}
use Rattle.command.specs.declared.Command.{Command}
use Rattle.placing.specs.declared.BoxNumbers.{BoxNumbers}
use Rattle.placing.specs.declared.PlaceNumbers.{PlaceNumbers}
use Rattle.paper.specs.Floats.{points_in, cut_in, passes}
use Rattle.paper.specs.TurnedAway.{Read, path, faulty, read_list}
use Rattle.paper.specs.Placing.{box_from, origin, box_of, boxed, bounds}
use Rattle.paper.specs.Placing.{around, unlaid, placement_of, placement}
use Rattle.paper.proofs.Calls.{no_path, one_number, one_index, same_fault}

-- ---- a box
abbrev box_by : Transform → Read → BoxNumbers
box_by t r = elim r [ path cs ↦ boxed 0 0 (box_of (points_in t cs)) | faulty number index ↦ boxed number index (box_of []) ]

pub box_is : (t : Transform) (s : List ℕ) (r : Read) → read_list t origin s ≡ r → bounds t s ≡ box_by t r
unfolding bounds
box_is t s r g = ap (box_by t) g

no_box_is : box_of [] ≡ record { min = origin; max = origin }
unfolding box_of box_from
no_box_is = refl

module _ (t : Transform) (s : List ℕ) where
  pub boxes : (n i : ℕ) → 1 ≤ n → (r : Read) → read_list t origin s ≡ r
      → ((bounds t s).number ≡ n) × ((bounds t s).index ≡ i) ↔ read_list t origin s ≡ faulty n i
  boxes n i a (path cs) g = rw (box_is t s (path cs) g) (λ p. absurd (omega (arith, p.0)), λ q. no_path (sym g ∙ q))
  boxes n i a (faulty m j) g =
      rw (box_is t s (faulty m j) g)
      (λ p. g ∙ same_fault p.0 p.1, λ q. (one_number (sym g ∙ q), one_index (sym g ∙ q)))

  pub unboxed : (r : Read) → read_list t origin s ≡ r → 0 < (bounds t s).number
      → bounds t s ≡ boxed (bounds t s).number (bounds t s).index (record { min = origin; max = origin })
  unboxed (path cs) g = rw (box_is t s (path cs) g) (λ h. absurd (omega arith))
  unboxed (faulty m j) g = rw (box_is t s (faulty m j) g) (λ h. ap (boxed m j) no_box_is)

-- ---- a placement
module _ (g : Origin) (t : Transform) (o : Point) (s : List ℕ) where
  place_is : (r : Read) → read_list t o s ≡ r → placement g t o s ≡ placement_of g t o r
  unfolding placement
  place_is r e = ap (placement_of g t o) e

  of_fault : (n i : ℕ) → read_list t o s ≡ faulty n i → placement g t o s ≡ unlaid n i
  unfolding placement_of
  of_fault n i e = place_is (faulty n i) e

  pub of_path : (c : Command) (cs : List Command) → read_list t o s ≡ path (c ∷ cs)
      → placement g t o s ≡ around g o (box_of (points_in t (c ∷ cs))) (cut_in t o (c ∷ cs))
  unfolding placement_of
  of_path c cs e = place_is (path (c ∷ cs)) e

  pub of_none : (b : Bool) → passes o ≡ b → read_list t o s ≡ path []
      → placement g t o s ≡ cond b (around g o (record { min = origin; max = origin }) 0) (unlaid 12 0)
  unfolding placement_of box_of box_from
  of_none b h e =
      place_is (path []) e
      ∙ ap (λ (x : Bool). cond x (around g o (record { min = origin; max = origin }) 0) (unlaid 12 0)) h

  abbrev Wrong : ℕ → ℕ → Type 0
  Wrong n i = (read_list t o s ≡ faulty n i) ⊎ ((read_list t o s ≡ path []) × (passes o ≡ false) × (n ≡ 12) × (i ≡ 0))

  abbrev Says : PlaceNumbers → ℕ → ℕ → Type 0
  Says p n i = (p.number ≡ n) × (p.index ≡ i) ↔ Wrong n i

  abbrev Bare : PlaceNumbers → Type 0
  Bare p = 0 < p.number → p ≡ unlaid p.number p.index

  some_path : {X : Type 0} {c : Command} {cs : List Command} → path [] ≡ path (c ∷ cs) → X
  some_path e = absurd (let z : ◌≡◌ {A = ℕ} 0 1 = cc in omega arith)

  passed : {X : Type 0} → passes o ≡ true → passes o ≡ false → X
  passed a b = absurd (let z : ◌≡◌ {A = ℕ} 0 1 = cc in omega arith)

  -- neither fault
  fine : (n i : ℕ) (cs : List Command) → read_list t o s ≡ path cs → (cs ≡ [] → passes o ≡ true) → Wrong n i → ⊥
  fine n i cs e h (inl q) = no_path (sym e ∙ q)
  fine n i cs e h (inr q) = passed (h (one_path (sym e ∙ q.0))) q.1
    where
      one_path : path cs ≡ path [] → cs ≡ []
      one_path z = cc

  nowhere : (n i : ℕ) → read_list t o s ≡ path [] → passes o ≡ false → Says (unlaid 12 0) n i
  nowhere n i e h = (
    λ p. inr (e, h, sym p.0, sym p.1),
    elim [ inl q ↦ no_path (sym e ∙ q) | inr q ↦ (sym q.2, sym q.3) ],
  )

  tested : (n i : ℕ) → 1 ≤ n → read_list t o s ≡ path [] → (b : Bool) → passes o ≡ b → Says (placement g t o s) n i
  tested n i a e true h =
      rw (of_none true h e) (λ p. absurd (omega (arith, p.0)), λ q. absurd (fine n i [] e (λ z. h) q))
  tested n i a e false h = rw (of_none false h e) (nowhere n i e h)

  pub places : (n i : ℕ) → 1 ≤ n → (r : Read) → read_list t o s ≡ r → Says (placement g t o s) n i
  places n i a (path []) e = tested n i a e (passes o) refl
  places n i a (path (c ∷ cs)) e =
      rw (of_path c cs e)
      (λ p. absurd (omega (arith, p.0)), λ q. absurd (fine n i (c ∷ cs) e (λ z. some_path (ap path (sym z))) q))
  places n i a (faulty m j) e = rw (of_fault m j e) (
    λ p. inl (e ∙ same_fault p.0 p.1),
    elim [ inl q ↦ (one_number (sym e ∙ q), one_index (sym e ∙ q)) | inr q ↦ no_path (sym q.0 ∙ e) ],
  )

  bare_none : read_list t o s ≡ path [] → (b : Bool) → passes o ≡ b → Bare (placement g t o s)
  bare_none e true h = rw (of_none true h e) (λ p. absurd (omega arith))
  bare_none e false h = rw (of_none false h e) (λ p. refl)

  pub bare : (r : Read) → read_list t o s ≡ r → Bare (placement g t o s)
  bare (path []) e = bare_none e (passes o) refl
  bare (path (c ∷ cs)) e = rw (of_path c cs e) (λ p. absurd (omega arith))
  bare (faulty m j) e = rw (of_fault m j e) (λ p. refl)
