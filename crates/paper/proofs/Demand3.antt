-- DEMAND 3, from the theorems on bands of the rules to which the code is proved.
use Prim.Native.Nat.{ℕ, ◌+◌, ◌-◌, ◌*◌, ◌≤◌, ◌<◌}
use mathlib.Core.Path.{◌≡◌, refl, sym, ap, ◌∙◌}
use mathlib.Core.Bool.{Bool, true, false, cond}
use mathlib.Core.List.{List, [], ◌∷◌}
use native.Mathlib.Omega.{arith}
use borrow.Author.Tests.{eq-eqb}
use lib.ListN.{length, get_or}
use Rattle.label.specs.declared.Label.{Label}
use Rattle.path.specs.Refusals.{refused_at}
use Rattle.label.specs.declared.Numbers.{Numbers}
use Rattle.label.specs.Draw as label
use Rattle.label.specs.Draw.{Answer, drawn_with, numbers_of, draw_of}
use Rattle.sweep.specs.Masks as masks
use Rattle.claims.specs.Bands as claims
use Rattle.claims.proofs.Bands as claimed
use Rattle.bands.proofs.Whole.{at_once_is}
use Rattle.paper.specs.TurnedAway.{rows}
use Rattle.paper.specs.Drawing.{Outcome, draw, band, draw_in_bands}
use Rattle.paper.specs.Demands.{number, In, place}
use Rattle.paper.specs.Demands.{whole, LongEnough, Agrees, Piece, Partition, cells_over, Demand3}
use Rattle.paper.proofs.Pictures.{sound}
use Rattle.paper.proofs.Demand1.{demand1}
use Rattle.paper.proofs.Draws.{told, draws, draws_in_bands}
use Rattle.paper.proofs.Back.{refusal_of, answer_of, drawn_back}

-- ---- a number 0 is the answer of a label that was drawn
abbrev drawn_by : Numbers → Answer
drawn_by n = drawn_with n.records n.cells n.cut

drawn_answer : (n : Numbers) → n.number ≡ 0 → answer_of n ≡ drawn_by n
drawn_answer n e =
    ap (λ (b : Bool). cond b (drawn_by n) (refused_at (refusal_of n.number) n.index))
    (eq-eqb n.number 0 e)

drawn_of : (l : Label) (s mask words : List ℕ) → number (draw l s mask words) ≡ 0
    → (draw_of l s mask words).answer ≡ drawn_by (draw l s mask words).answer
drawn_of l s mask words e =
    ap (λ (o : label.Outcome). o.answer) (drawn_back l s mask words) ∙ drawn_answer (draw l s mask words).answer e

mask_of : (l : Label) (s mask words : List ℕ) → (draw l s mask words).mask ≡ (draw_of l s mask words).mask
mask_of l s mask words = ap (λ (o : Outcome). o.mask) (draws l s mask words)

answer_of_is : (l : Label) (s mask words : List ℕ)
    → (draw l s mask words).answer ≡ numbers_of (draw_of l s mask words).answer
answer_of_is l s mask words = ap (λ (o : Outcome). o.answer) (draws l s mask words)

-- ---- a pixel's place, by either rule
place_is : (l : Label) (y x : ℕ) → In l y x → (mask : List ℕ) → get_or mask (place l y x) 0 ≡ claims.byte_for l y x mask
place_is l y x p mask = ap (λ (n : ℕ). get_or mask (l.pitch * n + x) 0) (go l.up)
  where
    low : l.first ≤ y
    low = p.0

    high : y < l.end
    high = p.1

    go : (u : Bool) → cond u (l.end - 1 - y) (y - l.first) ≡ masks.row_at u (rows l) (y - l.first)
    go true = omega arith
    go false = refl

byte_is : (l : Label) (s mask words : List ℕ) (y x : ℕ) → In l y x
    → get_or (draw l s mask words).mask (place l y x) 0 ≡ claims.byte_for l y x (draw_of l s mask words).mask
byte_is l s mask words y x p =
    ap (λ (m : List ℕ). get_or m (place l y x) 0) (mask_of l s mask words)
    ∙ place_is l y x p (draw_of l s mask words).mask

-- ---- a whole label that is accepted
module _ (l : Label) (s mask words : List ℕ) (e : number (draw (whole l) s mask words) ≡ 0) where
  abbrev all : Outcome
  all = draw (whole l) s mask words

  was : (draw_of (whole l) s mask words).answer ≡ drawn_by all.answer
  was = drawn_of (whole l) s mask words e

  fine : (first end : ℕ) (mask' : List ℕ) → LongEnough (band l first end) mask' → claims.Roomy (band l first end) mask'
  fine first end mask' h =
      let sizes = ((demand1.at_once.answered (whole l) s mask words).accepted.0 e).1 in
      let fit = sound (whole l) (length mask) (length words) sizes in
      record { pitched = fit.pitched; near = fit.near; lines = h }

  agrees : (first end : ℕ) (mask' words' : List ℕ) → first ≤ end → end ≤ l.height
      → LongEnough (band l first end) mask' → length words ≤ length words'
      → Agrees l first end (draw (band l first end) s mask' words') (draw (whole l) s mask words)
  agrees first end mask' words' a b c d =
      let own = band l first end in
      let roomy = fine first end mask' c in
      let law = claimed.bands l s mask words all.answer.records all.answer.cells all.answer.cut was l.up l.pitch in
      let h = law first end a b mask' words' roomy d in
      let is = answer_of_is own s mask' words' ∙ ap numbers_of h.accepted in
      record {
        accepted = ap (λ (n : Numbers). n.number) is;
        records = ap (λ (n : Numbers). n.records) is;
        cut = ap (λ (n : Numbers). n.cut) is;
        pixels = λ y x p.
            byte_is own s mask' words' y x p
            ∙ h.pixels y x p.0 p.1 p.2
            ∙ sym (byte_is (whole l) s mask words y x (omega arith, omega (arith, b, p.1), p.2));
      }

  -- ---- bands that meet
  abbrev piece_of : Piece → claims.Piece
  piece_of p = record { end = p.end; up = l.up; pitch = l.pitch; mask = p.mask; words = p.words }

  abbrev pieces : List Piece → List claims.Piece
  pieces [] = []
  pieces (p ∷ ps) = piece_of p ∷ pieces ps

  cuts : (from : ℕ) (ps : List Piece) → Partition l (length words) from ps
      → claims.Cuts l (length words) from (pieces ps)
  unfolding Partition
  cuts from [] h = claims.done h
  cuts from (p ∷ ps) h = claims.cut h.0 (fine from p.end p.mask h.1) h.2 (cuts p.end ps h.3)

  counts : (from : ℕ) (ps : List Piece) → cells_over l s from ps ≡ claims.cells_over l s from (pieces ps)
  unfolding cells_over claims.cells_over
  counts from [] = refl
  counts from (p ∷ ps) = rw (answer_of_is (band l from p.end) s p.mask p.words, counts p.end ps)

  add_up_is : (ps : List Piece) → Partition l (length words) 0 ps
      → cells_over l s 0 ps ≡ (draw (whole l) s mask words).answer.cells
  add_up_is ps h =
      counts 0 ps
      ∙ claimed.cells_add_up l s mask words all.answer.records all.answer.cells all.answer.cut was (pieces ps) (cuts 0 ps h)

-- ---- at once and in bands
in_bands_is : (step : ℕ) (l : Label) (s mask words : List ℕ) → number (draw l s mask words) ≡ 0
    → draw_in_bands step l s mask words ≡ draw l s mask words
in_bands_is step l s mask words e =
    let o = draw l s mask words in
    draws_in_bands step l s mask words
    ∙ ap told ((at_once_is step l s mask words).same o.answer.records o.answer.cells o.answer.cut (drawn_of l s mask words e))
    ∙ sym (draws l s mask words)

pub demand3 : Demand3
demand3 = record { bands = agrees; add_up = add_up_is; in_bands = in_bands_is }
