-- docs/RULES.md, "What a call leaves": old bytes and old words have no say in an answer, a count or a written byte, and
-- what no rule names is kept. Of a rule of drawing, such as `draw_of`, for every label, list, mask and workspace.
use Rattle.std.specs.Prelude.{ℕ, ◌+◌, ◌*◌, ◌<◌, ◌≡◌, Bool, true, false, cond, List, eqb, length, get_or, replicate, Ok, Err}
use Rattle.path.specs.Refusals.{number_of}
use Rattle.label.specs.declared.Label.{Label}
use Rattle.label.specs.Checks.{rows}
use Rattle.label.specs.Draw.{Answer, Outcome}

-- a rule of drawing: the label, the list, the mask and the workspace
abbrev pub Drawing : Type 0
Drawing = Label → List ℕ → List ℕ → List ℕ → Outcome

abbrev pub accepts : Answer → Bool
accepts (Ok d) = true
accepts (Err r) = false

-- 0 or 13
abbrev pub wipes : Answer → Bool
wipes (Ok d) = true
wipes (Err r) = eqb (number_of r.why) 13

-- ---- the words

-- 0 and 13 leave zeros, every other refusal leaves the words as they were
abbrev pub words_after : Answer → List ℕ → List ℕ
words_after a words = cond (wipes a) (replicate (length words) 0) words

abbrev pub WordsAfter : Drawing → Type 0
WordsAfter draw = (l : Label) (s mask words : List ℕ) → (draw l s mask words).words ≡ words_after (draw l s mask words).answer words

-- two outcomes that are one, but for words that a refusal left
pub record AlikeButWords (o o' : Outcome) : Type 0 where
  pub answer : o.answer ≡ o'.answer
  pub mask : o.mask ≡ o'.mask
  pub words : wipes o.answer ≡ true → o.words ≡ o'.words

-- as many words, of other contents
abbrev pub OldWords : Drawing → Type 0
OldWords draw = (l : Label) (s mask words words' : List ℕ) → length words ≡ length words' → AlikeButWords (draw l s mask words) (draw l s mask words')

-- ---- the mask: the byte at column x of the band's line y
abbrev pub spot_of : Label → ℕ → ℕ → ℕ
spot_of l y x = l.pitch * y + x

-- no refusal changes the mask; acceptance changes no byte but the `width` first ones of a band row's line
pub record MaskAfter (l : Label) (mask : List ℕ) (o : Outcome) : Type 0 where
  pub long : length o.mask ≡ length mask
  pub refused : accepts o.answer ≡ false → o.mask ≡ mask
  pub others : (i : ℕ) → i < length mask → ((y x : ℕ) → y < rows l → x < l.width → i ≡ spot_of l y x → ⊥) → get_or o.mask i 0 ≡ get_or mask i 0

abbrev pub MasksAfter : Drawing → Type 0
MasksAfter draw = (l : Label) (s mask words : List ℕ) → MaskAfter l mask (draw l s mask words)

-- two outcomes with one answer, the same words and the same written bytes
pub record AlikeButMask (l : Label) (o o' : Outcome) : Type 0 where
  pub answer : o.answer ≡ o'.answer
  pub words : o.words ≡ o'.words
  pub written : accepts o.answer ≡ true → (y x : ℕ) → y < rows l → x < l.width → get_or o.mask (spot_of l y x) 0 ≡ get_or o'.mask (spot_of l y x) 0

-- as many bytes, of other contents
abbrev pub OldMask : Drawing → Type 0
OldMask draw = (l : Label) (s mask mask' words : List ℕ) → length mask ≡ length mask' → AlikeButMask l (draw l s mask words) (draw l s mask' words)
