-- What a turn read stands behind what was read before, which stays.
use Rattle.std.proofs.Common.{◌≡◌, ℕ, ◌+◌, ◌-◌, ◌≤◌, List, ◌++◌, rules, arith, length, take, slice_range, sym, ap, ◌∙◌, subst, le_refl, drop_at, length-take-le}
use Rattle.std.proofs.lemmas.Slice.{take-put_mid_below}
use Rattle.std.proofs.KnownBytes.{Consumes-trans}
use Rattle.std.specs.Io.KnownBytes.{Consumes}
use borrow.Rule.Slice.PartMut.{put_mid, post_of}
use lib.Seq.{take-add, take-append-le}
use Rattle.replay.proofs.read_full.Goals as goal

-- the front that stayed, and the part behind it, are the longer front
fronts : (a n : ℕ) (old new : List ℕ) → take a new ≡ take a old → take a old ++ slice_range new a (a + n) ≡ take (a + n) new
fronts a n old new front =
    let same : (a + n) - a ≡ n = omega arith in
    ap (λ l. l ++ slice_range new a (a + n)) (sym front) ∙ sym (rw same (take-add a n new))

-- the part that was put is what stands there
put : (a k n : ℕ) (xs ys : List ℕ) → a ≤ length xs → n ≤ length ys → slice_range (put_mid a k xs ys) a (a + n) ≡ take n ys
put a k n xs ys within fits =
    let same : (a + n) - a ≡ n = omega arith in
    let after = post_of a k xs in
    ap (take ((a + n) - a)) (drop_at (take a xs) (ys ++ after) a (length-take-le a xs within)) ∙ ap (λ m. take m (ys ++ after)) same ∙ take-append-le n ys after fits

pub loop-done-preserved : goal.loop-done-preserved
loop-done-preserved g c =
    let from = c.loop-done.done in
    let n = c.in_ok-n.n in
    let buf = c.loop-done.buf in
    let before = c.loop-done.invariant in
    let part = put from (length buf - from) n buf c.read.new.buf before.within c.in_ok-n.ensures.bound.0 in
    let joined = fronts from n buf (put_mid from (length buf - from) buf c.read.new.buf) (take-put_mid_below _ _ _ _ _ (le_refl _) before.within) in
    record {
      within = search rules;
      given = subst (Consumes _ _) (ap (λ l. take from buf ++ l) (sym part) ∙ joined)
          (Consumes-trans _ _ _ _ _ before.given c.in_ok-n.ensures.bytes.0);
    }
