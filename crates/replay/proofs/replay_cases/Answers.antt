use Rattle.std.proofs.Common.{ℕ, length, refl, ap, sym, ◌∙◌, arith}
use Rattle.replay.specs.Agreeing.{accepted_of, nth, answered}
use Rattle.replay.proofs.Cases.{one_more, one_accepted, one_counted, one_at_most, nth-next}
use Rattle.replay.proofs.replay_cases.Goals as goal

pub loop-case-init : goal.loop-case-init
unfolding nth accepted_of
loop-case-init g c = record {
  here = refl;
  accepted = refl;
  counted = refl;
  few = omega arith;
  agreed = (λ e k h. absurd (omega arith), λ all. refl);
}

pub loop-case-preserved : goal.loop-case-preserved
loop-case-preserved g c =
    let s = c.args.first.bytes.now in
    let i = c.loop-case.invariant in
    let P : ℕ → Type 0 = λ k. g.C.Case.Agrees s (nth (g.C.Case.next_of s) c.args.first.at k) (length c.args.mask.now) (length c.args.words.now) in
    record {
      here = c.next-at.ensures ∙ ap (g.C.Case.next_of s) i.here ∙ sym (nth-next _ _ _);
      accepted = rw c.from-accepted.ensures
          (one_accepted (answered (g.C.Case.number_of s) (g.C.Case.next_of s) c.args.first.at) c.number-number.result _ _ (c.number-number.ensures ∙ ap (g.C.Case.number_of s) i.here) i.accepted);
      counted = rw (c.from-accepted.ensures, c.from-refused.ensures) (one_counted _ _ _ _ i.counted);
      few = rw c.from-differ.ensures (one_at_most _ _ _ i.few);
      agreed = rw c.from-differ.ensures
          (one_more P c.agrees.result _ _ i.agreed (rw (i.here, c.loop-case.auto.mask, c.loop-case.auto.words) at c.agrees.ensures));
    }
