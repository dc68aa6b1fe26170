-- The promises of drawing as they stand in the code meet demands 1 and 2: whatever answer, mask and words satisfy one
-- are answered as demanded, and if accepted, drawn as demanded.
use mathlib.Core.Path.{◌≡◌, sym, ap, ◌∙◌}
use mathlib.Core.List.{List}
use lib.ListN.{length}
use contract.Lifetimes.{Lfts}
use denote.Triple.Clauses.{AtExit}
use borrow.Fn.Kinds.{Dens, res_t, ended_of}
use Rattle.command.specs.declared.Command.{Command}
use Rattle.paper.specs.TurnedAway.{path, read_list}
use Rattle.paper.specs.Drawing.{Outcome, left}
use Rattle.paper.specs.Demands.{number, Answered, TooMany, OneTooMany, RunsOut, FirstRunsOut, Pictured}
use Rattle.paper.proofs.draw.Kinds as draw-kinds
use Rattle.paper.proofs.draw.Reads as draw-reads
use Rattle.paper.proofs.draw_in_bands.Kinds as bands-kinds
use Rattle.paper.proofs.draw_in_bands.Reads as bands-reads
use Rattle.paper.proofs.Demand1.{demand1}
use Rattle.paper.proofs.Demand2.{demand2}

-- a is what the call is given: list, label, mask and words; e is mask and words afterwards
module _ (κs : Lfts 3) (a : Dens κs draw-kinds.ps) (z : (res_t draw-kinds.r κs).Denot)
    (e : AtExit (ended_of 3 draw-kinds.ps draw-kinds.r) κs) (p : draw-reads.Learnt κs a z e) where
  pub draw_answered : Answered (TooMany a.1.0 (length a.1.1.1.0.now))
      (RunsOut a.1.0 (length a.1.1.1.0.now)) a.1.0
      a.0.now a.1.1.0.now a.1.1.1.0.now (left z e.1.1.0.now e.1.1.1.0.now)
  draw_answered =
      rw p (demand1.at_once.answered a.1.0 a.0.now a.1.1.0.now a.1.1.1.0.now)

  pub draw_pictured : (cs : List Command) → number (left z e.1.1.0.now e.1.1.1.0.now) ≡ 0
      → read_list a.1.0.transform a.1.0.offset a.0.now ≡ path cs
      → Pictured a.1.0 cs a.1.1.0.now e.1.1.0.now
  draw_pictured cs h g =
      rw (ap (λ (o : Outcome). o.mask) p)
      (demand2.at_once a.1.0 a.0.now a.1.1.0.now a.1.1.1.0.now cs (sym (ap number p) ∙ h) g)

-- list, label, step, mask and words
module _ (κs : Lfts 3) (a : Dens κs bands-kinds.ps) (z : (res_t bands-kinds.r κs).Denot)
    (e : AtExit (ended_of 3 bands-kinds.ps bands-kinds.r) κs) (p : bands-reads.Learnt κs a z e) where
  pub draw_in_bands_answered : Answered (OneTooMany a.1.1.0 a.1.0 (length a.1.1.1.1.0.now))
      (FirstRunsOut a.1.1.0 a.1.0 (length a.1.1.1.1.0.now)) a.1.0
      a.0.now a.1.1.1.0.now a.1.1.1.1.0.now
      (left z e.1.1.1.0.now e.1.1.1.1.0.now)
  draw_in_bands_answered =
      let law = (demand1.in_bands a.1.1.0).answered a.1.0 in
      rw p (law a.0.now a.1.1.1.0.now a.1.1.1.1.0.now)

  pub draw_in_bands_pictured : (cs : List Command)
      → number (left z e.1.1.1.0.now e.1.1.1.1.0.now) ≡ 0
      → read_list a.1.0.transform a.1.0.offset a.0.now ≡ path cs
      → Pictured a.1.0 cs a.1.1.1.0.now e.1.1.1.0.now
  draw_in_bands_pictured cs h g =
      let law = demand2.in_bands a.1.1.0 a.1.0 a.0.now a.1.1.1.0.now a.1.1.1.1.0.now in
      rw (ap (λ (o : Outcome). o.mask) p) (law cs (sym (ap number p) ∙ h) g)
