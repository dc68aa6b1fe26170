-- No two outcomes satisfy a promise of a probe. `mz_probe_cells` is the exception, as `label::cells` is: it leaves each word open.
-- So does `mz_probe_stores` where cells are left in the words; its answer is one, and so are words with no cells.
use mathlib.Core.Path.{◌≡◌, sym, ◌∙◌}
use contract.Lifetimes.{Lfts}
use denote.Triple.Clauses.{AtExit}
use borrow.Fn.Kinds.{Dens, res_t, ended_of}
use Rattle.claims.proofs.OneOutcome.{OneAnswer}
use Rattle.probe.specs.Probes.{no_cells}
use Rattle.probe.proofs.Runs.{left_one}
use Rattle.probe.proofs.mz_probe_box.Kinds as mz-probe-box-kinds
use Rattle.probe.proofs.mz_probe_box.Reads as mz-probe-box-reads
use Rattle.probe.proofs.mz_probe_place.Kinds as mz-probe-place-kinds
use Rattle.probe.proofs.mz_probe_place.Reads as mz-probe-place-reads
use Rattle.probe.proofs.mz_probe_stores.Kinds as mz-probe-stores-kinds
use Rattle.probe.proofs.mz_probe_stores.Reads as mz-probe-stores-reads

pub mz_probe_box : OneAnswer 1 mz-probe-box-kinds.ps mz-probe-box-kinds.r mz-probe-box-reads.Learnt
mz_probe_box κs a z z' e e' p q = p ∙ sym q

pub mz_probe_place : OneAnswer 0 mz-probe-place-kinds.ps mz-probe-place-kinds.r mz-probe-place-reads.Learnt
mz_probe_place κs a z z' e e' p q = p ∙ sym q

-- the words are the third of what it was given
pub mz_probe_stores : (κs : Lfts 2) (a : Dens κs mz-probe-stores-kinds.ps) (z z' : (res_t mz-probe-stores-kinds.r κs).Denot) (e e' : AtExit (ended_of 2 mz-probe-stores-kinds.ps mz-probe-stores-kinds.r) κs)
    → mz-probe-stores-reads.Learnt κs a z e → mz-probe-stores-reads.Learnt κs a z' e'
    → (z ≡ z') × (z ≡ no_cells → e.1.1.0.now ≡ e'.1.1.0.now)
mz_probe_stores κs a z z' e e' p q = (p.told ∙ sym q.told, left_one p q)
