-- `storage::store` meets its contract, by where the walk ended: at the cell of the place, or at the one that the place goes behind.
use Rattle.std.proofs.Common.{◌+◌, sym, refl, ◌∙◌, arith}
use Rattle.storage.proofs.Words.{link_fits}
use Rattle.storage.proofs.Stores.{at_cell, at_full, at_gap}
use Rattle.storage.proofs.store.Goals as goal

pub returns-then-is_at : goal.returns-then-is_at
returns-then-is_at c =
    record {
      told = at_cell _ _ c.args.sizes.cap _ _ _ _ _ c.requires.1 _ (rw c.place-place.ensures at c.walk_on-last.ensures) (omega arith) (rw c.place-place.ensures at (sym c.is_at.ensures ∙ c.if-is_at.true)) _ _ c.add_pair.ensures c.set_back.ensures;
      long = omega (arith, c.add_pair.auto, c.set_back.auto);
      within = c.args.sizes.used;
    }

pub returns-then-sizes : goal.returns-then-sizes
returns-then-sizes c =
    record {
      told = at_full _ _ _ _ _ _ _ _ c.requires.1 _ (rw c.place-place.ensures at c.walk_on-last.ensures) (omega arith) (rw c.place-place.ensures at (sym c.is_at.ensures ∙ c.if-is_at.false)) c.if-sizes.true;
      long = refl;
      within = tt;
    }

pub returns : goal.returns
returns c =
    let s = c.args.sizes in
    record {
      told =
          at_gap _ _ s.cap _ _ _ _ _ c.requires.1 _ (rw c.place-place.ensures at c.walk_on-last.ensures) (omega arith) (rw c.place-place.ensures at (sym c.is_at.ensures ∙ c.if-is_at.false)) (omega arith) (omega arith)
          (omega arith) (link_fits (s.count + 1) (omega arith)) _ c.insert.ensures;
      long = omega (arith, c.insert.auto);
      within = omega arith;
    }
