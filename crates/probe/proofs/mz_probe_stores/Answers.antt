-- The heads are cleared, so that the pool has no cells; then the pairs are stored, and a pool that is full is wiped.
use Rattle.probe.proofs.Runs.{too_many_rows, too_few_words, all_stored, too_many_places}
use Rattle.probe.proofs.mz_probe_stores.Goals as goal

pub returns-then-rows-gt-MOST_ROWS : goal.returns-then-rows-gt-MOST_ROWS
returns-then-rows-gt-MOST_ROWS c = too_many_rows _ _ _ c.if-rows-gt-MOST_ROWS.true

pub returns-then-words-rows : goal.returns-then-words-rows
returns-then-words-rows c = too_few_words _ _ _ c.if-rows-gt-MOST_ROWS.false c.if-words-rows.true

pub returns-in-Some : goal.returns-in-Some
returns-in-Some c =
    all_stored _ _ _ c.if-rows-gt-MOST_ROWS.false c.if-words-rows.false c.pool_of-cap.ensures c.clear.ensures c.store_pairs.ensures _ c.in-Some.is

pub returns-in-None : goal.returns-in-None
returns-in-None c =
    too_many_places _ _ _ c.if-rows-gt-MOST_ROWS.false c.if-words-rows.false c.pool_of-cap.ensures c.clear.ensures c.store_pairs.ensures c.in-None.is c.wipe.ensures
