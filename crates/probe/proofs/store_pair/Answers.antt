-- A pair outside stores nothing, and `store` promises the rest.
use Rattle.probe.proofs.Stores.{inside}
use Rattle.probe.proofs.store_pair.Goals as goal

pub returns : goal.returns
returns c =
    inside c.if-sizes-entry.false c.if-entry-ge-PER_ROW.false c.store.ensures
