-- The heads are cleared, so the words hold nothing; then the strokes are stored.
use Rattle.path.proofs.Pouring.{poured}
use Rattle.path.proofs.pour.Goals as goal

pub returns : goal.returns
returns c =
    poured _ _ _ _ c.requires _ _ c.frame_of-frame.ensures c.pool_of-cap.ensures c.clear.ensures _ _ _ _ _ c.trace_list.ensures
