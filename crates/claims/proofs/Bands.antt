-- A label drawn in bands is the label drawn whole: a band's log is the whole's log with the other rows dropped, so that it has no more places
-- and at least as large a pool, its pixels are the whole's, and the places of bands that meet add up.
use Prim.Native.Nat.{ℕ, ◌+◌, ◌*◌, ◌-◌, ◌≤◌, ◌<◌}
use mathlib.Core.Path.{◌≡◌, refl, sym, ap, ◌∙◌}
use mathlib.Core.Bool.{Bool, true, false, ◌&&◌}
use mathlib.Core.List.{List, [], ◌∷◌}
use native.Mathlib.Omega.{arith}
use lib.ListN.{length, get_or}
use lib.Dec.{ltb}
use borrow.Author.Tests.{ltb-true, le-ltb}
use Rattle.storage.specs.Deposits.{per_row, Deposit, distinct}
use Rattle.command.specs.declared.Command.{Command}
use Rattle.sweep.specs.Masks.{row_at}
use Rattle.sweep.specs.Pixels.{pixel}
use Rattle.std.specs.Prelude.{Ok}
use Rattle.path.specs.Inputs.{inputs_of}
use Rattle.path.specs.Reading.{path, read_list}
use Rattle.path.specs.Strokes.{strokes_of}
use Rattle.label.specs.declared.Label.{Label}
use Rattle.label.specs.Checks.{most_pixels, rows, sizes_of, checked_of}
use Rattle.label.specs.Draw.{drawn_with, Outcome, outcome, pool_of, painted_of, wiped, log_of, drawn_as, draw_of}
use Rattle.label.specs.Inking.{Sized, Lent}
use Rattle.label.proofs.Sizes.{Fitting, fitting, all_fit, sizes_then}
use Rattle.label.proofs.Drawing.{answered}
use Rattle.claims.specs.Ink.{ink}
use Rattle.claims.specs.Parts.{band, frame}
use Rattle.claims.specs.OldContents.{spot_of}
use Rattle.claims.specs.Bands.{band_of, whole_of, laid, byte_for, Roomy, Agrees, Piece, piece_of, Cuts, done, cut, cells_of, cells_over}
use Rattle.claims.proofs.Inked.{ink_seen}
use Rattle.claims.proofs.Parts.{distinct_part, distinct_join}
use Rattle.claims.proofs.Rows.{seen_band, pixel_band}
use Rattle.claims.proofs.Painted.{painted_row}
use Rattle.claims.proofs.Draws.{strokes_near, Accepted, draws, accepted}

-- ---- checks 1 to 5 refuse nothing that fits
sizes_fine : (l : Label) (mask words : ℕ) → Sized l → Lent l mask words → sizes_of l mask words ≡ Ok tt
sizes_fine l mask words z t =
    sym (all_fit l mask words z (go (ltb 0 (rows l)) refl) t.heads)
  where
    go : (b : Bool) → ltb 0 (rows l) ≡ b → (ltb 0 (rows l) && ltb mask (l.pitch * (rows l - 1) + l.width)) ≡ false
    go true e = rw (e, le-ltb mask (l.pitch * (rows l - 1) + l.width) (t.lines (ltb-true 0 (rows l) e)))
    go false e = rw e

-- ---- a band's log
pub log_band : (l : Label) → l.width ≤ most_pixels → (cs : List Command) (first end : ℕ) → end ≤ l.height → log_of (band_of l first end) cs ≡ band first end (log_of (whole_of l) cs)
log_band l narrow cs first end low =
    let strokes = strokes_of l.transform l.offset cs in
    let near = strokes_near l.transform l.offset cs in
    ink_seen (frame l.width first end) strokes near
    ∙ seen_band l.width first end l.height narrow low (ink strokes)
    ∙ ap (band first end) (sym (ink_seen (frame l.width 0 l.height) strokes near))

-- the mask of an outcome that is known
mask_of : {o p : Outcome} (i : ℕ) → o ≡ p → get_or o.mask i 0 ≡ get_or p.mask i 0
mask_of i e = ap (λ (o : Outcome). get_or o.mask i 0) e

one_path : {cs cs' : List Command} → path cs ≡ path cs' → cs ≡ cs'
one_path e = cc

-- ---- a whole label that is accepted
module _ (l : Label) (s mask words : List ℕ) (records cells cut' : ℕ) (h : (draw_of (whole_of l) s mask words).answer ≡ drawn_with records cells cut') where
  was : Accepted (whole_of l) s (length mask) (length words) records cells cut'
  was = accepted (whole_of l) s mask words records cells cut' h

  fit : Fitting (whole_of l) (length mask) (length words)
  fit = fitting (whole_of l) (length s) (length mask) (length words) was.fine

  narrow : l.width ≤ most_pixels
  narrow = omega (arith, fit.sized.narrow)

  inputs_fine : inputs_of l.transform l.offset (length s) ≡ Ok tt
  inputs_fine = sizes_then (whole_of l) (length s) (length mask) (length words) (sizes_fine (whole_of l) (length mask) (length words) fit.sized fit.lent) ∙ was.fine

  abbrev log : List Deposit
  log = log_of (whole_of l) was.cs

  whole_drawn : draw_of (whole_of l) s mask words ≡ outcome (drawn_as (whole_of l) was.cs) (painted_of (whole_of l) log mask) (wiped words)
  whole_drawn = draws (whole_of l) s mask words was.cs was.fine was.read was.room

  -- the log of whatever path the list is
  same_log : (cs : List Command) → read_list l.transform l.offset s ≡ path cs → log ≡ log_of (whole_of l) cs
  same_log cs e = ap (log_of (whole_of l)) (one_path (sym was.read ∙ e))

  -- ---- a band of it, laid out in any way, with a mask that is long enough and at least as many words, of any contents
  module _ (up : Bool) (pitch first end : ℕ) (ordered : first ≤ end) (low : end ≤ l.height) (own-mask own-words : List ℕ)
      (roomy : Roomy (band_of (laid l up pitch) first end) own-mask) (many : length words ≤ length own-words) where
    abbrev own : Label
    own = band_of (laid l up pitch) first end

    abbrev own-log : List Deposit
    own-log = log_of own was.cs

    log_is : own-log ≡ band first end log
    log_is = log_band l narrow was.cs first end low

    own_sized : Sized own
    own_sized = record { narrow = fit.sized.narrow; low = fit.sized.low; ordered = ordered; inside = low; pitched = roomy.pitched; near = roomy.near }

    own_lent : Lent own (length own-mask) (length own-words)
    own_lent = record { lines = roomy.lines; heads = omega (arith, fit.lent.heads) }

    own_fine : checked_of own (length s) (length own-mask) (length own-words) ≡ Ok tt
    own_fine = sym (sizes_then own (length s) (length own-mask) (length own-words) (sizes_fine own (length own-mask) (length own-words) own_sized own_lent)) ∙ inputs_fine

    -- fewer rows leave at least as large a pool
    own_pool : pool_of (whole_of l) (length words) ≤ pool_of own (length own-words)
    own_pool = omega arith

    own_room : distinct own-log ≤ pool_of own (length own-words)
    own_room =
        let e : distinct own-log ≡ distinct (band first end log) = ap distinct log_is in
        let few : distinct (band first end log) ≤ distinct log = distinct_part (per_row * first) (per_row * end) log in
        let room : distinct log ≤ pool_of (whole_of l) (length words) = was.room in
        within e few room own_pool
      where
        within : {a b c d f : ℕ} → a ≡ b → b ≤ c → c ≤ d → d ≤ f → a ≤ f
        within p q r t = omega arith

    own_drawn : draw_of own s own-mask own-words ≡ outcome (drawn_as own was.cs) (painted_of own own-log own-mask) (wiped own-words)
    own_drawn = draws own s own-mask own-words was.cs own_fine was.read own_room

    own_pixel : (y x : ℕ) → first ≤ y → y < end → x < l.width → pixel l.fill own-log (y - first) x ≡ pixel l.fill log y x
    own_pixel y x p q r =
        let e : first + (y - first) ≡ y = omega arith in
        ap (λ (ds : List Deposit). pixel l.fill ds (y - first) x) log_is
        ∙ pixel_band first end (y - first) x (omega arith) (omega (arith, narrow)) log l.fill
        ∙ ap (λ (n : ℕ). pixel l.fill log n x) e

    own_byte : (y x : ℕ) → first ≤ y → y < end → x < l.width → byte_for own y x (draw_of own s own-mask own-words).mask ≡ pixel l.fill log y x
    own_byte y x p q r =
        mask_of (spot_of own (row_at up (end - first) (y - first)) x) own_drawn
        ∙ painted_row own own-log own-mask roomy.pitched roomy.lines (y - first) x (omega arith) r
        ∙ own_pixel y x p q r

    whole_byte : (y x : ℕ) → y < l.height → x < l.width → byte_for (whole_of l) y x (draw_of (whole_of l) s mask words).mask ≡ pixel l.fill log y x
    whole_byte y x q r =
        let e : y - 0 ≡ y = omega arith in
        mask_of (spot_of (whole_of l) (row_at l.up (l.height - 0) (y - 0)) x) whole_drawn
        ∙ painted_row (whole_of l) log mask fit.sized.pitched fit.lent.lines (y - 0) x (omega arith) r
        ∙ ap (λ (n : ℕ). pixel l.fill log n x) e

    pub bands : Agrees l (band_of (laid l up pitch) first end) s records cut' (draw_of (band_of (laid l up pitch) first end) s own-mask own-words) (draw_of (whole_of l) s mask words)
    bands =
        record {
          cells = distinct own-log;
          accepted = rw (was.counted, was.cuts) at (answered own_drawn);
          pixels = λ y x p q r. own_byte y x p q r ∙ sym (whole_byte y x (omega arith) r);
          ruled = λ cs e y x p q r. own_byte y x p q r ∙ ap (λ (ds : List Deposit). pixel l.fill ds y x) (same_log cs e);
        }

    own_cells : cells_of (draw_of (band_of (laid l up pitch) first end) s own-mask own-words).answer ≡ distinct (band first end log)
    own_cells = ap cells_of (answered own_drawn) ∙ ap distinct log_is

  -- ---- bands from cut to cut
  to_height : {n from : ℕ} {ps : List Piece} → Cuts l n from ps → from ≤ l.height
  to_height (done e) = omega arith
  to_height (cut a b c k) = let m = to_height k in omega arith

  over_none : (from : ℕ) → cells_over l s from [] ≡ 0
  unfolding cells_over
  over_none from = refl

  over_one : (from : ℕ) (p : Piece) (ps : List Piece) → cells_over l s from (p ∷ ps) ≡ cells_of (draw_of (piece_of l from p) s p.mask p.words).answer + cells_over l s p.end ps
  unfolding cells_over
  over_one from p ps = refl

  no_rows : (n : ℕ) → distinct (band n n log) ≡ 0
  no_rows n = let e = distinct_join (per_row * n) (per_row * n) (per_row * n) (omega arith) (omega arith) log in omega arith

  from_cut : {from : ℕ} {ps : List Piece} → Cuts l (length words) from ps → cells_over l s from ps ≡ distinct (band from l.height log)
  from_cut {from} (done e) = over_none from ∙ sym (no_rows l.height) ∙ ap (λ (n : ℕ). distinct (band n l.height log)) (sym e)
  from_cut {from} (cut {p = p} {ps} a b c k) =
      let m = to_height k in
      let one = over_one from p ps in
      let first = own_cells p.up p.pitch from p.end a m p.mask p.words b c in
      let rest = from_cut k in
      let join = distinct_join (per_row * from) (per_row * p.end) (per_row * l.height) (omega arith) (omega arith) log in
      one ∙ summed first rest join
    where
      summed : {a b c d e : ℕ} → a ≡ b → c ≡ d → b + d ≡ e → a + c ≡ e
      summed p q r = omega arith

  pub cells_add_up : (ps : List Piece) → Cuts l (length words) 0 ps → cells_over l s 0 ps ≡ cells
  cells_add_up ps k = from_cut k ∙ sym (ap distinct (log_band l narrow was.cs 0 l.height (omega arith))) ∙ was.found
