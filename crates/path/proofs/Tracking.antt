-- The loop that draws a list keeps the marks that are done and those that are left, and how many records fit.
use Prim.Native.Nat.{ℕ, ◌+◌, ◌≤◌, ◌<◌}
use mathlib.Core.Path.{◌≡◌, refl, sym, ap, ◌∙◌}
use mathlib.Core.List.{List, [], ◌∷◌, ◌++◌, append_assoc}
use native.Mathlib.Omega.{arith}
use lib.ListN.{length}
use borrow.Author.Tests.{lt-ltb, le-ltb}
use Rattle.geometry.specs.declared.Point.{Point}
use Rattle.geometry.specs.declared.Transform.{Transform}
use Rattle.std.specs.Prelude.{Option, None, Some, Ok, Err}
use Rattle.storage.specs.Deposits.{Deposit, distinct}
use Rattle.storage.specs.Laws.{distinct_mono}
use Rattle.storage.specs.Answers as store
use Rattle.command.specs.declared.Command.{Command}
use Rattle.list.specs.declared.Reason.{Reason}
use Rattle.list.specs.Records.{found, step_at}
use Rattle.list.proofs.Next.{next_in_is}
use Rattle.pen.specs.declared.Frame.{Frame}
use Rattle.pen.specs.declared.boards.Board.{Board}
use Rattle.pen.specs.Marks.{Mark, Stand, nowhere, after, left, whole, seen, deposits}
use Rattle.pen.specs.Laws.{left_append, whole_append, seen_append}
use Rattle.pen.specs.Drawing.{rows, width, Holding, Added, Drew, lifted, stand_of}
use Rattle.pen.proofs.Adding.{drew_none, drew_then}
use Rattle.raster.specs.declared.tracks.Track.{Track}
use Rattle.raster.specs.Path.{corner, stroke_marks, marks_from, marks, deposits_of, end_of}
use Rattle.raster.specs.Tracing.{Stroked}
use Rattle.raster.proofs.Told.{marks_end, marks_stroke}
use Rattle.line.specs.Lines.{line_marks}
use Rattle.path.specs.Reading.{path, read_list}
use Rattle.path.specs.Strokes.{stroke_of, strokes_of}
use Rattle.path.specs.Storing.{stored_from, stored_by, fitting, overfull, pool_at, Within, Filled}
use Rattle.path.specs.Pouring.{Traced}
use Rattle.path.proofs.Walk.{Unread, all_unread, Onward, at_the_end, never_refused, onward}

-- ---- how many fit: a list that does not, and one that does
module _ (cap : ℕ) (log ds : List Deposit) (each : List (List Deposit)) where
  none_fits : cap < distinct (log ++ ds) → fitting cap log (ds ∷ each) ≡ 0
  unfolding fitting
  none_fits h = rw (lt-ltb _ _ h)

  one_fits : distinct (log ++ ds) ≤ cap → fitting cap log (ds ∷ each) ≡ 1 + fitting cap (log ++ ds) each
  unfolding fitting
  one_fits h = rw (le-ltb _ _ h)

-- a pool that holds a log holds no more places than it has
few : (ws : List ℕ) (f : Frame) (cap : ℕ) (log : List Deposit) (n : ℕ) → n ≤ cap → Holding f cap ws (Some n) log → distinct log ≤ cap
few ws f cap log n h H = omega (arith, H.pool.counted)

module _ (board : Board) (ws₀ : List ℕ) (t : Transform) (o : Point) (s : List ℕ) where
  -- what is stored of the marks `done`
  abbrev Stored : List Mark → List Deposit
  Stored done = seen board.frame (left nowhere done)

  abbrev Left : Track → List Command → List (List Deposit)
  Left track rest = stored_from board.frame (stand_of track.pen) track.at track.start (strokes_of t o rest)

  -- of the commands cs n are drawn, by the marks `done`, and they fit; from `at` on the commands `rest` are read
  pub record Going (cs : List Command) (ws : List ℕ) (track : Track) (at n : ℕ) : Type 0 where
    pub rest : List Command
    pub unread : Unread t o s at rest
    pub done : List Mark
    pub drew : Drew board ws₀ ws lifted track.pen done
    pub all : done ++ marks_from board.frame track.at track.start (strokes_of t o rest) ≡ marks board.frame (strokes_of t o cs)
    pub fits : fitting board.cap [] (stored_by board.frame (strokes_of t o cs)) ≡ n + fitting board.cap (Stored done) (Left track rest)

  pub record Tracking (ws : List ℕ) (track : Track) (at n : ℕ) : Type 0 where
    pub same : length ws ≡ length ws₀
    pub within : store.Within board.cap track.pen.kept
    pub few : n ≤ at
    pub inside : at ≤ length s
    pub going : (cs : List Command) → read_list t o s ≡ path cs → Holding board.frame board.cap ws₀ (Some 0) [] → Going cs ws track at n

  module _ (track : Track) (p : track.pen ≡ lifted) (a : track.at ≡ corner) (b : track.start ≡ corner) where
    started_going : (cs : List Command) → read_list t o s ≡ path cs → Going cs ws₀ track 0 0
    unfolding marks lifted stored_by left seen
    started_going cs e = record {
      rest = cs;
      unread = all_unread t o s cs e;
      done = [];
      drew = rw p (drew_none board (omega arith));
      all = rw (a, b);
      fits = same_none;
    }
      where
        same_none : fitting board.cap [] (stored_by board.frame (strokes_of t o cs)) ≡ 0 + fitting board.cap (Stored []) (Left track cs)
        same_none = rw (p, a, b) (let e : fitting board.cap [] (stored_by board.frame (strokes_of t o cs)) ≡ fitting board.cap (Stored []) (stored_from board.frame (stand_of lifted) corner corner (strokes_of t o cs)) = refl in omega arith)

    pub started : Tracking ws₀ track 0 0
    unfolding lifted
    started = record {
      same = refl;
      within = rw p (omega arith);
      few = omega arith;
      inside = omega arith;
      going = λ cs e h. started_going cs e;
    }

  -- what is done is the front of all that is stored
  front : (done ms : List Mark) (cs : List Command) → done ++ ms ≡ marks board.frame (strokes_of t o cs)
      → deposits_of board.frame (strokes_of t o cs) ≡ Stored done ++ seen board.frame (whole (after nowhere done) ms)
  unfolding deposits_of deposits
  front done ms cs e =
      ap (λ (all : List Mark). seen board.frame (whole nowhere all)) (sym e)
      ∙ ap (seen board.frame) (whole_append nowhere done ms)
      ∙ seen_append board.frame (left nowhere done) (whole (after nowhere done) ms)

  module _ (ws : List ℕ) (track : Track) (at n : ℕ) (g : Tracking ws track at n) where
    -- ---- one stroke more
    module _ (k : Command) (next : ℕ) (e : step_at s at ≡ found k next) (ws' : List ℕ) (track' : Track) (d : Stroked board ws ws' track (stroke_of t o k) track') where
      abbrev own : List Mark
      own = stroke_marks board.frame track.at track.start (stroke_of t o k)

      abbrev gives : List Deposit
      gives = seen board.frame (left (stand_of track.pen) own)

      module _ (cs : List Command) (h : Going cs ws track at n) where
        abbrev on : Onward t o s k next h.rest
        on = onward t o s at h.rest h.unread k next e

        all_more : (h.done ++ own) ++ marks_from board.frame track'.at track'.start (strokes_of t o on.behind) ≡ marks board.frame (strokes_of t o cs)
        unfolding strokes_of
        all_more =
            rw (append_assoc h.done own _, d.goes, d.starts)
            (rw (marks_stroke board.frame track.at track.start (stroke_of t o k) (strokes_of t o on.behind)) at (rw on.splits at h.all))

        stored_more : Stored (h.done ++ own) ≡ Stored h.done ++ gives
        unfolding lifted
        stored_more =
            ap (seen board.frame) (left_append nowhere h.done own)
            ∙ seen_append board.frame (left nowhere h.done) (left (after nowhere h.done) own)
            ∙ ap (λ (st : Stand). Stored h.done ++ seen board.frame (left st own)) (sym h.drew.stands)

        left_more : Left track h.rest ≡ gives ∷ Left track' on.behind
        unfolding strokes_of stored_from
        left_more = ap (Left track) on.splits ∙ rw (d.goes, d.starts, d.drew.stands)

        held : Holding board.frame board.cap ws₀ (Some 0) [] → Holding board.frame board.cap ws' track'.pen.kept (Stored h.done ++ gives)
        unfolding lifted
        held H = d.drew.added.adds (Stored h.done) (h.drew.added.adds [] H)

        -- what it gives fits
        more : Holding board.frame board.cap ws₀ (Some 0) [] → (m : ℕ) → track'.pen.kept ≡ Some m → Going cs ws' track' next (n + 1)
        more H m c = record {
          rest = on.behind;
          unread = on.unread;
          done = h.done ++ own;
          drew = drew_then board h.drew d.drew;
          all = all_more;
          fits =
              let room : distinct (Stored h.done ++ gives) ≤ board.cap = few ws' board.frame board.cap (Stored h.done ++ gives) m (rw c at d.drew.within) (rw c at (held H)) in
              let e : fitting board.cap (Stored h.done) (Left track h.rest) ≡ 1 + fitting board.cap (Stored (h.done ++ own)) (Left track' on.behind) =
              rw (left_more, stored_more) (one_fits board.cap (Stored h.done) gives (Left track' on.behind) room) in
              omega (arith, h.fits);
        }

        -- or not
        full_here : Holding board.frame board.cap ws₀ (Some 0) [] → track'.pen.kept ≡ None
            → Filled ws' (rows board.frame) (width board.frame) board.cap (deposits_of board.frame (strokes_of t o cs)) (stored_by board.frame (strokes_of t o cs)) (Err (overfull n))
        full_here H c =
            let over : board.cap < distinct (Stored h.done ++ gives) = rw c at (held H) in
            let e : fitting board.cap (Stored h.done) (Left track h.rest) ≡ 0 = rw left_more (none_fits board.cap (Stored h.done) gives (Left track' on.behind) over) in
            let grows = distinct_mono (Stored h.done ++ gives) (seen board.frame (whole (after nowhere (h.done ++ own)) (marks_from board.frame track'.at track'.start (strokes_of t o on.behind)))) in (
              rw (front (h.done ++ own) _ cs all_more, stored_more) (omega arith),
              omega (arith, h.fits),
            )

      module _ (c : Option ℕ) (told : track'.pen.kept ≡ c) where
        pub goes_on : (m : ℕ) → c ≡ Some m → Tracking ws' track' next (n + 1)
        goes_on m p =
            let b = next_in_is s at k next e in
            record {
              same = d.drew.added.same ∙ g.same;
              within = d.drew.within;
              few = omega (arith, g.few, b.past);
              inside = b.inside;
              going = λ cs a H. more cs (g.going cs a H) H m (told ∙ p);
            }

        pub stops : c ≡ None → Traced board ws₀ ws' t o s (Err (overfull n))
        stops p = record {
          within = omega (arith, g.few, g.inside);
          same = d.drew.added.same ∙ g.same;
          stored = λ cs a H. full_here cs (g.going cs a H) H (told ∙ p);
        }

    -- ---- the end
    module _ (ws' : List ℕ) (r : Option ℕ) (w : store.Within board.cap r) (a : Added board ws ws' track.pen.kept r (end_of board.frame (stand_of track.pen) track.at track.start)) where
      abbrev last : List Deposit
      last = seen board.frame (end_of board.frame (stand_of track.pen) track.at track.start)

      module _ (cs : List Command) (e : step_at s at ≡ Ok None) (h : Going cs ws track at n) where
        abbrev none : h.rest ≡ []
        none = at_the_end t o s at h.rest h.unread e

        stored_all : deposits_of board.frame (strokes_of t o cs) ≡ Stored h.done ++ last
        unfolding strokes_of lifted
        stored_all =
            let all : h.done ++ line_marks board.frame track.at track.start ≡ marks board.frame (strokes_of t o cs) = rw (marks_end board.frame track.at track.start) at (rw none at h.all) in
            front h.done (line_marks board.frame track.at track.start) cs all
            ∙ ap (λ (st : Stand). Stored h.done ++ seen board.frame (whole st (line_marks board.frame track.at track.start))) (sym h.drew.stands)

        left_last : Left track h.rest ≡ last ∷ []
        unfolding strokes_of stored_from
        left_last = rw none

        by_answer : (k : Option ℕ) → Holding board.frame board.cap ws' k (Stored h.done ++ last)
            → Filled ws' (rows board.frame) (width board.frame) board.cap (deposits_of board.frame (strokes_of t o cs)) (stored_by board.frame (strokes_of t o cs)) (pool_at k n)
        by_answer (Some m) H = rw stored_all H
        by_answer None over =
            let e : fitting board.cap (Stored h.done) (Left track h.rest) ≡ 0 = rw left_last (none_fits board.cap (Stored h.done) last [] over) in
            (rw stored_all over, omega (arith, h.fits))

        ended : Holding board.frame board.cap ws₀ (Some 0) []
            → Filled ws' (rows board.frame) (width board.frame) board.cap (deposits_of board.frame (strokes_of t o cs)) (stored_by board.frame (strokes_of t o cs)) (pool_at r n)
        unfolding lifted
        ended H = by_answer r (a.adds (Stored h.done) (h.drew.added.adds [] H))

      told_within : (k : Option ℕ) → store.Within board.cap k → Within board.cap (length s) (pool_at k n)
      told_within (Some m) w = w
      told_within None w = omega (arith, g.few, g.inside)

      pub traced : step_at s at ≡ Ok None → Traced board ws₀ ws' t o s (pool_at r n)
      traced e = record {
        within = told_within r w;
        same = a.same ∙ g.same;
        stored = λ cs l H. ended cs e (g.going cs l H) H;
      }

      pub untraced : (why : Reason) → step_at s at ≡ Err why → Traced board ws₀ ws' t o s (pool_at r n)
      untraced why e = record {
        within = told_within r w;
        same = a.same ∙ g.same;
        stored = λ cs l H. let h = g.going cs l H in absurd (never_refused t o s at h.rest h.unread why e);
      }
