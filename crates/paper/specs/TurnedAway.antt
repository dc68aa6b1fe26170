-- docs/RULES.md, "When a label is turned away": 1 to 12 and 18. A fault is its number, and 0 is none.
use Rattle.std.specs.Prelude.{ℕ, zero, suc, ◌+◌, ◌-◌, ◌*◌, Bool, true, false, not, cond, ◌&&◌, ◌||◌, List, [], ◌∷◌, length, drop, ltb, eqb, Option, None, Some}
use Rattle.std.specs.Float.Ieee.Scale.{finite}
use Rattle.geometry.specs.declared.Point.{Point}
use Rattle.geometry.specs.declared.Transform.{Transform}
use Rattle.command.specs.declared.Command.{Command}
use Rattle.command.specs.declared.Command.TheVariants.{MoveTo, LineTo, QuadTo, CurveTo, Close}
use Rattle.label.specs.declared.Label.{Label}
use Rattle.paper.specs.Steps.{most_records}
use Rattle.paper.specs.PathList.{length_in, kind_in, length_of, command_in, points_of}
use Rattle.paper.specs.Floats.{moved, shifted, passes}

abbrev pub rows : Label → ℕ  -- the band is the rows from first up to end
rows l = l.end - l.first

abbrev pub most_pixels : ℕ  -- the largest width and height
most_pixels = 4096

-- 1 to 5: the first that holds, for a mask of so many bytes and a workspace of so many words
unfoldable pub size_fault : Label → ℕ → ℕ → ℕ
size_fault l mask words =
    cond (ltb most_pixels l.width || ltb most_pixels l.height) 1
    (cond (ltb l.end l.first || ltb l.height l.end) 2
    (cond (ltb l.pitch l.width || ltb 65536 l.pitch) 3
    (cond (ltb 0 (rows l) && ltb mask (l.pitch * (rows l - 1) + l.width)) 4
    (cond (ltb words (rows l)) 5
    0))))

abbrev pub all_finite : Transform → Bool
all_finite t = finite t.xx && finite t.xy && finite t.yx && finite t.yy && finite t.x && finite t.y

unfoldable pub input_fault : Transform → Point → ℕ → ℕ  -- 6 and 7, for a list of so many bytes
input_fault t o list =
    cond (not (all_finite t && (finite o.x && finite o.y))) 6
    (cond (ltb 65536 list) 7
    0)

-- each point, transformed and with the offset added, passes the point rule
unfoldable pub all_pass : Transform → Point → List Point → Bool
all_pass t o [] = true
all_pass t o (p ∷ ps) = passes (shifted o (moved t p)) && all_pass t o ps

-- directly after Close: there is a command before, and it is Close
abbrev pub after_close : Option Command → Bool
after_close None = false
after_close (Some (MoveTo p)) = false
after_close (Some (LineTo p)) = false
after_close (Some (QuadTo c p)) = false
after_close (Some (CurveTo c1 c2 p)) = false
after_close (Some Close) = true

abbrev pub draws : Command → Bool  -- LineTo, QuadTo and CurveTo draw
draws (MoveTo p) = false
draws (LineTo p) = true
draws (QuadTo c p) = true
draws (CurveTo c1 c2 p) = true
draws Close = false

-- the first fault of the record of index i, with which the bytes s begin; `prior` is the command before it. Length or
-- kind cut, 9, 10, the rest cut, 11, 18, 12
unfoldable pub record_fault : Transform → Point → ℕ → Option Command → List ℕ → ℕ
record_fault t o i prior s =
    cond (ltb (length s) 4) 8
    (cond (ltb (kind_in s) 1 || ltb 5 (kind_in s)) 9
    (cond (not (eqb (length_in s) (length_of (kind_in s)))) 10
    (cond (ltb (length s) (length_in s + 2)) 8
    (cond (eqb i 0 && not (eqb (kind_in s) 1)) 11
    (cond (after_close prior && draws (command_in s)) 18
    (cond (not (all_pass t o (points_of (command_in s)))) 12
    0))))))

pub data Read : Type 0 where  -- a list as it is read: its commands, or the first fault and the index of its record
  path : List Command → Read
  faulty : ℕ → ℕ → Read

abbrev pub before : Command → Read → Read
before c (path cs) = path (c ∷ cs)
before c (faulty n i) = faulty n i

-- the records from index i on, behind the command `prior`, n at most; the first faulty one ends it
unfoldable pub read_from : ℕ → Transform → Point → ℕ → Option Command → List ℕ → Read
read_from zero t o i prior s = path []
read_from (suc n) t o i prior [] = path []
read_from (suc n) t o i prior (b ∷ bs) =
    let c = command_in (b ∷ bs) in
    elim (record_fault t o i prior (b ∷ bs)) [
      | zero ↦ before c (read_from n t o (i + 1) (Some c) (drop (length_in (b ∷ bs) + 2) (b ∷ bs)))
      | suc fault ↦ faulty (suc fault) i
    ]

unfoldable pub read_list : Transform → Point → List ℕ → Read  -- 6 to 12 and 18; the index of 6 and 7 is 0
read_list t o s =
    elim (input_fault t o (length s)) [
      | zero ↦ read_from (most_records s) t o 0 None s
      | suc fault ↦ faulty (suc fault) 0
    ]
