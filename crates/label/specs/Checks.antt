-- docs/RULES.md, "When a label is turned away": checks 1 to 5, then 6 and 7 (the crate `path`).
use Rattle.std.specs.Prelude.{ℕ, ◌+◌, ◌*◌, ◌-◌, cond, ◌&&◌, ◌||◌, ltb, ⊤, Result, Ok, Err}
use Rattle.path.specs.declared.Refusal.{Refusal}
use Rattle.path.specs.declared.Refusal.TheVariants.{Size, Band, Pitch, Mask, Workspace}
use Rattle.path.specs.declared.View.{View}
use Rattle.path.specs.Inputs.{inputs_of}
use Rattle.label.specs.declared.Label.{Label}

-- the largest width and height, and the largest pitch
abbrev pub most_pixels : ℕ
most_pixels = 4096

abbrev pub most_pitch : ℕ
most_pitch = 65536

-- what the list is drawn under
abbrev pub view_of : Label → View
view_of l = record { transform = l.transform; offset = l.offset }

-- rows = end − first
abbrev pub rows : Label → ℕ
rows l = l.end - l.first

-- 1 to 5, with the lengths of the mask and of the workspace
unfoldable pub sizes_of : Label → ℕ → ℕ → Result ⊤ Refusal
sizes_of l mask words =
    cond (ltb most_pixels l.width || ltb most_pixels l.height) (Err Size)
    (cond (ltb l.end l.first || ltb l.height l.end) (Err Band)
    (cond (ltb l.pitch l.width || ltb most_pitch l.pitch) (Err Pitch)
    (cond (ltb 0 (rows l) && ltb mask (l.pitch * (rows l - 1) + l.width)) (Err Mask)
    (cond (ltb words (rows l)) (Err Workspace)
    (Ok tt)))))

abbrev pub and_then : Result ⊤ Refusal → Result ⊤ Refusal → Result ⊤ Refusal
and_then (Err w) v = Err w
and_then (Ok u) v = v

unfoldable pub checked_of : Label → ℕ → ℕ → ℕ → Result ⊤ Refusal
unfolding sizes_of inputs_of
checked_of l list mask words = and_then (sizes_of l mask words) (inputs_of l.transform l.offset list)
