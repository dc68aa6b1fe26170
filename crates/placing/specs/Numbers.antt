-- The rules' number, index and values for each answer. A refused one has its number, its index and else zeros;
-- an accepted one has number and index 0.
use Rattle.std.specs.Prelude.{pos, Result, Ok, Err}
use Rattle.float.specs.Cut.{zero_f}
use Rattle.geometry.specs.declared.Bounds.{Bounds}
use Rattle.path.specs.declared.Refused.{Refused}
use Rattle.path.specs.Refusals.{number_of}
use Rattle.placing.specs.declared.Laid.{Laid}
use Rattle.placing.specs.declared.BoxNumbers.{BoxNumbers}
use Rattle.placing.specs.declared.PlaceNumbers.{PlaceNumbers}

abbrev pub box_numbers_of : Result Bounds Refused → BoxNumbers
box_numbers_of (Ok b) = record { number = 0; index = 0; min_x = b.min.x; min_y = b.min.y; max_x = b.max.x; max_y = b.max.y }
box_numbers_of (Err r) = record { number = number_of r.why; index = r.«record»; min_x = zero_f; min_y = zero_f; max_x = zero_f; max_y = zero_f }

abbrev pub place_numbers_of : Result Laid Refused → PlaceNumbers
place_numbers_of (Ok a) = record {
  number = 0;
  index = 0;
  offset_x = a.offset.x;
  offset_y = a.offset.y;
  left = a.placement.left;
  top = a.placement.top;
  width = a.placement.width;
  height = a.placement.height;
  cut = a.cut;
}
place_numbers_of (Err r) = record {
  number = number_of r.why;
  index = r.«record»;
  offset_x = zero_f;
  offset_y = zero_f;
  left = pos 0;
  top = pos 0;
  width = 0;
  height = 0;
  cut = 0;
}
