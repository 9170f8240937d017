-- What the parts of a rebuilt file stand for.
use Rattle.std.specs.Prelude.{map, Option, Some, None}
use Rattle.alt_disk.specs.Fates.{Shape}
use Rattle.alt_disk.specs.Files.{option_items}
use Rattle.alt_disk.specs.Memory.{Track}
use Rattle.alt_disk.specs.Stopped.{Generation}
use Rattle.alt_disk.specs.declared.trace.Outline.{Outline}
use Rattle.alt_disk.specs.declared.trace.Trace.{Trace}
use Rattle.alt_disk.specs.declared.pick.Copy.{Copy}

-- an outline is a shape
abbrev pub shape_of : Outline → Shape
shape_of o = record { known = o.known.items; loose = o.loose }

-- or missing
abbrev pub option_shape : Option Outline → Option Shape
option_shape None = None
option_shape (Some o) = Some (shape_of o)

-- a trace is a file with all that a stop may leave of it
abbrev pub track_of : Trace → Track
track_of t = record {
  bytes = option_items t.bytes;
  fates = record { last = option_shape t.last; others = map option_shape t.others.items };
  lengths = t.lengths.items;
}

-- a copy is one file that a stop may leave
abbrev pub generation_of : Copy → Generation
generation_of c = record { shape = shape_of c.outline; size = c.size }

-- or none
abbrev pub option_generation : Option Copy → Option Generation
option_generation None = None
option_generation (Some c) = Some (generation_of c)
