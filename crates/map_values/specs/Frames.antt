-- Frames that a written map may have.
use Rattle.json_text.specs.Numbers.{IsJsonNumber}
use Rattle.plane_edge.specs.declared.frame.Frame.{Frame}
use Rattle.plane_edge.specs.declared.frame.Frame.TheVariants.{Plain, Scaled}

-- the texts of the frame are numbers of JSON
abbrev pub IsNumberFrame : Frame → Type 0
IsNumberFrame Plain = Unit {0}
IsNumberFrame (Scaled sx sy tx ty) = IsJsonNumber sx × IsJsonNumber sy × IsJsonNumber tx × IsJsonNumber ty
