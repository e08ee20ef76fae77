use Rattle.std.proofs.Common.{take}
use Rattle.json_text.specs.Values.{list_of}
use Rattle.geo_reader.specs.Held.{HasRead}
use Rattle.geo_reader.proofs.reader.read_features.Given as goal

abbrev pub invariant-loop-place : goal.invariant-loop-place
invariant-loop-place l = HasRead l.name (list_of (take l.place l.features)) l.areas.items l.steps l.passed
