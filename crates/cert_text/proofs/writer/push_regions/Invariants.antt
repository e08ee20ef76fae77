use Rattle.std.proofs.Common.{map, take}
use Rattle.cert_text.specs.Gives.{Appends}
use Rattle.cert_text.specs.declared.line.Line.TheVariants.{Region}
use Rattle.cert_text.proofs.writer.push_regions.Given as goal

abbrev pub invariant-loop-region : goal.invariant-loop-region
invariant-loop-region l = Appends l.initial.out.items (map Region (take l.region-index l.regions)) l.out.items
