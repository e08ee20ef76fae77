use Rattle.std.proofs.Common.{◌≤◌, ◌-◌, length}
use Rattle.region_rings.specs.Exits.{AreLinksOf, AreWalkedFrom}
use Rattle.region_rings.proofs.border.Border.first_free.Given as goal

abbrev pub invariant-loop-links : goal.invariant-loop-links
invariant-loop-links l = record {
  links : AreLinksOf l.self.exits.items l.walk l.links.items;
  onward : l.from ≤ l.place;
  walked : AreWalkedFrom l.self.exits.items l.walk l.from l.place;
}

abbrev pub decreases-loop-links : goal.decreases-loop-links
decreases-loop-links l = length l.self.exits.items - l.place
