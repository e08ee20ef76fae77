use Rattle.region_rings.specs.Turning.{parts_of}
use Rattle.region_rings.proofs.ChoiceLemmas.{IsSearched}
use Rattle.region_rings.proofs.RankLemmas.{IsRanked}
use Rattle.region_rings.proofs.border.Border.next_of_all.Given as goal

abbrev pub invariant-loop-place : goal.invariant-loop-place
invariant-loop-place l = record {
  searched : IsSearched l.self.edges.now l.self.spokes.items l.walk l.at l.number l.place l.best;
  ranked : IsRanked l.self.edges.now l.self.spokes.items l.self.leftward.items l.walk l.at (parts_of l.way_back) l.number l.place l.best;
}
