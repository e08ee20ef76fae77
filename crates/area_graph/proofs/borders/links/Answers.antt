use Rattle.std.proofs.Common.{◌≡◌, sym, subst, length, List, ℕ, map}
use Rattle.std.proofs.lemmas.List.{length-map}
use Rattle.coverage_check.specs.Kept.{OddArea, odds_of}
use Rattle.agg_model.specs.declared.problem.Link.{Link}
use Rattle.area_graph.specs.Lengths.{AreLinksOf}
use Rattle.area_graph.specs.Steps.{link_of}
use Rattle.area_graph.proofs.ListedLemmas.{links_of}
use Rattle.area_graph.proofs.borders.links.Goals as goal

pub returns-clause-links : goal.returns-clause-links
returns-clause-links c =
    let areas = c.args.checked.now.areas in
    let odds = odds_of areas in
    let long : length odds ≡ length areas = length-map areas (λ (a : OddArea). a.odd_edges) in
    let made = links_of c.of.result.wide c.of.result.high odds (length areas) c.in_ok-lengths.lengths c.in_ok-lengths.ensures.planar long c.in_ok-links.ensures.ordered c.in_ok-lengths.ensures.sums in
    let high = subst (λ (h : ℕ). AreLinksOf c.of.result.wide h odds (map link_of c.in_ok-lengths.lengths.entries)) c.of.ensures.high made in
    let wide = subst (λ (w : ℕ). AreLinksOf w c.args.table.now.high odds (map link_of c.in_ok-lengths.lengths.entries)) c.of.ensures.wide high in
    subst (λ (ls : List Link). AreLinksOf c.args.table.now.wide c.args.table.now.high odds ls) (sym c.in_ok-links.ensures.links) wide
