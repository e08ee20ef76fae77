use Rattle.std.proofs.Common.{◌∙◌, sym, ap}
use Rattle.region_rings.specs.declared.exit.Exit.{Exit}
use Rattle.region_rings.specs.Ways.{is_from}
use Rattle.region_rings.proofs.FoundLemmas.{found, none_found}
use Rattle.region_rings.proofs.border.Border.free_exit.Goals as goal

pub returns-then-is_exit_of-clause-some : goal.returns-then-is_exit_of-clause-some
returns-then-is_exit_of-clause-some c =
    let b = c.args.self.now in
    let at = c.args.at.now in
    let x = c.index.result.now in
    let place = c.first_free-place.result in
    let within = c.is_exit_of.ensures.within c.if-is_exit_of.true in
    found b.edges.now b.leftward.items b.exits.items c.requires.exits c.args.walk.now at c.args.from place x c.first_free-place.ensures.first within c.index.ensures
    (ap (λ (y : Exit). is_from y.way at) c.index.ensures ∙ (sym (c.is_exit_of.ensures.leaves x within) ∙ c.if-is_exit_of.true))

pub returns-else-is_exit_of-clause-none : goal.returns-else-is_exit_of-clause-none
returns-else-is_exit_of-clause-none c =
    let b = c.args.self.now in
    none_found b.edges.now b.leftward.items b.exits.items c.requires.exits c.args.walk.now c.args.at.now c.args.from c.first_free-place.result c.first_free-place.ensures.first
    (λ d l. sym (c.is_exit_of.ensures.leaves d l) ∙ c.if-is_exit_of.false)
