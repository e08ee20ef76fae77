-- What is said of words that are in no form, and word by word of what is stated.
use Rattle.generalise_core.specs.Orders.{request}
use Rattle.generalise_core.proofs.DraftLemmas.{few_splits}
use Rattle.generalise_core.proofs.RunLemmas.{heard_usage}
use Rattle.generalise_core.proofs.Headlines.{feasible_of, cost_of, bound_of, optimal_of, within_of, spent_of, ascents_of, enough_of, union_of, none_of}
use Rattle.generalise_core.proofs.top.generalise_words.Goals as goal

pub generalise-requires : goal.generalise-requires
generalise-requires g c = few_splits c.args.words.now (request c.in-Some.order) (rw c.in-Some.is at c.in-Ok.ensures.found)

-- ---- the words spell a request

pub returns-clause-stated : goal.returns-clause-stated
returns-clause-stated g c = c.generalise.ensures.stated c.args.words.now (rw c.in-Some.is at c.in-Ok.ensures.found)

pub returns-clause-feasible : goal.returns-clause-feasible
returns-clause-feasible g c = feasible_of (g.S.Shelf.state c.args.shelf.now) (g.S.Shelf.state c.generalise.new.shelf) _ _ (returns-clause-stated g c)

pub returns-clause-cost : goal.returns-clause-cost
returns-clause-cost g c = cost_of (g.S.Shelf.state c.args.shelf.now) (g.S.Shelf.state c.generalise.new.shelf) _ _ (returns-clause-stated g c)

pub returns-clause-bound : goal.returns-clause-bound
returns-clause-bound g c = bound_of (g.S.Shelf.state c.args.shelf.now) (g.S.Shelf.state c.generalise.new.shelf) _ _ (returns-clause-stated g c)

pub returns-clause-optimal : goal.returns-clause-optimal
returns-clause-optimal g c = optimal_of (g.S.Shelf.state c.args.shelf.now) (g.S.Shelf.state c.generalise.new.shelf) _ _ (returns-clause-stated g c)

pub returns-clause-within : goal.returns-clause-within
returns-clause-within g c = within_of (g.S.Shelf.state c.args.shelf.now) (g.S.Shelf.state c.generalise.new.shelf) _ _ (returns-clause-stated g c)

pub returns-clause-spent : goal.returns-clause-spent
returns-clause-spent g c = spent_of (g.S.Shelf.state c.args.shelf.now) (g.S.Shelf.state c.generalise.new.shelf) _ _ (returns-clause-stated g c)

pub returns-clause-ascents : goal.returns-clause-ascents
returns-clause-ascents g c = ascents_of (g.S.Shelf.state c.args.shelf.now) (g.S.Shelf.state c.generalise.new.shelf) _ _ (returns-clause-stated g c)

pub returns-clause-enough : goal.returns-clause-enough
returns-clause-enough g c = enough_of (g.S.Shelf.state c.args.shelf.now) (g.S.Shelf.state c.generalise.new.shelf) _ _ (returns-clause-stated g c)

pub returns-clause-union : goal.returns-clause-union
returns-clause-union g c = union_of (g.S.Shelf.state c.args.shelf.now) (g.S.Shelf.state c.generalise.new.shelf) _ _ (returns-clause-stated g c)

pub returns-clause-none : goal.returns-clause-none
returns-clause-none g c = none_of (g.S.Shelf.state c.args.shelf.now) (g.S.Shelf.state c.generalise.new.shelf) _ _ (returns-clause-stated g c)

pub returns-clause-answering : goal.returns-clause-answering
returns-clause-answering g c = c.generalise.ensures.answering c.args.words.now (rw c.in-Some.is at c.in-Ok.ensures.found)

pub returns-clause-hopeless : goal.returns-clause-hopeless
returns-clause-hopeless g c = c.generalise.ensures.hopeless c.args.words.now (rw c.in-Some.is at c.in-Ok.ensures.found)

pub returns-clause-usage : goal.returns-clause-usage
returns-clause-usage g c = λ e. absurd (c.generalise.ensures.in_form e)

pub returns-clause-unspelled : goal.returns-clause-unspelled
returns-clause-unspelled g c = λ never. absurd (never _ (rw c.in-Some.is at c.in-Ok.ensures.found))

pub returns-clause-unfetched : goal.returns-clause-unfetched
returns-clause-unfetched g c = λ never. absurd (never _ (rw c.in-Some.is at c.in-Ok.ensures.found))

pub returns-clause-refused : goal.returns-clause-refused
returns-clause-refused g c = c.generalise.ensures.refused c.args.words.now (rw c.in-Some.is at c.in-Ok.ensures.found)

pub returns-clause-refusing : goal.returns-clause-refusing
returns-clause-refusing g c = c.generalise.ensures.refusing c.args.words.now (rw c.in-Some.is at c.in-Ok.ensures.found)

pub returns-clause-read_fault : goal.returns-clause-read_fault
returns-clause-read_fault g c = c.generalise.ensures.read_fault c.args.words.now (rw c.in-Some.is at c.in-Ok.ensures.found)

pub returns-clause-partly : goal.returns-clause-partly
returns-clause-partly g c = c.generalise.ensures.partly c.args.words.now (rw c.in-Some.is at c.in-Ok.ensures.found)

pub returns-clause-heard : goal.returns-clause-heard
returns-clause-heard g c = c.generalise.ensures.heard c.args.words.now (rw c.in-Some.is at c.in-Ok.ensures.found)

-- ---- the words are in no form, so they name no files

pub returns-in_default-order-clause-heard : goal.returns-in_default-order-clause-heard
returns-in_default-order-clause-heard g c = heard_usage (g.S.Shelf.state c.args.shelf.now) (g.S.Shelf.state c.tell.new.shelf) _ (rw c.in_default-order.is at c.in-Ok.ensures.none) c.tell.ensures.partly

pub returns-in_default-order-clause-refusing : goal.returns-in_default-order-clause-refusing
returns-in_default-order-clause-refusing g c =
    let never = rw c.in_default-order.is at c.in-Ok.ensures.none in
    λ line refused. absurd (never refused.request refused.spelled)

pub returns-in_default-order-clause-answering : goal.returns-in_default-order-clause-answering
returns-in_default-order-clause-answering g c =
    let never = rw c.in_default-order.is at c.in-Ok.ensures.none in
    λ p problem. absurd (never problem.request problem.spelled)

pub returns-in_default-order-clause-hopeless : goal.returns-in_default-order-clause-hopeless
returns-in_default-order-clause-hopeless g c =
    let never = rw c.in_default-order.is at c.in-Ok.ensures.none in
    λ p problem none. absurd (never problem.request problem.spelled)
