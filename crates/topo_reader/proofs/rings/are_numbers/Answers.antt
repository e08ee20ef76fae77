use Rattle.std.proofs.Common.{◌+◌, refl, subst, take, drop, arith, List, []}
use Rattle.json_text.proofs.Cases.{false_true}
use Rattle.json_text.specs.Tree.{Json}
use Rattle.json_text.specs.Values.{json_of, list_of}
use Rattle.topo_reader.proofs.FormLemmas.{AreNumbers, numbers_next, no_number_inside}
use Rattle.topo_reader.proofs.TreeLists.{listed_at, listed_more, listed_all}
use Rattle.topo_reader.proofs.rings.are_numbers.Goals as goal

pub loop-tree-init : goal.loop-tree-init
loop-tree-init c = ([], refl)

pub returns-in_default : goal.returns-in_default
returns-in_default c =
    let xs = c.args.trees.now in
    let i = c.loop-tree.tree-index in (
      λ never. false_true never,
      λ all. absurd (no_number_inside (list_of (take i xs)) (json_of c.tree-item.result) (list_of (drop (i + 1) xs)) (list_of xs) (listed_at xs i c.tree-item.result c.loop-tree-test.true c.tree-item.is) c.in_default.ensures.none all),
    )

pub loop-tree-preserved : goal.loop-tree-preserved
loop-tree-preserved c =
    let xs = c.args.trees.now in
    let i = c.loop-tree.tree-index in
    numbers_next (list_of (take i xs)) (list_of (take (i + 1) xs)) (json_of c.tree-item.result) _ c.loop-tree.invariant c.in-Some.ensures.found (listed_more xs i c.tree-item.result c.loop-tree-test.true c.tree-item.is)

pub returns : goal.returns
returns c = (λ _. (subst (λ (ts : List Json). AreNumbers ts) (listed_all c.args.trees.now c.loop-tree.tree-index (omega arith)) c.loop-tree.invariant), λ _. refl)
