use Rattle.std.proofs.Common.{refl, ap, sym, subst, ◌∙◌, ◌∷◌, [], arith, map}
use Rattle.std.proofs.lemmas.Result.{err_from_is_err_and}
use Rattle.cert_reader.specs.declared.line.Line.TheVariants.{Class, Region}
use Rattle.cert_reader.proofs.HeadLemmas.{body_is, same_head, classes_fail, places_fail, tree_fails, end_fails}
use Rattle.cert_reader.proofs.reader.read_body.Goals as goal

pub returns-in_err-class_of-clause-fault : goal.returns-in_err-class_of-clause-fault
returns-in_err-class_of-clause-fault c = let p = err_from_is_err_and c.from_residual.result c.from_residual.ensures.1 in rw (p.1, p.2) (classes_fail c.args.head _ _ c.in_err-class_of.ensures.fault)

pub returns-in_err-region_of-clause-fault : goal.returns-in_err-region_of-clause-fault
returns-in_err-region_of-clause-fault c = let p = err_from_is_err_and c.from_residual-in_err-region_of.result c.from_residual-in_err-region_of.ensures.1 in rw (p.1, p.2) (places_fail c.args.head _ _ _ _ c.in_ok-class_of.ensures.read.reads (rw c.place_count-places.ensures at c.in_err-region_of.ensures.fault))

pub returns-in_err-tree-clause-fault : goal.returns-in_err-tree-clause-fault
returns-in_err-tree-clause-fault c = let p = err_from_is_err_and c.from_residual-in_err-tree.result c.from_residual-in_err-tree.ensures.1 in rw (p.1, p.2) (tree_fails c.args.head _ _ _ _ _ _ c.in_ok-class_of.ensures.read.reads (rw c.place_count-places.ensures at c.in_ok-region_of.ensures.read.reads) c.in_err-tree.ensures.fault)

pub returns-in_err-read_end-clause-fault : goal.returns-in_err-read_end-clause-fault
returns-in_err-read_end-clause-fault c =
    let p = err_from_is_err_and c.from_residual-in_err-read_end.result c.from_residual-in_err-read_end.ensures.1 in rw (p.1, p.2) (end_fails c.args.head _ _ _ _ _ _ _ _ c.in_ok-class_of.ensures.read.reads (rw c.place_count-places.ensures at c.in_ok-region_of.ensures.read.reads) c.in_ok-tree.ensures.read.reads c.in_err-read_end.ensures.fault)

pub returns-clause-read : goal.returns-clause-read
returns-clause-read c =
    body_is c.args.head _ _ _ _ _ _ (same_head c.args.head _ c.in_ok-class_of.ensures.count) c.in_ok-class_of.ensures.read c.in_ok-class_of.ensures.range
    (rw c.place_count-places.ensures at c.in_ok-region_of.ensures.read) c.in_ok-region_of.ensures.range (c.in_ok-region_of.ensures.count ∙ c.place_count-places.ensures) c.in_ok-tree.ensures.read c.in_ok-read_end.ensures.read
