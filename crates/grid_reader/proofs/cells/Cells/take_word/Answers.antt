use Rattle.std.proofs.Common.{◌++◌, ◌∷◌, [], ◌<◌, length, arith, length-append, subst, sym, ap, ◌∙◌, ℤ, List, take}
use Rattle.std.specs.List.{AllZip}
use Rattle.grid_reader.specs.Numbers.{SpellsCell}
use Rattle.grid_reader.proofs.CellLemmas.{taken_more, stored}
use Rattle.grid_reader.proofs.cells.Cells.take_word.Goals as goal

pub returns-clause-taken : goal.returns-clause-taken
returns-clause-taken c = λ parts taken.
    let old = c.args.self.now.values.items in
    let w = c.args.word.now in
    let z = c.in-Some.value in
    let count = taken.count in
    let low : length parts < c.args.self.now.total = omega arith in
    record {
      count = omega (arith, length-append parts (w ∷ []));
      values_are = subst (λ (vs : List ℤ). AllZip SpellsCell (take c.args.self.now.total (parts ++ w ∷ [])) vs)
          (sym (c.in_ok-push.ensures.items ∙ ap (λ (v : ℤ). old ++ v ∷ []) (stored z w c.in-Some.ensures.found)))
          (taken_more c.args.self.now.total parts w old z low taken.values_are c.in-Some.ensures.found);
    }
