use Rattle.std.proofs.Common.{◌≡◌, ◌<◌, length, arith, sym, ◌∙◌, subst}
use Rattle.std.specs.Prelude.{pos}
use Rattle.std.proofs.lemmas.List.FromFn.{length-map-range_with_len, map-range_with_len_more}
use Rattle.row_laws.specs.declared.row.Row.TheVariants.{Escape}
use Rattle.row_laws.specs.FirstSums.{escape_rows}
use Rattle.hopeless_parts.proofs.sums.void_leaf.Goals as goal

pub loop-class-preserved : goal.loop-class-preserved
loop-class-preserved c =
    let set = c.in_ok-set.ensures in
    c.in_ok-push.ensures.items
    ∙ rw (c.loop-class.invariant, set) (sym (map-range_with_len_more (λ j. (Escape c.args.area j c.args.part.now, pos 1)) 0 c.loop-class.class c.loop-class.class (omega arith)))

pub invariant_of-result : goal.invariant_of-result
invariant_of-result c =
    let long : length (escape_rows c.args.area c.args.part.now 0 c.loop-class.class) ≡ c.loop-class.class = length-map-range_with_len (λ j. (Escape c.args.area j c.args.part.now, pos 1)) 0 c.loop-class.class in
    let few = c.classes-class-end.ensures.few in
    let below = c.loop-class.auto.class-end in
    subst (λ xs. length xs < 4294967296) (sym c.loop-class.invariant) (omega arith)
