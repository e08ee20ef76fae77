use Rattle.std.proofs.Common.{◌≡◌, refl, ap, ◌∙◌, subst, Ok, Err, ℕ, ℤ, Bool, List}
use Rattle.row_laws.specs.declared.row.Row.{Row}
use Rattle.row_laws.specs.Values.{RowSum, moves, start_at}
use Rattle.row_laws.specs.Exact.{run, answer, finish}
use Rattle.row_laws.specs.declared.bound.Weak.TheVariants.{Wide}
use Rattle.bound_rows.specs.Domains.{allows}
use Rattle.bound_rows.specs.Scratch.{IsRun}
use Rattle.bound_rows.proofs.AnswerLemmas.{wide_answer, total_answer}
use Rattle.bound_rows.proofs.ScratchLemmas.{for_same}
use Rattle.bound_rows.proofs.sums.RowSumLeafProof.value.Goals as goal

-- the sum that the code reads
abbrev sum_of : ℕ → Bool → List (Row × ℤ) → RowSum
sum_of q void rows = record { denominator = q; void = void; rows = rows }

pub take_rows-requires-clause-scratch : goal.take_rows-requires-clause-scratch
take_rows-requires-clause-scratch c =
    let start = c.start.ensures.start (sum_of c.self.inside.denominator c.self.inside.void c.self.inside.rows.items) refl refl in
    record {
      room = (start.choice_count, start.link_count);
      ways = c.requires.scratch.ways;
      marks = c.requires.scratch.marks;
      kinds = c.requires.scratch.kinds;
      components = c.requires.scratch.components;
    }

pub returns-in-Err-clause-value : goal.returns-in-Err-clause-value
returns-in-Err-clause-value c =
    let p = c.args.problem.now in
    let s = sum_of c.self.inside.denominator c.self.inside.void c.self.inside.rows.items in
    subst (λ (t : RowSum). Err (Wide c.in-Err.entry) ≡ answer p (allows c.args.domains.now) t) c.self.view_is
    (wide_answer p (allows c.args.domains.now) s c.in-Err.entry c.take_rows.new.self.numbers
    (subst (λ (rows : List (Row × ℤ)). IsRun p (run (start_at p s) (moves p rows)) (Err c.in-Err.entry) c.take_rows.new.self.numbers) c.deref.ensures.value
    (c.in-Err.ensures.run (start_at p s) (c.start.ensures.start s refl refl))))

pub returns-in-Ok-clause-value : goal.returns-in-Ok-clause-value
returns-in-Ok-clause-value c =
    let p = c.args.problem.now in
    let s = sum_of c.self.inside.denominator c.self.inside.void c.self.inside.rows.items in
    subst (λ (t : RowSum). c.worth.result ≡ answer p (allows c.args.domains.now) t) c.self.view_is
    (total_answer p (allows c.args.domains.now) s c.worth.result c.take_rows.new.self.numbers
    (subst (λ (rows : List (Row × ℤ)). IsRun p (run (start_at p s) (moves p rows)) (Ok tt) c.take_rows.new.self.numbers) c.deref.ensures.value
    (c.in-Ok.ensures.run (start_at p s) (c.start.ensures.start s refl refl)))
    (λ f at. c.worth.ensures ∙ ap (λ r. finish c.self.inside.void c.self.inside.denominator r) (c.total.ensures f at)))

pub returns-in-Err-clause-same : goal.returns-in-Err-clause-same
returns-in-Err-clause-same c = for_same c.args.problem.now c.args.scratch.now c.take_rows.new.self c.requires.scratch c.in-Err.ensures.scratch c.in-Err.ensures.ways

pub returns-in-Ok-clause-same : goal.returns-in-Ok-clause-same
returns-in-Ok-clause-same c = for_same c.args.problem.now c.args.scratch.now c.take_rows.new.self c.requires.scratch c.in-Ok.ensures.scratch c.in-Ok.ensures.ways
