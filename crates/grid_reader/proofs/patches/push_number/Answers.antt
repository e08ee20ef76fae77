use Rattle.std.proofs.Common.{◌≤◌, arith, Some, None, ◌∙◌, slice_index}
use Rattle.std.proofs.lemmas.List.{get_or_read}
use Rattle.grid_reader.specs.Patches.{number_at}
use Rattle.grid_reader.proofs.NumberLemmas.{numbered_none, numbered_first, numbered_further, push_before, push_last}
use Rattle.grid_reader.proofs.patches.push_number.Goals as goal

pub returns-then-is_empty-clause-after : goal.returns-then-is_empty-clause-after
returns-then-is_empty-clause-after c =
    let old = c.args.numbers.now.items in
    let new = c.push.new.self.items in
    let is = c.in_ok-push.ensures.items in
    numbered_none c.args.grid.now c.args.at (number_at old) (number_at new) c.args.count c.requires.before
    (push_before old new None c.args.at c.requires.long is) (push_last old new None c.args.at c.requires.long is)
    (c.is_empty.ensures.0 c.if-is_empty.true)

pub returns-then-leader-at-clause-after : goal.returns-then-leader-at-clause-after
returns-then-leader-at-clause-after c =
    let old = c.args.numbers.now.items in
    let new = c.push-then-leader-at.new.self.items in
    let is = c.in_ok-push-2.ensures.items in
    numbered_first c.args.grid.now c.args.at (number_at old) (number_at new) c.args.count (λ i. slice_index c.args.leaders.now i) c.requires.leaders c.requires.next c.requires.before
    (push_before old new (Some c.args.count) c.args.at c.requires.long is) (push_last old new (Some c.args.count) c.args.at c.requires.long is)
    (λ e. (let full = c.is_empty.ensures.1 e in let not_full = c.if-is_empty.false in cc)) c.if-leader-at.true

pub returns-clause-after : goal.returns-clause-after
returns-clause-after c =
    let old = c.args.numbers.now.items in
    let new = c.push-2.new.self.items in
    let is = c.in_ok-push-3.ensures.items in
    numbered_further c.args.grid.now c.args.at (number_at old) (number_at new) c.args.count (λ i. slice_index c.args.leaders.now i) c.requires.leaders c.requires.next c.requires.before
    (push_before old new c.index.result.now c.args.at c.requires.long is) (push_last old new c.index.result.now c.args.at c.requires.long is ∙ (get_or_read old _ _ (let low : slice_index c.args.leaders.now c.args.at ≤ c.args.at = c.requires.leaders.low c.args.at c.requires.next in let ne = c.if-leader-at.false in let long = c.requires.long in omega arith) c.index.ensures None))
    (λ e. (let full = c.is_empty.ensures.1 e in let not_full = c.if-is_empty.false in cc)) c.if-leader-at.false
