use Rattle.std.proofs.Common.{◌≡◌, ◌∙◌, ◌≤◌, ◌-◌, length, take, get_or, true, sym, arith}
use Rattle.text_words.specs.Words.{is_blank}
use Rattle.class_table.specs.Words.{trim_end}
use Rattle.class_table.proofs.WordLemmas.{end_step, end_found, end_none}
use Rattle.class_table.proofs.name.trim_end.Goals as goal
use Rattle.class_table.proofs.name.trim_end.Goals.{then-loop-end-test+else-is_blank, else-loop-end-test}

pub loop-end-preserved : goal.loop-end-preserved
loop-end-preserved c =
    let text = c.args.text.now in
    let end = c.loop-end.end in
    let within : end ≤ length text = c.loop-end.invariant.0 in
    let blank : is_blank (get_or text (end - 1) 0) ≡ true = sym c.is_blank.ensures ∙ c.if-is_blank.true in
    (omega arith, sym (end_step text end c.loop-end-test.true within blank) ∙ c.loop-end.invariant.1)

pub returns : goal.returns
returns c =
    let text = c.args.text.now in
    let end = c.loop-end.end in
    let within : end ≤ length text = c.loop-end.invariant.0 in
    elim c.loop-end-test.branch as (λ _. take end text ≡ trim_end text) [
      | then-loop-end-test+else-is_blank w ↦ sym (end_found text end w.loop-end-test.true within (sym w.is_blank.ensures ∙ w.if-is_blank.false)) ∙ c.loop-end.invariant.1
      | else-loop-end-test w ↦ sym (end_none text end (let none = w.loop-end-test.false in omega arith)) ∙ c.loop-end.invariant.1
    ]
