use Rattle.std.proofs.Common.{arith, ◌∙◌, ap, ◌≡◌, Bool, eqb, ◌&&◌, int_le, IsTrue, ℤ, ◌≤ℤ◌, subst, sym, List, All, AllPairs}
use Rattle.std.proofs.lemmas.Int.{ints}
use Rattle.edge_rows.specs.declared.row.Row.{Row}
use Rattle.edge_rows.specs.Banks.{IsBefore}
use Rattle.edge_rows.proofs.BankLemmas.{all_low}
use Rattle.edge_rows.proofs.laying.has_place_for.Goals as goal

not_lower : (b r : Bool) (a z : ℤ) → r ≡ (b && int_le a z) → IsTrue r → a ≤ℤ z
not_lower b r a z h k = grind (arith, ints)

pub returns-in-Some : goal.returns-in-Some
returns-in-Some c = λ t.
    let last = c.in-Some.last.now in
    let rows = c.deref.result.now in
    let z = c.args.row.now.last.low in
    let alike : Bool = eqb last.last.level c.args.row.now.last.level in
    let rising = subst (λ (rs : List Row). AllPairs IsBefore rs) (sym c.deref.ensures.value) c.args.bank.now.rising in
    subst (λ (rs : List Row). All (λ r. r.last.low ≤ℤ z) rs) c.deref.ensures.value (all_low rows last z rising c.in-Some.ensures.item.3.1 (not_lower alike c.are_both.result last.last.low z (c.are_both.ensures ∙ ap (λ b. alike && b) c.is_not_lower.ensures) t))
