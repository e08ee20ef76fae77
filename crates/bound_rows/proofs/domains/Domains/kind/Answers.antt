use Rattle.std.proofs.Common.{◌≡◌, ◌<◌, ◌^◌, ◌∙◌, ap, arith, rules, get_or, Fits, w64}
use Rattle.std.specs.Prelude.{slice_index}
use Rattle.std.specs.Int.{trailing_zeros}
use Rattle.std.proofs.lemmas.Grind.{get_or_default_zero}
use Rattle.std.proofs.lemmas.Nat.Bits.{bit_at-trailing_zeros}
use Rattle.bound_rows.proofs.KindLemmas.{least_is_only}
use Rattle.bound_rows.proofs.domains.Domains.kind.Goals as goal

pub overflow_cast-result : goal.overflow_cast-result
overflow_cast-result c =
    let view : c.self.inside.sets.items ≡ c.args.self.now = c.self.view_is in
    let read : c.index.result.now ≡ slice_index c.args.self.now c.args.area =
    c.index.ensures ∙ (ap (λ xs. get_or xs c.args.area c.index.result.now) view ∙ get_or_default_zero c.args.self.now c.args.area c.index.result.now c.requires.area) in
    let some = c.requires.some in
    let range : Fits w64 c.index.result.now = search rules in
    let low = bit_at-trailing_zeros w64 c.index.result.now (omega (arith, read)) range.fits in
    let small : trailing_zeros w64 c.index.result.now < 64 = low.0 in
    omega (arith, small)

pub returns : goal.returns
returns c = λ classes single.
    let view : c.self.inside.sets.items ≡ c.args.self.now = c.self.view_is in
    let read : c.index.result.now ≡ slice_index c.args.self.now c.args.area =
    c.index.ensures ∙ (ap (λ xs. get_or xs c.args.area c.index.result.now) view ∙ get_or_default_zero c.args.self.now c.args.area c.index.result.now c.requires.area) in
    let range : Fits w64 c.index.result.now = search rules in
    let fits : c.index.result.now < 2 ^ 64 = range.fits in
    ap (λ n. trailing_zeros w64 n) read ∙ least_is_only (slice_index c.args.self.now c.args.area) classes (omega (arith, read, fits)) single
