use Rattle.std.proofs.Common.{◌≡◌, rules, refl, FitsSigned}
use Rattle.std.specs.Int.{w32, int_max}
use Rattle.std.proofs.lemmas.Int.{to_z-of_z}
use Rattle.coverage_check.proofs.SpanLemmas.{span_back}
use Rattle.coverage_check.proofs.span.grown_back.Goals as goal

pub returns : goal.returns
returns c =
    let s = c.args.before.now in
    let t = c.alone-own.result in
    let f : FitsSigned w32 c.max.result = record { sfits = c.max.type_inv } in
    let a : FitsSigned w32 s.most = search rules in
    let b : FitsSigned w32 t.most = search rules in
    let d : FitsSigned w32 t.least = search rules in
    let v : c.max.result ≡ int_max s.most t.most = simp to_z-of_z at c.max.ensures.value in
    simp to_z-of_z (span_back c.args.edges.now c.args.at s t _ c.requires.before c.alone-own.ensures refl refl v refl)
