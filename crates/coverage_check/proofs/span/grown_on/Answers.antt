use Rattle.std.proofs.Common.{◌≡◌, rules, refl, FitsSigned}
use Rattle.std.specs.Int.{w32, int_min}
use Rattle.std.proofs.lemmas.Int.{to_z-of_z}
use Rattle.coverage_check.proofs.SpanLemmas.{span_on}
use Rattle.coverage_check.proofs.span.grown_on.Goals as goal

pub returns : goal.returns
returns c =
    let s = c.args.own.now in
    let t = c.args.behind.now in
    let f : FitsSigned w32 c.min.result = record { sfits = c.min.type_inv } in
    let a : FitsSigned w32 s.least = search rules in
    let b : FitsSigned w32 t.least = search rules in
    let d : FitsSigned w32 s.most = search rules in
    let v : c.min.result ≡ int_min s.least t.least = simp to_z-of_z at c.min.ensures.value in
    simp to_z-of_z (span_on c.args.edges.now c.args.at s t _ c.requires.own c.requires.behind refl refl refl v)
