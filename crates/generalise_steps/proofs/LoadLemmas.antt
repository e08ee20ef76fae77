-- Two texts are accepted in one way at most.
use Rattle.std.proofs.Common.{◌≡◌, ℕ, ◌+◌, List, length, sym, ◌∙◌, ap, subst, arith}
use Rattle.plane_edge.specs.declared.frame.Frame.{Frame}
use Rattle.map_values.specs.Layers.{Layer}
use Rattle.class_table.specs.Table.{Table}
use Rattle.class_table.proofs.LawLemmas.{one_table_text}
use Rattle.coverage_check.specs.Checked.{Checked}
use Rattle.coverage_check.specs.Kept.{OddArea, kept_of}
use Rattle.agg_model.specs.Problem.{Problem}
use Rattle.area_graph.specs.Problems.{IsProblemOf}
use Rattle.area_graph.proofs.OneProblem.{one_problem_law}
use Rattle.generalise_steps.specs.Loads.{IsMap, Loads}
use Rattle.generalise_steps.specs.declared.map_format.Format.{Format}
use Rattle.generalise_steps.proofs.MapLemmas.{one_map_text}

same_map : (c d : Checked) → c.areas ≡ d.areas → c.passed ≡ d.passed → c.frame ≡ d.frame → c ≡ d
same_map c d a p f =
    ap (λ (x : List OddArea). record { areas = x; passed = c.passed; frame = c.frame }) a
    ∙ ap (λ (x : ℕ). record { areas = d.areas; passed = x; frame = c.frame }) p
    ∙ ap (λ (x : Frame). record { areas = d.areas; passed = d.passed; frame = x }) f

pub one_map : (format : Format) (map : List ℕ) (c d : Checked) → IsMap format map c → IsMap format map d → c ≡ d
one_map format map c d h k =
    let one : h.layer ≡ k.layer = one_map_text format map h.layer k.layer h.spelled k.spelled in
    let kept : c.areas ≡ d.areas = h.kept ∙ ap (λ (l : Layer). kept_of l.areas) one ∙ sym k.kept in
    let many : length h.layer.areas ≡ length k.layer.areas = ap (λ (l : Layer). length l.areas) one in
    let others : h.layer.passed ≡ k.layer.passed = ap (λ (l : Layer). l.passed) one in
    let count : length c.areas ≡ length d.areas = ap length kept in
    let passed : c.passed + length c.areas ≡ h.layer.passed + length h.layer.areas = h.passed in
    let other : d.passed + length d.areas ≡ k.layer.passed + length k.layer.areas = k.passed in
    same_map c d kept (omega arith) (h.frame ∙ ap (λ (l : Layer). l.frame) one ∙ sym k.frame)

pub one_load : (format : Format) (map text : List ℕ) (c d : Checked) (t u : Table) (p q : Problem) → Loads format map text c t p → Loads format map text d u q
    → (c ≡ d) × (t ≡ u) × (p ≡ q)
one_load format map text c d t u p q h k =
    let map_is : c ≡ d = one_map format map c d h.is_map k.is_map in
    let table_is : t ≡ u = one_table_text text t u h.is_table k.is_table in
    let here : IsProblemOf c.areas t q = subst (λ x. IsProblemOf c.areas x q) (sym table_is) (subst (λ (x : Checked). IsProblemOf x.areas u q) (sym map_is) k.is_problem) in
    (map_is, table_is, one_problem_law c.areas t p q h.is_table.content h.is_problem here)
