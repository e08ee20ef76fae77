use Rattle.std.proofs.Common.{◌↔◌, refl, sym, subst, ℕ, Bool, List}
use Rattle.std.specs.Prelude.{Option, Some, None, IsTrue, IfSome, IfNone, is_some}
use Rattle.json_text.specs.Values.{json_of}
use Rattle.map_values.specs.Positions.{BeginsWithNumbers}
use Rattle.geo_reader.specs.Features.{IsPosition}
use Rattle.geo_reader.proofs.ring.is_position.Goals as goal

-- a value is there exactly where that holds
there_iff : {X : Type 0} (o : Option X) (P : X → Type 0) (N Q : Type 0) → ((x : X) → P x → Q) → (N → ¬ Q) → IfSome o P → IfNone o N → IsTrue (is_some o) ↔ Q
there_iff None P N Q follows never some none = (λ e. cc, λ q. absurd (never none q))
there_iff (Some x) P N Q follows never some none = (λ e. follows x some, λ q. refl)

pub returns : goal.returns
returns c =
    let tree = json_of c.args.tree.now in
    let there = there_iff c.numbers_of.result (λ p. BeginsWithNumbers tree p.0.now p.1.now) ((first second : List ℕ) → ¬ BeginsWithNumbers tree first second) (IsPosition tree)
    (λ p is. (p.0.now, p.1.now, is)) (λ none is. none is.0 is.1 is.2) c.numbers_of.ensures.found c.numbers_of.ensures.none in
    subst (λ (b : Bool). IsTrue b ↔ IsPosition tree) (sym c.is_some.ensures) there
