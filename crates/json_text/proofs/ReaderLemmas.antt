-- From what the reader of all bytes gives to what its contract says.
use Rattle.std.proofs.Common.{◌≡◌, refl, ap, subst, List, ℕ}
use Rattle.std.specs.Prelude.{Result, Ok, Err, IfOk, IfErr}
use Rattle.json_text.specs.Values.{json_of}
use Rattle.json_text.specs.Tree.{Json}
use Rattle.json_text.specs.Faults.{IsTextOf, IsFirstFault, IsFaultOf}
use Rattle.json_text.specs.Steps.{Gives, reading}
use Rattle.json_text.specs.declared.tree.Tree.{Tree}
use Rattle.json_text.specs.declared.fault.JsonFault.{JsonFault}
use Rattle.json_text.proofs.CharacterFacts.{CharacterFacts}
use Rattle.json_text.proofs.FaultLemmas.{read_tree, read_fault}
use Rattle.json_text.proofs.LawLemmas.{one_tree_text, one_first_fault, tree_no_fault}

pub gives_tree : CharacterFacts → (bytes : List ℕ) (result : Result Tree JsonFault) → Gives json_of result (reading bytes) → IfOk result (λ tree. IsTextOf bytes (json_of tree))
gives_tree facts bytes (Ok tree) h = read_tree facts bytes (json_of tree) h
gives_tree facts bytes (Err fault) h = tt

pub gives_fault : CharacterFacts → (bytes : List ℕ) (result : Result Tree JsonFault) → Gives json_of result (reading bytes) → IfErr result (λ fault. IsFaultOf bytes fault)
gives_fault facts bytes (Ok tree) h = tt
gives_fault facts bytes (Err (JsonFault.Syntax at)) h = read_fault facts bytes (JsonFault.Syntax at) h
gives_fault facts bytes (Err (JsonFault.TooDeep at)) h = read_fault facts bytes (JsonFault.TooDeep at) h
gives_fault facts bytes (Err JsonFault.Memory) h = tt

reads_tree : CharacterFacts → (bytes : List ℕ) (tree : Json) → IsTextOf bytes tree → reading bytes ≡ Ok tree
reads_tree facts bytes tree text = elim (reading bytes) as (λ r. reading bytes ≡ r → r ≡ Ok tree) [
  | Ok other ↦ λ e. ap (λ (t : Json). Ok t) (one_tree_text facts bytes other tree (read_tree facts bytes other e).spelled text.spelled)
  | Err fault ↦ λ e. absurd (tree_no_fault bytes tree fault text (read_fault facts bytes fault e))
] refl

reads_fault : CharacterFacts → (bytes : List ℕ) (fault : JsonFault) → IsFirstFault bytes fault → reading bytes ≡ Err fault
reads_fault facts bytes fault first = elim (reading bytes) as (λ r. reading bytes ≡ r → r ≡ Err fault) [
  | Ok tree ↦ λ e. absurd (tree_no_fault bytes tree fault (read_tree facts bytes tree e) first)
  | Err other ↦ λ e. ap (λ (f : JsonFault). Err f) (one_first_fault bytes other fault (read_fault facts bytes other e) first)
] refl

pub gives_spelled : CharacterFacts → (bytes : List ℕ) (result : Result Tree JsonFault) (tree : Json) → Gives json_of result (reading bytes) → IsTextOf bytes tree → Gives json_of result (Ok tree)
gives_spelled facts bytes result tree h text = subst (λ (r : Result Json JsonFault). Gives json_of result r) (reads_tree facts bytes tree text) h

pub gives_faulty : CharacterFacts → (bytes : List ℕ) (result : Result Tree JsonFault) (fault : JsonFault) → Gives json_of result (reading bytes) → IsFirstFault bytes fault → Gives json_of result (Err fault)
gives_faulty facts bytes result fault h first = subst (λ (r : Result Json JsonFault). Gives json_of result r) (reads_fault facts bytes fault first) h
