-- Worked texts.
use Rattle.std.proofs.Common.{◌≡◌, ◌≤◌, ◌<◌, [], ◌∷◌, ℕ, zero, suc, refl, arith, replicate}
use Rattle.std.specs.Prelude.{codes}
use Rattle.std.specs.Str.{IsAscii}
use Rattle.std.proofs.lemmas.Str.{IsUtf8-from_ascii}
use Rattle.json_text.specs.Tree.{Number, Str, array, object}
use Rattle.json_text.specs.Spelling.{Spells}
use Rattle.json_text.specs.Faults.{nesting, IsSyntaxFault, IsDepthFault}
use Rattle.json_text.specs.Steps.{reading, step, finish}
use Rattle.json_text.specs.declared.fault.JsonFault.{JsonFault}
use Rattle.json_text.proofs.NumberLemmas.{json_to}
use Rattle.json_text.proofs.CompactText.{IsPlainText, spells_alone}
use Rattle.json_text.proofs.Characters.{characters}
use Rattle.json_text.proofs.FaultLemmas.{read_fault}

ascii : (c : ℕ) → c < 128 → IsAscii (c ∷ [])
ascii c high zero = high
ascii c high (suc i) = omega arith

letter : (c : ℕ) → 32 ≤ c → c < 128 → IsPlainText (c ∷ [])
letter c low high = record { utf8 = IsUtf8-from_ascii (c ∷ []) (ascii c high); printed = (low, tt) }

-- an object of one member
an_object : Spells (codes "{\"a\":[1,-2.5e3,\"x\"]}") (object ((codes "a", array (Number (codes "1") ∷ Number (codes "-2.5e3") ∷ Str (codes "x") ∷ [])) ∷ []))
an_object = spells_alone _ (letter 97 (omega arith) (omega arith), (json_to (codes "1") refl, (json_to (codes "-2.5e3") refl, (letter 120 (omega arith) (omega arith), tt))), tt)

-- a bracket between quotes does not count, nor does a quote behind a backslash end the text
open_twice : nesting (codes "[\"]\\\"]\",{}, [") ≡ 2
open_twice = refl

-- a comma before the closing bracket
a_comma : IsSyntaxFault (codes "[1,]") 3
unfolding reading step finish
a_comma = read_fault characters (codes "[1,]") (JsonFault.Syntax 3) refl

-- brackets without an end, of which the 65th is too deep
brackets : IsDepthFault (replicate 70 91) 64
unfolding reading step finish
brackets = read_fault characters (replicate 70 91) (JsonFault.TooDeep 64) refl
