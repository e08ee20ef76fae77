-- The form of the command line of a check.
use Rattle.std.specs.Prelude.{◌≡◌, ℕ, List, ◌∷◌, Some, None, codes}
use Rattle.std.specs.List.{slice_get}
use Rattle.generalise_steps.specs.declared.map_format.Format.{Format}
use Rattle.generalise_core.specs.Words.{Request, Spells, Draft, Says, SaysNames, SaysFormat, empty_draft}

-- what is to be checked: the format of the map, and the four files
pub record CheckRequest : Type 0 where
  pub format : Format
  pub map : List ℕ
  pub table : List ℕ
  pub out : List ℕ
  pub certificate : List ℕ

-- The format and the four files are said, with no option that the format lacks, and no number of splits.
pub record IsCheckForm (draft : Draft) (q : CheckRequest) : Type 0 where
  pub word : List ℕ
  pub names : SaysNames draft word q.map q.table q.out q.certificate
  pub format : SaysFormat word draft.class draft.object q.format
  pub no_splits : draft.splits ≡ None

-- The words spell the request: the command, and behind it the operands, with the options anywhere among them.
pub record SpellsCheck (words : List (List ℕ)) (q : CheckRequest) : Type 0 where
  pub rest : List (List ℕ)
  pub draft : Draft
  pub command : words ≡ codes "check" ∷ rest
  pub says : Says empty_draft rest draft
  pub form : IsCheckForm draft q

-- the words begin with the command `check`
abbrev pub IsCheck : List (List ℕ) → Type 0
IsCheck words = slice_get words 0 ≡ Some (codes "check")

-- the words are in no form
abbrev pub AreUnspelled : List (List ℕ) → Type 0
AreUnspelled words = ((r : Request) → ¬ Spells words r) × ((q : CheckRequest) → ¬ SpellsCheck words q)
