-- A header says one thing, or has one fault.
use Rattle.std.proofs.Common.{◌≡◌, ℕ, ◌*◌, ◌<◌, ◌≤◌, ◌⊎◌, inl, inr, ap, sym, ◌∙◌, subst, arith, true, List, [], ◌∷◌, Option, Some, None, ℤ}
use Rattle.std.specs.Prelude.{slice_index}
use Rattle.std.specs.Char.{is_ascii_alphabetic}
use Rattle.agg_base.specs.declared.limits.TheConstants.{CELLS}
use Rattle.agg_base.specs.Lines.{Row}
use Rattle.agg_base.proofs.WholeText.{one_whole}
use Rattle.plane_edge.specs.declared.frame.Limit.TheVariants.{Cells}
use Rattle.plane_edge.specs.declared.frame.Frame.{Frame}
use Rattle.plane_edge.specs.declared.frame.Frame.TheVariants.{Scaled}
use Rattle.text_words.specs.Words.{word, words}
use Rattle.grid_reader.specs.HeaderLines.{IsBlankLine, IsHeaderLine}
use Rattle.grid_reader.specs.Numbers.{SpellsCell}
use Rattle.grid_reader.specs.Header.{Draft, Sets, AddsWords, AreCentred, IsHeaderFault}
use Rattle.grid_reader.specs.Reading.{EndsHeader, FailsHeader}
use Rattle.grid_reader.specs.Whole.{LacksWord, SaysWhole, HasManyCells, IsEndFault}
use Rattle.grid_reader.specs.declared.draft.Name.{Name}
use Rattle.grid_reader.specs.declared.draft.Name.TheVariants.{Columns, Rows, Left, Low, Size, Nodata, Centre}
use Rattle.grid_reader.specs.declared.whole.Whole.{Whole}
use Rattle.grid_reader.specs.declared.fault.GridFault.{GridFault}
use Rattle.grid_reader.specs.declared.fault.GridFault.TheVariants.{Header, Centred, Cell, Count, Limit, Memory}
use Rattle.json_text.proofs.Cases.{false_true}

-- ---- one line

-- a text spells one cell at most
pub one_value : (text : List ℕ) (y z : ℤ) → SpellsCell text y → SpellsCell text z → y ≡ z
one_value text y z a b = one_whole text y z a.whole b.whole

one_sets : (name : Name) (h : Draft) (text : List ℕ) (e f : Draft) → Sets name h text e → Sets name h text f → e ≡ f
one_sets Columns h text e f a b = a.then_is ∙ ap (λ (n : ℕ). record h { columns = Some n }) (sym a.count_is.value ∙ b.count_is.value) ∙ sym b.then_is
one_sets Rows h text e f a b = a.then_is ∙ ap (λ (n : ℕ). record h { rows = Some n }) (sym a.count_is.value ∙ b.count_is.value) ∙ sym b.then_is
one_sets Left h text e f a b = a.then_is ∙ sym b.then_is
one_sets Low h text e f a b = a.then_is ∙ sym b.then_is
one_sets Size h text e f a b = a.then_is ∙ sym b.then_is
one_sets Nodata h text e f a b = a.then_is ∙ ap (λ (z : ℤ). record h { nodata = Some z }) (one_value text a.value b.value a.value_is b.value_is) ∙ sym b.then_is
one_sets Centre h text e f a b = absurd a

pub one_name : (o : Option Name) (m n : Name) → o ≡ Some m → o ≡ Some n → m ≡ n
one_name o m n a b = cc

one_adds : (h : Draft) (parts : List (List ℕ)) (e f : Draft) → AddsWords h parts e → AddsWords h parts f → e ≡ f
one_adds h parts e f a b =
    one_sets a.name h (word parts 1) e f a.sets (subst (λ (n : Name). Sets n h (word parts 1) f) (one_name _ b.name a.name b.name_is a.name_is) b.sets)

no_letter : (line : List ℕ) → IsBlankLine line → ¬ (IsHeaderLine line)
no_letter line blank is =
    let none : is_ascii_alphabetic (slice_index (word [] 0) 0) ≡ true = subst (λ (ws : List (List ℕ)). is_ascii_alphabetic (slice_index (word ws 0) 0) ≡ true) blank is in
    false_true none

-- which fault a line of the header has
abbrev HeaderKind : ℕ → List (List ℕ) → GridFault → Type 0
HeaderKind number parts fault = ((fault ≡ Header number) × ¬ (AreCentred parts)) ⊎ ((fault ≡ Centred number) × AreCentred parts)

header_kind : (h : Draft) (number : ℕ) (parts : List (List ℕ)) (fault : GridFault) → IsHeaderFault h number parts fault → HeaderKind number parts fault
header_kind h number parts Memory is = absurd is
header_kind h number parts (Header line) is = inl (ap Header is.0, is.1)
header_kind h number parts (Centred line) is = inr (ap Centred is.0, is.1)
header_kind h number parts (Cell row column) is = absurd is
header_kind h number parts (Count found) is = absurd is
header_kind h number parts (Limit limit) is = absurd is

one_header_fault : (h : Draft) (number : ℕ) (parts : List (List ℕ)) (f g : GridFault) → IsHeaderFault h number parts f → IsHeaderFault h number parts g → f ≡ g
one_header_fault h number parts f g a b =
    elim (header_kind h number parts f a) as (λ _. f ≡ g) [
      | inl header ↦ elim (header_kind h number parts g b) as (λ _. f ≡ g) [ inl too ↦ header.0 ∙ sym too.0 | inr centred ↦ absurd (header.1 centred.1) ]
      | inr centred ↦ elim (header_kind h number parts g b) as (λ _. f ≡ g) [ inl header ↦ absurd (header.1 centred.1) | inr too ↦ centred.0 ∙ sym too.0 ]
    ]

pub no_centre : (h : Draft) (parts : List (List ℕ)) (e : Draft) → AreCentred parts → ¬ (AddsWords h parts e)
no_centre h parts e centred adds = subst (λ (n : Name). Sets n h (word parts 1) e) (one_name _ adds.name Centre adds.name_is centred) adds.sets

fault_adds : (h : Draft) (number : ℕ) (parts : List (List ℕ)) (fault : GridFault) (e : Draft) → IsHeaderFault h number parts fault → ¬ (AddsWords h parts e)
fault_adds h number parts Memory e is adds = is
fault_adds h number parts (Header line) e is adds = is.2 e adds
fault_adds h number parts (Centred line) e is adds = no_centre h parts e is.1 adds
fault_adds h number parts (Cell row column) e is adds = is
fault_adds h number parts (Count found) e is adds = is
fault_adds h number parts (Limit limit) e is adds = is

-- ---- all lines

-- a header ends in one way
pub ends_one : (h e f : Draft) (rows body more : List Row) → EndsHeader h rows e body → EndsHeader h rows f more → (e ≡ f) × (body ≡ more)
ends_one h e f [] body more a b = (sym a.0 ∙ b.0, a.1 ∙ sym b.1)
ends_one h e f (row ∷ rows) body more a b = elim a as (λ _. (e ≡ f) × (body ≡ more)) [
  | inl blank ↦ elim b as (λ _. (e ≡ f) × (body ≡ more)) [
    | inl too ↦ ends_one h e f rows body more blank.1 too.1
    | inr (inl adds) ↦ absurd (no_letter row.text blank.0 adds.0)
    | inr (inr ends) ↦ absurd (ends.0 blank.0)
  ]
  | inr (inl adds) ↦ elim b as (λ _. (e ≡ f) × (body ≡ more)) [
    | inl blank ↦ absurd (no_letter row.text blank.0 adds.0)
    | inr (inl too) ↦ ends_one too.1.0 e f rows body more
        (subst (λ (n : Draft). EndsHeader n rows e body) (one_adds h (words row.text) adds.1.0 too.1.0 adds.1.1 too.1.1) adds.1.2) too.1.2
    | inr (inr ends) ↦ absurd (ends.1 adds.0)
  ]
  | inr (inr ends) ↦ elim b as (λ _. (e ≡ f) × (body ≡ more)) [
    | inl blank ↦ absurd (ends.0 blank.0)
    | inr (inl adds) ↦ absurd (ends.1 adds.0)
    | inr (inr too) ↦ (sym ends.2 ∙ too.2, ends.3 ∙ sym too.3)
  ]
]

-- a header that ends has no fault
pub ends_fails : (h e : Draft) (rows body : List Row) (fault : GridFault) → EndsHeader h rows e body → ¬ (FailsHeader h rows fault)
ends_fails h e [] body fault a b = b
ends_fails h e (row ∷ rows) body fault a b = elim a as (λ _. ⊥) [
  | inl blank ↦ elim b as (λ _. ⊥) [
    | inl too ↦ ends_fails h e rows body fault blank.1 too.1
    | inr (inl adds) ↦ no_letter row.text blank.0 adds.0
    | inr (inr fails) ↦ no_letter row.text blank.0 fails.0
  ]
  | inr (inl adds) ↦ elim b as (λ _. ⊥) [
    | inl blank ↦ no_letter row.text blank.0 adds.0
    | inr (inl too) ↦ ends_fails too.1.0 e rows body fault
        (subst (λ (n : Draft). EndsHeader n rows e body) (one_adds h (words row.text) adds.1.0 too.1.0 adds.1.1 too.1.1) adds.1.2) too.1.2
    | inr (inr fails) ↦ fault_adds h row.number (words row.text) fault adds.1.0 fails.1 adds.1.1
  ]
  | inr (inr ends) ↦ elim b as (λ _. ⊥) [
    | inl blank ↦ ends.0 blank.0
    | inr (inl adds) ↦ ends.1 adds.0
    | inr (inr fails) ↦ ends.1 fails.0
  ]
]

-- a header has one first fault
pub fails_one : (h : Draft) (rows : List Row) (f g : GridFault) → FailsHeader h rows f → FailsHeader h rows g → f ≡ g
fails_one h [] f g a b = absurd a
fails_one h (row ∷ rows) f g a b = elim a as (λ _. f ≡ g) [
  | inl blank ↦ elim b as (λ _. f ≡ g) [
    | inl too ↦ fails_one h rows f g blank.1 too.1
    | inr (inl adds) ↦ absurd (no_letter row.text blank.0 adds.0)
    | inr (inr fails) ↦ absurd (no_letter row.text blank.0 fails.0)
  ]
  | inr (inl adds) ↦ elim b as (λ _. f ≡ g) [
    | inl blank ↦ absurd (no_letter row.text blank.0 adds.0)
    | inr (inl too) ↦ fails_one too.1.0 rows f g
        (subst (λ (n : Draft). FailsHeader n rows f) (one_adds h (words row.text) adds.1.0 too.1.0 adds.1.1 too.1.1) adds.1.2) too.1.2
    | inr (inr fails) ↦ absurd (fault_adds h row.number (words row.text) g adds.1.0 fails.1 adds.1.1)
  ]
  | inr (inr fails) ↦ elim b as (λ _. f ≡ g) [
    | inl blank ↦ absurd (no_letter row.text blank.0 fails.0)
    | inr (inl adds) ↦ absurd (fault_adds h row.number (words row.text) f adds.1.0 fails.1 adds.1.1)
    | inr (inr too) ↦ one_header_fault h row.number (words row.text) f g fails.1 too.1
  ]
]

-- ---- the end

one_some : {A : Type 0} (o : Option A) (x y : A) → o ≡ Some x → o ≡ Some y → x ≡ y
one_some o x y a b = cc

same_whole : (v w : Whole) → v.columns ≡ w.columns → v.rows ≡ w.rows → v.nodata ≡ w.nodata → v.frame ≡ w.frame → v ≡ w
same_whole v w a b c d =
    ap (λ (x : ℕ). record v { columns = x }) a ∙ ap (λ (x : ℕ). record v { columns = w.columns; rows = x }) b
    ∙ ap (λ (x : ℤ). record v { columns = w.columns; rows = w.rows; nodata = x }) c ∙ ap (λ (x : Frame). record w { frame = x }) d

same_frame : (size low left : List ℕ) (other_size other_low other_left : List ℕ) → size ≡ other_size → left ≡ other_left → low ≡ other_low → Scaled size size left low ≡ Scaled other_size other_size other_left other_low
same_frame size low left other_size other_low other_left a b c = (cc)

-- a header says one thing
pub says_one : (h : Draft) (v w : Whole) → SaysWhole h v → SaysWhole h w → v ≡ w
says_one h v w a b = same_whole v w
    (one_some h.columns v.columns w.columns a.columns_are b.columns_are)
    (one_some h.rows v.rows w.rows a.rows_are b.rows_are)
    (a.nodata_is ∙ sym b.nodata_is)
    (a.frame_is ∙ same_frame a.size a.low a.left b.size b.low b.left (one_some h.size a.size b.size a.size_is b.size_is) (one_some h.left a.left b.left a.left_is b.left_is) (one_some h.low a.low b.low a.low_is b.low_is) ∙ sym b.frame_is)

abbrev EndKind : Draft → ℕ → GridFault → Type 0
EndKind h number fault = ((fault ≡ Header number) × LacksWord h) ⊎ ((fault ≡ Limit Cells) × ¬ (LacksWord h) × HasManyCells h)

end_kind : (h : Draft) (number : ℕ) (fault : GridFault) → IsEndFault h number fault → EndKind h number fault
end_kind h number Memory is = absurd is
end_kind h number (Header line) is = inl (ap Header is.0, is.1)
end_kind h number (Centred line) is = absurd is
end_kind h number (Cell row column) is = absurd is
end_kind h number (Count found) is = absurd is
end_kind h number (Limit limit) is = inr (ap Limit is.0, is.1, is.2)

-- a header's end has one fault
pub one_end_fault : (h : Draft) (number : ℕ) (f g : GridFault) → IsEndFault h number f → IsEndFault h number g → f ≡ g
one_end_fault h number f g a b =
    elim (end_kind h number f a) as (λ _. f ≡ g) [
      | inl lacks ↦ elim (end_kind h number g b) as (λ _. f ≡ g) [ inl too ↦ lacks.0 ∙ sym too.0 | inr many ↦ absurd (many.1 lacks.1) ]
      | inr many ↦ elim (end_kind h number g b) as (λ _. f ≡ g) [ inl lacks ↦ absurd (many.1 lacks.1) | inr too ↦ many.0 ∙ sym too.0 ]
    ]

none_some : {A : Type 0} (o : Option A) (x : A) → o ≡ None → o ≡ Some x → ⊥
none_some o x a b = cc

says_lacks : (h : Draft) (w : Whole) → SaysWhole h w → ¬ (LacksWord h)
says_lacks h w says lacks = elim lacks as (λ _. ⊥) [
  | inl e ↦ none_some h.columns w.columns e says.columns_are
  | inr (inl e) ↦ none_some h.rows w.rows e says.rows_are
  | inr (inr (inl e)) ↦ none_some h.left says.left e says.left_is
  | inr (inr (inr (inl e))) ↦ none_some h.low says.low e says.low_is
  | inr (inr (inr (inr e))) ↦ none_some h.size says.size e says.size_is
]

-- the end of a whole header has no fault
pub says_fault : (h : Draft) (number : ℕ) (w : Whole) (fault : GridFault) → SaysWhole h w → w.columns * w.rows ≤ CELLS → ¬ (IsEndFault h number fault)
says_fault h number w fault says few is =
    elim (end_kind h number fault is) as (λ _. ⊥) [
      | inl lacks ↦ says_lacks h w says lacks.1
      | inr many ↦
          (let columns : many.2.columns ≡ w.columns = one_some h.columns many.2.columns w.columns many.2.columns_are says.columns_are in
          let rows : many.2.rows ≡ w.rows = one_some h.rows many.2.rows w.rows many.2.rows_are says.rows_are in
          let more : CELLS < w.columns * w.rows = subst (λ (n : ℕ). CELLS < w.columns * n) rows (subst (λ (n : ℕ). CELLS < n * many.2.rows) columns many.2.many) in
          omega arith)
    ]
