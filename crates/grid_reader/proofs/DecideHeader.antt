-- A header ends whole, or has a fault.
use Rattle.std.proofs.Common.{◌≡◌, ℕ, ◌*◌, ◌≤◌, ◌==◌, ◌⊎◌, inl, inr, refl, sym, ◌∙◌, subst, arith, List, [], ◌∷◌, length, Option, Some, None, pos, neg_ℤ, unwrap_or}
use Rattle.std.specs.Prelude.{nat_le, slice_index}
use Rattle.std.specs.Char.{is_ascii_alphabetic}
use Rattle.std.proofs.lemmas.Bool.Decides.{nat_tests, Decides-eqb}
use Rattle.agg_base.specs.declared.limits.TheConstants.{CELLS}
use Rattle.agg_base.specs.Lines.{Row}
use Rattle.plane_edge.specs.declared.frame.Limit.TheVariants.{Cells}
use Rattle.plane_edge.specs.declared.frame.Frame.TheVariants.{Scaled}
use Rattle.text_words.specs.Words.{word, words}
use Rattle.grid_reader.specs.HeaderLines.{IsBlankLine, IsHeaderLine}
use Rattle.grid_reader.specs.Header.{Draft, name_in, Sets, AddsWords, IsHeaderFault}
use Rattle.grid_reader.specs.Reading.{EndsHeader, FailsHeader}
use Rattle.grid_reader.specs.Whole.{LacksWord, SaysWhole, IsEndFault}
use Rattle.grid_reader.specs.declared.draft.Name.{Name}
use Rattle.grid_reader.specs.declared.draft.Name.TheVariants.{Columns, Rows, Left, Low, Size, Nodata, Centre}
use Rattle.grid_reader.specs.declared.whole.Whole.{Whole}
use Rattle.grid_reader.specs.declared.fault.GridFault.{GridFault}
use Rattle.grid_reader.specs.declared.fault.GridFault.TheVariants.{Header, Limit, Centred}
use Rattle.json_text.proofs.Cases.{by_cases_of, false_true}
use Rattle.grid_reader.proofs.DecideText.{count_or, cell_or, corner_or, size_or}
use Rattle.grid_reader.proofs.OneHeader.{one_name}

-- ---- one line

abbrev SetsOr : Name → Draft → List ℕ → Type 0
SetsOr name h text = ((e : Draft) × Sets name h text e) ⊎ ((e : Draft) → ¬ (Sets name h text e))

old_new : {A : Type 0} (o : Option A) (x : A) → o ≡ Some x → ¬ (o ≡ None)
old_new o x e n = cc

-- what was said before is not said again
new_or : {A : Type 0} (o : Option A) → (o ≡ None) ⊎ ¬ (o ≡ None)
new_or None = inl refl
new_or (Some x) = inr (λ n. old_new (Some x) x refl n)

sets_or : (name : Name) (h : Draft) (text : List ℕ) → SetsOr name h text
sets_or Columns h text = elim (new_or h.columns) as (λ _. SetsOr Columns h text) [
  | inl new ↦ elim (count_or text) as (λ _. SetsOr Columns h text) [
    | inl is ↦ inl (record h { columns = Some is.0 }, record { new = new; count = is.0; count_is = is.1; then_is = refl })
    | inr none ↦ inr (λ e sets. none sets.count sets.count_is)
  ]
  | inr old ↦ inr (λ e sets. old sets.new)
]
sets_or Rows h text = elim (new_or h.rows) as (λ _. SetsOr Rows h text) [
  | inl new ↦ elim (count_or text) as (λ _. SetsOr Rows h text) [
    | inl is ↦ inl (record h { rows = Some is.0 }, record { new = new; count = is.0; count_is = is.1; then_is = refl })
    | inr none ↦ inr (λ e sets. none sets.count sets.count_is)
  ]
  | inr old ↦ inr (λ e sets. old sets.new)
]
sets_or Left h text = elim (new_or h.left) as (λ _. SetsOr Left h text) [
  | inl new ↦ elim (corner_or text) as (λ _. SetsOr Left h text) [
    | inl is ↦ inl (record h { left = Some text }, record { new = new; text_is = is; then_is = refl })
    | inr none ↦ inr (λ e sets. none sets.text_is)
  ]
  | inr old ↦ inr (λ e sets. old sets.new)
]
sets_or Low h text = elim (new_or h.low) as (λ _. SetsOr Low h text) [
  | inl new ↦ elim (corner_or text) as (λ _. SetsOr Low h text) [
    | inl is ↦ inl (record h { low = Some text }, record { new = new; text_is = is; then_is = refl })
    | inr none ↦ inr (λ e sets. none sets.text_is)
  ]
  | inr old ↦ inr (λ e sets. old sets.new)
]
sets_or Size h text = elim (new_or h.size) as (λ _. SetsOr Size h text) [
  | inl new ↦ elim (size_or text) as (λ _. SetsOr Size h text) [
    | inl is ↦ inl (record h { size = Some text }, record { new = new; text_is = is; then_is = refl })
    | inr none ↦ inr (λ e sets. none sets.text_is)
  ]
  | inr old ↦ inr (λ e sets. old sets.new)
]
sets_or Nodata h text = elim (new_or h.nodata) as (λ _. SetsOr Nodata h text) [
  | inl new ↦ elim (cell_or text) as (λ _. SetsOr Nodata h text) [
    | inl is ↦ inl (record h { nodata = Some is.0 }, record { new = new; value = is.0; value_is = is.1; then_is = refl })
    | inr none ↦ inr (λ e sets. none sets.value sets.value_is)
  ]
  | inr old ↦ inr (λ e sets. old sets.new)
]
sets_or Centre h text = inr (λ e sets. sets)

abbrev AddsOr : Draft → List (List ℕ) → Type 0
AddsOr h parts = ((e : Draft) × AddsWords h parts e) ⊎ ((e : Draft) → ¬ (AddsWords h parts e))

named_or : (h : Draft) (parts : List (List ℕ)) (name : Name) → length parts ≡ 2 → name_in (word parts 0) ≡ Some name → AddsOr h parts
named_or h parts name two is = elim (sets_or name h (word parts 1)) as (λ _. AddsOr h parts) [
  | inl sets ↦ inl (sets.0, record { two = two; name = name; name_is = is; sets = sets.1 })
  | inr none ↦ inr (λ e adds. none e (subst (λ (n : Name). Sets n h (word parts 1) e) (one_name _ adds.name name adds.name_is is) adds.sets))
]

unnamed : (h : Draft) (parts : List (List ℕ)) (e : Draft) → name_in (word parts 0) ≡ None → ¬ (AddsWords h parts e)
unnamed h parts e none adds = old_new (name_in (word parts 0)) adds.name adds.name_is none

adds_or : (h : Draft) (parts : List (List ℕ)) → AddsOr h parts
adds_or h parts =
    by_cases_of (length parts == 2) _
    (λ two. elim (name_in (word parts 0)) as (λ o. name_in (word parts 0) ≡ o → AddsOr h parts) [
      | None ↦ λ none. inr (λ e adds. unnamed h parts e none adds)
      | Some name ↦ λ is. named_or h parts name ((Decides-eqb (length parts) 2).0 two) is
    ] refl)
    (λ other. inr (λ e adds. false_true (sym other ∙ (Decides-eqb (length parts) 2).1 adds.two)))

centre_or : (o : Option Name) → (o ≡ Some Centre) ⊎ ¬ (o ≡ Some Centre)
centre_or None = inr (λ e. old_new None Centre e refl)
centre_or (Some Columns) = inr (λ e. cc)
centre_or (Some Rows) = inr (λ e. cc)
centre_or (Some Left) = inr (λ e. cc)
centre_or (Some Low) = inr (λ e. cc)
centre_or (Some Size) = inr (λ e. cc)
centre_or (Some Nodata) = inr (λ e. cc)
centre_or (Some Centre) = inl refl

line_fault : (h : Draft) (number : ℕ) (parts : List (List ℕ)) → ((e : Draft) → ¬ (AddsWords h parts e)) → (f : GridFault) × IsHeaderFault h number parts f
line_fault h number parts none = elim (centre_or (name_in (word parts 0))) as (λ _. (f : GridFault) × IsHeaderFault h number parts f) [
  | inl centred ↦ (Centred number, (refl, centred))
  | inr other ↦ (Header number, (refl, other, none))
]

-- ---- all lines

abbrev HeaderOr : Draft → List Row → Type 0
HeaderOr h rows = ((e : Draft) × (body : List Row) × EndsHeader h rows e body) ⊎ ((f : GridFault) × FailsHeader h rows f)

blank_or : (ws : List (List ℕ)) → (ws ≡ []) ⊎ ¬ (ws ≡ [])
blank_or [] = inl refl
blank_or (w ∷ ws) = inr (λ e. cc)

after_blank : (h : Draft) (row : Row) (rows : List Row) → IsBlankLine row.text → HeaderOr h rows → HeaderOr h (row ∷ rows)
after_blank h row rows blank (inl ends) = inl (ends.0, ends.1, inl (blank, ends.2))
after_blank h row rows blank (inr fails) = inr (fails.0, inl (blank, fails.1))

after_header : (h next : Draft) (row : Row) (rows : List Row) → IsHeaderLine row.text → AddsWords h (words row.text) next → HeaderOr next rows → HeaderOr h (row ∷ rows)
after_header h next row rows is adds (inl ends) = inl (ends.0, ends.1, inr (inl (is, (next, adds, ends.2))))
after_header h next row rows is adds (inr fails) = inr (fails.0, inr (inl (is, (next, adds, fails.1))))

at_fault : (h : Draft) (row : Row) (rows : List Row) → IsHeaderLine row.text → ((e : Draft) → ¬ (AddsWords h (words row.text) e)) → HeaderOr h (row ∷ rows)
at_fault h row rows is none = let fault = line_fault h row.number (words row.text) none in inr (fault.0, inr (inr (is, fault.1)))

at_cells : (h : Draft) (row : Row) (rows : List Row) → ¬ (IsBlankLine row.text) → ¬ (IsHeaderLine row.text) → HeaderOr h (row ∷ rows)
at_cells h row rows filled other = inl (h, row ∷ rows, inr (inr (filled, other, refl, refl)))

-- a header ends, or a line of it has a fault
pub header_or : (h : Draft) (rows : List Row) → HeaderOr h rows
header_or h [] = inl (h, [], (refl, refl))
header_or h (row ∷ rows) = elim (blank_or (words row.text)) as (λ _. HeaderOr h (row ∷ rows)) [
  | inl blank ↦ after_blank h row rows blank (header_or h rows)
  | inr filled ↦ by_cases_of (is_ascii_alphabetic (slice_index (word (words row.text) 0) 0)) _
      (λ is. elim (adds_or h (words row.text)) as (λ _. HeaderOr h (row ∷ rows)) [
        | inl adds ↦ after_header h adds.0 row rows is adds.1 (header_or adds.0 rows)
        | inr none ↦ at_fault h row rows is none
      ])
      (λ other. at_cells h row rows filled (λ is. false_true (sym other ∙ is)))
]

-- ---- the end

abbrev EndOr : Draft → ℕ → Type 0
EndOr h number = ((w : Whole) × SaysWhole h w × (w.columns * w.rows ≤ CELLS)) ⊎ ((f : GridFault) × IsEndFault h number f)

has_no_lack : (h : Draft) (columns rows : ℕ) (left low size : List ℕ) → h.columns ≡ Some columns → h.rows ≡ Some rows → h.left ≡ Some left → h.low ≡ Some low → h.size ≡ Some size → ¬ (LacksWord h)
has_no_lack h columns rows left low size a b c d e lacks = elim lacks as (λ _. ⊥) [
  | inl n ↦ old_new h.columns columns a n
  | inr (inl n) ↦ old_new h.rows rows b n
  | inr (inr (inl n)) ↦ old_new h.left left c n
  | inr (inr (inr (inl n))) ↦ old_new h.low low d n
  | inr (inr (inr (inr n))) ↦ old_new h.size size e n
]

whole_end : (h : Draft) (number columns rows : ℕ) (left low size : List ℕ) → h.columns ≡ Some columns → h.rows ≡ Some rows → h.left ≡ Some left → h.low ≡ Some low → h.size ≡ Some size → EndOr h number
whole_end h number columns rows left low size a b c d e =
    by_cases_of (nat_le (columns * rows) CELLS) _
    (λ few. inl (
      record { columns = columns; rows = rows; nodata = unwrap_or h.nodata (neg_ℤ (pos 9999)); frame = Scaled size size left low },
      record { left = left; low = low; size = size; columns_are = a; rows_are = b; nodata_is = refl; left_is = c; low_is = d; size_is = e; frame_is = refl },
      grind (arith, nat_tests),
    ))
    (λ many. inr (Limit Cells, (refl, has_no_lack h columns rows left low size a b c d e, record { columns = columns; rows = rows; columns_are = a; rows_are = b; many = grind (arith, nat_tests) })))

lacks_end : (h : Draft) (number : ℕ) → LacksWord h → EndOr h number
lacks_end h number lacks = inr (Header number, (refl, lacks))

-- what a header says is whole, or its end has a fault
pub end_or : (h : Draft) (number : ℕ) → EndOr h number
end_or h number = elim h.columns as (λ o. h.columns ≡ o → EndOr h number) [
  | None ↦ λ n. lacks_end h number (inl n)
  | Some columns ↦ λ a. elim h.rows as (λ o. h.rows ≡ o → EndOr h number) [
    | None ↦ λ n. lacks_end h number (inr (inl n))
    | Some rows ↦ λ b. elim h.left as (λ o. h.left ≡ o → EndOr h number) [
      | None ↦ λ n. lacks_end h number (inr (inr (inl n)))
      | Some left ↦ λ c. elim h.low as (λ o. h.low ≡ o → EndOr h number) [
        | None ↦ λ n. lacks_end h number (inr (inr (inr (inl n))))
        | Some low ↦ λ d. elim h.size as (λ o. h.size ≡ o → EndOr h number) [
          | None ↦ λ n. lacks_end h number (inr (inr (inr (inr n))))
          | Some size ↦ λ e. whole_end h number columns rows left low size a b c d e
        ] refl
      ] refl
    ] refl
  ] refl
] refl
