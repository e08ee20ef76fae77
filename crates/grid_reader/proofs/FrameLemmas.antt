-- The texts of a grid's frame are numbers of JSON.
use Rattle.std.proofs.Common.{◌≡◌, inl, inr, ℕ, List, [], ◌∷◌, Some, None, sym, ◌∙◌, subst}
use Rattle.agg_base.specs.Lines.{Row, rows_from}
use Rattle.text_words.specs.Words.{word, words}
use Rattle.grid_reader.specs.Header.{Draft, new_draft, Sets}
use Rattle.grid_reader.specs.Reading.{EndsHeader}
use Rattle.grid_reader.specs.declared.draft.Name.{Name}
use Rattle.grid_reader.specs.declared.draft.Name.TheVariants.{Columns, Rows, Left, Low, Size, Nodata, Centre}
use Rattle.json_text.specs.Numbers.{IsJsonNumber}
use Rattle.grid_reader.specs.Frames.{FrameLaw}
use Rattle.map_values.specs.Frames.{IsNumberFrame}

-- what a header says of the corner and the size is a number
record HasNumbers (h : Draft) : Type 0 where
  pub left : (text : List ℕ) → h.left ≡ Some text → IsJsonNumber text
  pub low : (text : List ℕ) → h.low ≡ Some text → IsJsonNumber text
  pub size : (text : List ℕ) → h.size ≡ Some text → IsJsonNumber text

same_text : (s t : List ℕ) → IsJsonNumber s → Some s ≡ Some t → IsJsonNumber t
same_text s t is e = let same : s ≡ t = cc in subst IsJsonNumber same is

sets_numbers : (name : Name) (h : Draft) (text : List ℕ) (e : Draft) → Sets name h text e → HasNumbers h → HasNumbers e
sets_numbers Columns h text e is has = subst (λ (x : Draft). HasNumbers x) (sym is.then_is) (record { left = has.left; low = has.low; size = has.size })
sets_numbers Rows h text e is has = subst (λ (x : Draft). HasNumbers x) (sym is.then_is) (record { left = has.left; low = has.low; size = has.size })
sets_numbers Left h text e is has = subst (λ (x : Draft). HasNumbers x) (sym is.then_is) (record { left = λ t s. same_text text t (is.text_is.number) s; low = has.low; size = has.size })
sets_numbers Low h text e is has = subst (λ (x : Draft). HasNumbers x) (sym is.then_is) (record { left = has.left; low = λ t s. same_text text t (is.text_is.number) s; size = has.size })
sets_numbers Size h text e is has = subst (λ (x : Draft). HasNumbers x) (sym is.then_is) (record { left = has.left; low = has.low; size = λ t s. same_text text t (is.text_is.number) s })
sets_numbers Nodata h text e is has = subst (λ (x : Draft). HasNumbers x) (sym is.then_is) (record { left = has.left; low = has.low; size = has.size })
sets_numbers Centre h text e is has = absurd is

ends_numbers : (h e : Draft) (rows body : List Row) → EndsHeader h rows e body → HasNumbers h → HasNumbers e
ends_numbers h e [] body is has = subst (λ (x : Draft). HasNumbers x) is.0 has
ends_numbers h e (line ∷ rows) body is has = elim is as (λ _. HasNumbers e) [
  | inl blank ↦ ends_numbers h e rows body blank.1 has
  | inr (inl adds) ↦ ends_numbers adds.1.0 e rows body adds.1.2 (sets_numbers adds.1.1.name h (word (words line.text) 1) adds.1.0 adds.1.1.sets has)
  | inr (inr ends) ↦ subst (λ (x : Draft). HasNumbers x) ends.2 has
]

none_said : (text : List ℕ) → None ≡ Some text → IsJsonNumber text
none_said text e = (cc)

-- the frame of a grid has the texts of its corner and its size
pub frame_law : FrameLaw
frame_law text areas frame spells =
    let g = spells.grid_text in
    let says = g.says in
    let has = ends_numbers new_draft g.head (rows_from 1 text) g.body g.header (record { left = none_said; low = none_said; size = none_said }) in
    subst IsNumberFrame (sym (g.frame_is ∙ says.frame_is)) (has.size says.size says.size_is, has.size says.size says.size_is, has.left says.left says.left_is, has.low says.low says.low_is)
