-- The texts of a map's frame are numbers of JSON, for all numbers of a value that a text spells are.
use Rattle.std.proofs.Common.{◌≡◌, ◌⊎◌, inl, inr, ℕ, Bool, true, false, List, [], ◌∷◌, Option, None, Some, cond, codes, sym, ap, subst}
use Rattle.std.specs.Option.{option_or}
use Rattle.std.specs.Str.{bytes_eq}
use Rattle.json_text.specs.Tree.{Json, Null, Truth, Number, Str, Array, Object, Items, no_items, item, Members, no_members, member, array, last_of, member_of}
use Rattle.json_text.specs.Numbers.{IsJsonNumber}
use Rattle.json_text.specs.Spelling.{SpellsBare, SpellsItems, SpellsMoreItems, SpellsMembers, SpellsMoreMembers, Spells}
use Rattle.plane_edge.specs.declared.frame.Frame.{Frame}
use Rattle.plane_edge.specs.declared.frame.Frame.TheVariants.{Plain, Scaled}
use Rattle.map_values.specs.Frames.{IsNumberFrame}
use Rattle.map_values.specs.Layers.{Layer}
use Rattle.grid_reader.proofs.FrameLemmas as grids
use Rattle.topo_reader.specs.Arcs.{SpellsFrame}
use Rattle.generalise_steps.specs.MapTexts.{SpellsMap, FrameLaw}
use Rattle.generalise_steps.specs.declared.map_format.Format.{Format}
use Rattle.generalise_steps.specs.declared.map_format.Format.TheVariants.{Grid, TopoJson, GeoJson}

-- each number of the value is a number of JSON
abbrev mutual
  AreNumbers : Json → Type 0
  AreNumbers Null = Unit {0}
  AreNumbers (Truth b) = Unit {0}
  AreNumbers (Number text) = IsJsonNumber text
  AreNumbers (Str text) = Unit {0}
  AreNumbers (Array items) = AreItemNumbers items
  AreNumbers (Object members) = AreMemberNumbers members

  AreItemNumbers : Items → Type 0
  AreItemNumbers no_items = Unit {0}
  AreItemNumbers (item tree more) = AreNumbers tree × AreItemNumbers more

  AreMemberNumbers : Members → Type 0
  AreMemberNumbers no_members = Unit {0}
  AreMemberNumbers (member name tree more) = AreNumbers tree × AreMemberNumbers more

-- ---- a text spells such a value

mutual
  bare_numbers : (tree : Json) (text : List ℕ) → SpellsBare tree text → AreNumbers tree
  bare_numbers Null text s = tt
  bare_numbers (Truth b) text s = tt
  bare_numbers (Number number) text s = s.1
  bare_numbers (Str bytes) text s = tt
  bare_numbers (Array items) text s = items_numbers items s.inner s.spelled
  bare_numbers (Object members) text s = members_numbers members s.inner s.spelled

  items_numbers : (items : Items) (text : List ℕ) → SpellsItems items text → AreItemNumbers items
  items_numbers no_items text s = tt
  items_numbers (item tree more) text s = (bare_numbers tree s.first.bare s.first.spelled, more_items_numbers more s.rest s.second)

  more_items_numbers : (items : Items) (text : List ℕ) → SpellsMoreItems items text → AreItemNumbers items
  more_items_numbers no_items text s = tt
  more_items_numbers (item tree more) text s =
      (bare_numbers tree s.spelled.first.bare s.spelled.first.spelled, more_items_numbers more s.spelled.rest s.spelled.second)

  members_numbers : (members : Members) (text : List ℕ) → SpellsMembers members text → AreMemberNumbers members
  members_numbers no_members text s = tt
  members_numbers (member name tree more) text s =
      (bare_numbers tree s.second.first.bare s.second.first.spelled, more_members_numbers more s.second.rest s.second.second)

  more_members_numbers : (members : Members) (text : List ℕ) → SpellsMoreMembers members text → AreMemberNumbers members
  more_members_numbers no_members text s = tt
  more_members_numbers (member name tree more) text s =
      (bare_numbers tree s.spelled.second.first.bare s.spelled.second.first.spelled, more_members_numbers more s.spelled.second.rest s.spelled.second.second)

text_numbers : (bytes : List ℕ) (tree : Json) → Spells bytes tree → AreNumbers tree
text_numbers bytes tree s = bare_numbers tree s.spelled.bare s.spelled.spelled

-- ---- members

either_of : (later first : Option Json) (tree : Json) → option_or later first ≡ Some tree → (later ≡ Some tree) ⊎ (first ≡ Some tree)
either_of None first tree e = inr e
either_of (Some x) first tree e = inl e

same_some : (here tree : Json) → Some here ≡ Some tree → here ≡ tree
same_some here tree e = (cc)

none_some : (here tree : Json) → None ≡ Some tree → here ≡ tree
none_some here tree e = (cc)

no_member : (tree : Json) → None ≡ Some tree → AreNumbers tree
no_member tree e = (cc)

chosen : (b : Bool) (here tree : Json) → cond b (Some here) None ≡ Some tree → here ≡ tree
chosen true here tree e = same_some here tree e
chosen false here tree e = none_some here tree e

last_numbers : (members : Members) (name : List ℕ) (tree : Json) → AreMemberNumbers members → last_of members name ≡ Some tree → AreNumbers tree
last_numbers no_members name tree are e = no_member tree e
last_numbers (member other here more) name tree are e =
    elim (either_of (last_of more name) (cond (bytes_eq other name) (Some here) None) tree e) [
      | inl later ↦ last_numbers more name tree are.1 later
      | inr first ↦ subst (λ x. AreNumbers x) (chosen (bytes_eq other name) here tree first) are.0
    ]

member_numbers : (value : Json) (name : List ℕ) (tree : Json) → AreNumbers value → member_of value name ≡ Some tree → AreNumbers tree
member_numbers Null name tree are e = no_member tree e
member_numbers (Truth b) name tree are e = no_member tree e
member_numbers (Number text) name tree are e = no_member tree e
member_numbers (Str text) name tree are e = no_member tree e
member_numbers (Array items) name tree are e = no_member tree e
member_numbers (Object members) name tree are e = last_numbers members name tree are e

-- ---- frames

frame_numbers : (tree : Json) (frame : Frame) → AreNumbers tree → SpellsFrame tree frame → IsNumberFrame frame
frame_numbers tree Plain are s = tt
frame_numbers tree (Scaled sx sy tx ty) are s =
    let inside = member_numbers tree (codes "transform") s.0 are s.1 in
    let scale = member_numbers s.0 (codes "scale") (array (Number sx ∷ Number sy ∷ [])) inside s.2.scale in
    let translate = member_numbers s.0 (codes "translate") (array (Number tx ∷ Number ty ∷ [])) inside s.2.translate in
    (scale.0, scale.1.0, translate.0, translate.1.0)

pub frame_law : FrameLaw
frame_law Grid bytes l h = grids.frame_law bytes l.areas l.frame h.spelled
frame_law (TopoJson pick) bytes l h = frame_numbers h.tree l.frame (text_numbers bytes h.tree h.text.spelled) h.spelled.frame_is
frame_law (GeoJson class) bytes l h = subst (λ x. IsNumberFrame x) (sym h.spelled.frame_is) (tt)
