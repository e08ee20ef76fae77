-- A text that spells a grid is read, and one with a fault has that fault.
use Rattle.std.proofs.Common.{◌≡◌, ◌⊎◌, ℕ, inl, inr, refl, sym, ◌∙◌, subst, List, Result, Ok, Err, IfOk, IfErr, IsErrAnd}
use Rattle.plane_edge.specs.declared.coverage.Coverage.{Coverage}
use Rattle.plane_edge.specs.declared.frame.Frame.{Frame}
use Rattle.plane_edge.specs.Rings.{Area}
use Rattle.grid_reader.specs.GridTexts.{SpellsGrid, IsFirstFault, IsFaultOf}
use Rattle.grid_reader.specs.Outcomes.{Reads, FailsBy}
use Rattle.grid_reader.specs.declared.fault.GridFault.{GridFault}
use Rattle.grid_reader.specs.declared.fault.GridFault.TheVariants.{Header, Centred, Cell, Count, Limit, Memory}
use Rattle.grid_reader.proofs.LawLemmas.{one_grid_text, grid_no_fault, one_first_fault}

-- a text that spells a grid fails for want of memory alone
no_fault : (text : List ℕ) (areas : List Area) (frame : Frame) (f : GridFault) → IsFaultOf text f → SpellsGrid text areas frame → f ≡ Memory
no_fault text areas frame Memory fault spells = refl
no_fault text areas frame (Header line) fault spells = absurd (grid_no_fault text areas frame (Header line) spells fault)
no_fault text areas frame (Centred line) fault spells = absurd (grid_no_fault text areas frame (Centred line) spells fault)
no_fault text areas frame (Cell row column) fault spells = absurd (grid_no_fault text areas frame (Cell row column) spells fault)
no_fault text areas frame (Count found) fault spells = absurd (grid_no_fault text areas frame (Count found) spells fault)
no_fault text areas frame (Limit limit) fault spells = absurd (grid_no_fault text areas frame (Limit limit) spells fault)

-- a text with a fault fails by it, or for want of memory
that_fault : (text : List ℕ) (f g : GridFault) → IsFaultOf text g → IsFirstFault text f → (g ≡ f) ⊎ (g ≡ Memory)
that_fault text f Memory fault first = inr refl
that_fault text f (Header line) fault first = inl (one_first_fault text (Header line) f fault first)
that_fault text f (Centred line) fault first = inl (one_first_fault text (Centred line) f fault first)
that_fault text f (Cell row column) fault first = inl (one_first_fault text (Cell row column) f fault first)
that_fault text f (Count found) fault first = inl (one_first_fault text (Count found) f fault first)
that_fault text f (Limit limit) fault first = inl (one_first_fault text (Limit limit) f fault first)

pub spelled_read : (text : List ℕ) (r : Result Coverage GridFault) → IfOk r (λ c. SpellsGrid text c.areas.items c.frame) → IfErr r (λ f. IsFaultOf text f)
    → (areas : List Area) (frame : Frame) → SpellsGrid text areas frame → Reads areas frame r
spelled_read text (Ok c) found fault areas frame spells = one_grid_text text c.areas.items areas c.frame frame found spells
spelled_read text (Err g) found fault areas frame spells = no_fault text areas frame g fault spells

pub faulty_fails : (text : List ℕ) (r : Result Coverage GridFault) → IfOk r (λ c. SpellsGrid text c.areas.items c.frame) → IfErr r (λ f. IsFaultOf text f)
    → (f : GridFault) → IsFirstFault text f → FailsBy f r
faulty_fails text (Ok c) found fault f first = grid_no_fault text c.areas.items c.frame f found first
faulty_fails text (Err g) found fault f first = that_fault text f g fault first

-- a fault that is handed on
pub handed_reads : (text : List ℕ) (r : Result Coverage GridFault) (g : GridFault) → IsErrAnd r (λ f. f ≡ g) → IsFaultOf text g
    → (areas : List Area) (frame : Frame) → SpellsGrid text areas frame → Reads areas frame r
handed_reads text (Ok c) g is fault areas frame spells = absurd is
handed_reads text (Err f) g is fault areas frame spells = is ∙ no_fault text areas frame g fault spells

pub handed_fails : (text : List ℕ) (r : Result Coverage GridFault) (g : GridFault) → IsErrAnd r (λ f. f ≡ g) → IsFaultOf text g
    → (f : GridFault) → IsFirstFault text f → FailsBy f r
handed_fails text (Ok c) g is fault f first = absurd is
handed_fails text (Err e) g is fault f first = subst (λ (x : GridFault). (x ≡ f) ⊎ (x ≡ Memory)) (sym is) (that_fault text f g fault first)
