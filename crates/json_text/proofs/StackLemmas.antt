-- The innermost of the lists and members that are open.
use Rattle.std.proofs.Common.{◌≡◌, ℕ, zero, suc, Some, ◌+◌, List, [], ◌∷◌, ◌++◌, length, refl, arith}
use Rattle.std.specs.Prelude.{slice_get}
use Rattle.json_text.specs.Stacks.{Opened, opened_of, frames_before}
use Rattle.json_text.specs.declared.stack.Frame.{Frame}

pub frames_push : (inner : List Opened) (frames : List Frame) (frame : Frame) → frames_before inner (frames ++ frame ∷ []) ≡ opened_of frame ∷ frames_before inner frames
frames_push inner [] frame = refl
frames_push inner (f ∷ frames) frame = frames_push (opened_of f ∷ inner) frames frame

pub frames_length : (inner : List Opened) (frames : List Frame) → length (frames_before inner frames) ≡ length inner + length frames
frames_length inner [] = omega arith
frames_length inner (f ∷ frames) = let more = frames_length (opened_of f ∷ inner) frames in omega arith

-- the last frame is the innermost
pub frames_last : (inner : List Opened) (frames : List Frame) (n : ℕ) (frame : Frame) → length frames ≡ suc n → slice_get frames n ≡ Some frame →
    (outer : List Opened) × (frames_before inner frames ≡ opened_of frame ∷ outer)
frames_last inner [] n frame long is = absurd (omega arith)
frames_last inner (f ∷ []) zero frame long is = (inner, cc)
frames_last inner (f ∷ []) (suc n) frame long is = absurd (omega arith)
frames_last inner (f ∷ g ∷ frames) zero frame long is = absurd (omega arith)
frames_last inner (f ∷ g ∷ frames) (suc n) frame long is = frames_last (opened_of f ∷ inner) (g ∷ frames) n frame (omega arith) is
