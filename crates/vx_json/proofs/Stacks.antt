-- Stacks that grow and shrink at their end.
use Rattle.std.proofs.Common.{◌≡◌, ◌+◌, List, [], ◌∷◌, ◌++◌, length, refl, arith}
use Rattle.vx_json.specs.Machine as machine
use Rattle.vx_json.specs.ModeViews.{frame_view, stack_over, stack_view}
use Rattle.vx_json.specs.declared.frame.Frame.{Frame}

over-push : (xs : List Frame) (f : Frame) (st : List machine.Frame) → stack_over (xs ++ f ∷ []) st ≡ frame_view f ∷ stack_over xs st
over-push [] f st = refl
over-push (x ∷ xs) f st = over-push xs f (frame_view x ∷ st)

-- one frame more
pub stack_view-push : (xs : List Frame) (f : Frame) → stack_view (xs ++ f ∷ []) ≡ frame_view f ∷ stack_view xs
unfolding stack_view
stack_view-push xs f = over-push xs f []

-- no frame
pub stack_view-nil : stack_view [] ≡ []
unfolding stack_view
stack_view-nil = refl

over-length : (xs : List Frame) (st : List machine.Frame) → length (stack_over xs st) ≡ length xs + length st
over-length [] st = omega arith
over-length (x ∷ xs) st = let h = over-length xs (frame_view x ∷ st) in omega arith

pub length-stack_view : (xs : List Frame) → length (stack_view xs) ≡ length xs
unfolding stack_view
length-stack_view xs = let h = over-length xs [] in omega arith

-- an empty stack
pub stack_view-empty : (xs : List Frame) → length xs ≡ 0 → stack_view xs ≡ []
stack_view-empty [] h = stack_view-nil
stack_view-empty (x ∷ xs) h = absurd (omega arith)
