-- What follows from an answer that may be none, or out of memory.
use Rattle.std.proofs.Common.{Result, Ok, Err}
use Rattle.std.specs.Prelude.{Option, None, Some, IfOk, IfSome, IfNone}

pub some_follows : {X E : Type 0} (r : Result (Option X) E) (P Q : X → Type 0) → ((x : X) → P x → Q x) → IfOk r (λ o. IfSome o P) → IfOk r (λ o. IfSome o Q)
some_follows (Ok None) P Q follows is = is
some_follows (Ok (Some x)) P Q follows is = follows x is
some_follows (Err e) P Q follows is = is

pub none_follows : {X E : Type 0} (r : Result (Option X) E) (P Q : Type 0) → (P → Q) → IfOk r (λ o. IfNone o P) → IfOk r (λ o. IfNone o Q)
none_follows (Ok None) P Q follows is = follows is
none_follows (Ok (Some x)) P Q follows is = is
none_follows (Err e) P Q follows is = is
