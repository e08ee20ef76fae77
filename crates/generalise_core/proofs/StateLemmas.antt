-- States of a shelf from one call to the next.
use Rattle.std.proofs.Common.{◌≡◌, ℕ, List, Option, refl, sym, ap, subst}
use Rattle.shelf_io.specs.Files.{Files}
use Rattle.shelf_io.specs.State.{ShelfState}
use Rattle.generalise_core.specs.Puts.{Due, all_stored}
use Rattle.generalise_core.specs.States.{with_line, with_all, OnlySays, OnlyStores, OnlyPuts}

-- ---- what one call leaves

pub says_whole : (old new : ShelfState) (line : List ℕ) → new ≡ with_line old line → OnlySays old new
says_whole old new line is = subst (λ n. n ≡ record old { said = n.said; put_faults = n.put_faults }) (sym is) refl

pub says_part : (old new : ShelfState) (said : Option (List ℕ)) → new ≡ record old { said = said } → OnlySays old new
says_part old new said is = subst (λ n. n ≡ record old { said = n.said; put_faults = n.put_faults }) (sym is) refl

pub stores_whole : (old new : ShelfState) (files : Option Files) → new ≡ record old { files = files } → OnlyStores old new
stores_whole old new files is = subst (λ n. n ≡ record old { files = n.files; put_faults = n.put_faults }) (sym is) refl

-- ---- two calls, one after the other

pub stores_more : (old between new : ShelfState) → OnlyStores old between → OnlyStores between new → OnlyStores old new
stores_more old between new first second =
    subst (λ s. new ≡ record s { files = new.files; put_faults = new.put_faults }) first second

pub stores_then_says : (old between new : ShelfState) → OnlyStores old between → OnlySays between new → OnlyPuts old new
stores_then_says old between new first second =
    let files : new.files ≡ between.files = ap (λ s. s.files) second in
    subst (λ f. new ≡ record old { files = f; said = new.said; put_faults = new.put_faults }) (sym files)
    (subst (λ s. new ≡ record s { said = new.said; put_faults = new.put_faults }) first second)

pub only_stores_puts : (old new : ShelfState) → OnlyStores old new → OnlyPuts old new
only_stores_puts old new is =
    let said : new.said ≡ old.said = ap (λ s. s.said) is in
    subst (λ x. new ≡ record old { files = new.files; said = x; put_faults = new.put_faults }) (sym said) is

pub all_then_line : (old between new : ShelfState) (due : List Due) (line : List ℕ) → between ≡ record old { files = all_stored old.files due } → new ≡ with_line between line
    → new ≡ with_all old due line
all_then_line old between new due line first second = subst (λ s. new ≡ with_line s line) first second
