-- Looking up and replacing a file in a list.
use Rattle.std.proofs.Common.{◌≡◌, ℕ, ◌+◌, ◌<◌, ◌≤◌, zero, suc, not, Bool, true, false, cond, nat_lt, List, [], ◌∷◌, ◌++◌, map, length, get_or, Vec, Option, None, Some, arith, refl, ap, sym, ◌∙◌, subst}
use Rattle.std.proofs.Math.ListN.{set}
use Rattle.std.specs.declared.alloc.Global.{Global}
use Rattle.std.specs.Ordering.{nat_cmp, eq_by_cmp}
use Rattle.std.proofs.lemmas.Cmp.{nat_list_cmp_total}
use Rattle.std.specs.Cmp.Lexicographic.{slice_cmp}
use Rattle.std.specs.Str.{bytes_eq}
use Rattle.std.specs.List.{position, position_or_len}
use Rattle.std.specs.FinMap.{get, insert, find, from_entries, get-from_entries, get-insert, same_map, from_entries_push, slice_cmp-IsAntisymmetric, nat_cmp-IsAntisymmetric}
use Rattle.std.proofs.lemmas.Map.Text.{is_eq-slice_cmp}
use Rattle.std.proofs.lemmas.Slice.Eq.{bytes_eq-Decides}
use Rattle.std.proofs.lemmas.Bool.{ltb-false}
use Rattle.std.proofs.lemmas.List.{map-append}
use Rattle.std.proofs.lemmas.List.Quantifiers.{position-Some}
use Rattle.shelf_io.specs.Held.{entry, files_of}

abbrev pub Held : Type 0
Held = List (List ℕ × Vec ℕ Global)

abbrev pub lookup : List ℕ → Held → Option (List ℕ)
lookup name held = find (slice_cmp nat_cmp) name (map entry held)

pub get_is_lookup : (held : Held) (name : List ℕ) → get (files_of held) name ≡ lookup name held
get_is_lookup held name = get-from_entries nat_list_cmp_total _ _

named : (q name : List ℕ) → q ≡ name → eq_by_cmp (slice_cmp nat_cmp) q name ≡ true
named q name e = is_eq-slice_cmp q name ∙ (bytes_eq-Decides q name).1 e

same_name : (q name : List ℕ) → eq_by_cmp (slice_cmp nat_cmp) q name ≡ true → q ≡ name
same_name q name e = (bytes_eq-Decides q name).0 (sym (is_eq-slice_cmp q name) ∙ e)

-- the first entry that is found
pub lookup_here : (name : List ℕ) (file : List ℕ × Vec ℕ Global) (held : Held) → bytes_eq file.0 name ≡ true → lookup name (file ∷ held) ≡ Some file.1.items
lookup_here name file held e = ap (λ b. cond b (Some file.1.items) (lookup name held)) (named name file.0 (sym ((bytes_eq-Decides file.0 name).0 e)))

unlike : (b : Bool) → (b ≡ true → ⊥) → b ≡ false
unlike b never = elim b as (λ t. (t ≡ true → ⊥) → t ≡ false) [ true ↦ λ f. absurd (f refl) | false ↦ λ f. refl ] never

pub lookup_later : (name : List ℕ) (file : List ℕ × Vec ℕ Global) (held : Held) → bytes_eq file.0 name ≡ false → lookup name (file ∷ held) ≡ lookup name held
lookup_later name file held e =
    ap (λ b. cond b (Some file.1.items) (lookup name held))
    (unlike (eq_by_cmp (slice_cmp nat_cmp) name file.0) (λ t. let same : bytes_eq file.0 name ≡ true = (bytes_eq-Decides file.0 name).1 (sym (same_name _ _ t)) in (cc)))

shadowed : {X : Type 0} (b : Bool) (x y z : X) → cond b x z ≡ cond b x (cond b y z)
shadowed true x y z = refl
shadowed false x y z = refl

swapped : {X : Type 0} (a b : Bool) (x y z : X) → (a ≡ true → b ≡ true → ⊥) → cond a x (cond b y z) ≡ cond b y (cond a x z)
swapped a b x y z never =
    elim a as (λ s. (s ≡ true → b ≡ true → ⊥) → cond s x (cond b y z) ≡ cond b y (cond s x z)) [
      | true ↦ λ f. ap (λ t. cond t y x) (sym (unlike b (f refl)))
      | false ↦ λ f. refl
    ] never

lookup_replaced : (held : Held) (i : ℕ) (name q : List ℕ) (v : Vec ℕ Global) (d : List ℕ × Vec ℕ Global)
    → i < length held → bytes_eq (get_or held i d).0 name ≡ true → ((k : ℕ) → k < i → bytes_eq (get_or held k d).0 name ≡ false)
    → lookup q (set held i (name, v)) ≡ cond (eq_by_cmp (slice_cmp nat_cmp) q name) (Some v.items) (lookup q held)
lookup_replaced [] i name q v d less here before = absurd (omega arith)
lookup_replaced (file ∷ held) zero name q v d less here before =
    subst (λ n. cond (eq_by_cmp (slice_cmp nat_cmp) q name) (Some v.items) (lookup q held)
    ≡ cond (eq_by_cmp (slice_cmp nat_cmp) q name) (Some v.items) (cond (eq_by_cmp (slice_cmp nat_cmp) q n) (Some file.1.items) (lookup q held)))
    (sym ((bytes_eq-Decides file.0 name).0 here)) (shadowed (eq_by_cmp (slice_cmp nat_cmp) q name) (Some v.items) (Some file.1.items) (lookup q held))
lookup_replaced (file ∷ held) (suc i) name q v d less here before =
    let rest = lookup_replaced held i name q v d (omega arith) here (λ k l. before (suc k) (omega arith)) in
    ap (cond (eq_by_cmp (slice_cmp nat_cmp) q file.0) (Some file.1.items)) rest
    ∙ swapped (eq_by_cmp (slice_cmp nat_cmp) q file.0) (eq_by_cmp (slice_cmp nat_cmp) q name) (Some file.1.items) (Some v.items) (lookup q held) (λ a b. let same : file.0 ≡ name = sym (same_name q file.0 a) ∙ same_name q name b in
    let other : bytes_eq file.0 name ≡ false = before 0 (omega arith) in let alike : bytes_eq file.0 name ≡ true = (bytes_eq-Decides file.0 name).1 same in (cc))

files_replaced_same : (held : Held) (i : ℕ) (name : List ℕ) (v : Vec ℕ Global) → position (λ file. bytes_eq file.0 name) held ≡ Some i
    → files_of (set held i (name, v)) ≡ insert (files_of held) name v.items
files_replaced_same held i name v at =
    same_map nat_list_cmp_total (slice_cmp-IsAntisymmetric nat_cmp-IsAntisymmetric) _ _
    (λ q. let found = position-Some (λ file. bytes_eq file.0 name) held i (name, v) at in
    get_is_lookup _ q ∙ lookup_replaced held i name q v (name, v) found.0 found.1 found.2
    ∙ sym (get-insert nat_list_cmp_total (files_of held) name v.items q ∙ ap (cond (eq_by_cmp (slice_cmp nat_cmp) q name) (Some v.items)) (get_is_lookup held q)))

-- to replace the file at the place where the name stands first is to insert it
pub files_replaced : (held : Held) (i : ℕ) (key : List ℕ) (v : Vec ℕ Global) (name bytes : List ℕ) → key ≡ name → v.items ≡ bytes → position (λ file. bytes_eq file.0 name) held ≡ Some i
    → files_of (set held i (key, v)) ≡ insert (files_of held) name bytes
files_replaced held i key v name bytes k b at = ap (λ n. files_of (set held i (n, v))) k ∙ files_replaced_same held i name v at ∙ ap (insert (files_of held) name) b

lookup_at : (held : Held) (i : ℕ) (name : List ℕ) (d : List ℕ × Vec ℕ Global)
    → i < length held → bytes_eq (get_or held i d).0 name ≡ true → ((k : ℕ) → k < i → bytes_eq (get_or held k d).0 name ≡ false)
    → lookup name held ≡ Some (get_or held i d).1.items
lookup_at [] i name d less here before = absurd (omega arith)
lookup_at (file ∷ held) zero name d less here before = lookup_here name file held here
lookup_at (file ∷ held) (suc i) name d less here before =
    lookup_later name file held (before 0 (omega arith)) ∙ lookup_at held i name d (omega arith) here (λ k l. before (suc k) (omega arith))

-- the file at the place where the name stands first
pub get_placed : (held : Held) (i : ℕ) (name : List ℕ) (d : List ℕ × Vec ℕ Global) → position (λ file. bytes_eq file.0 name) held ≡ Some i
    → get (files_of held) name ≡ Some (get_or held i d).1.items
get_placed held i name d at =
    let found = position-Some (λ file. bytes_eq file.0 name) held i d at in
    get_is_lookup held name ∙ lookup_at held i name d found.0 found.1 found.2

lookup_missing : (held : Held) (name : List ℕ) → length held ≤ position_or_len (λ file. bytes_eq file.0 name) held → lookup name held ≡ None
lookup_missing [] name none = refl
lookup_missing (file ∷ held) name none =
    elim (bytes_eq file.0 name) as (λ b. bytes_eq file.0 name ≡ b → suc (length held) ≤ cond (not b) (1 + position_or_len (λ f. bytes_eq f.0 name) held) 0 → lookup name (file ∷ held) ≡ None) [
      | true ↦ λ e l. absurd (omega arith)
      | false ↦ λ e l. lookup_later name file held e ∙ lookup_missing held name (omega arith)
    ] refl none

pub no_place : (n len : ℕ) → cond (nat_lt n len) (Some n) None ≡ None → len ≤ n
no_place n len e =
    elim (nat_lt n len) as (λ b. nat_lt n len ≡ b → cond b (Some n) None ≡ None → len ≤ n) [
      | true ↦ λ t is. (cc)
      | false ↦ λ t is. ltb-false n len t
    ] refl e

pub get_missing : (held : Held) (name : List ℕ) → position (λ file. bytes_eq file.0 name) held ≡ None → get (files_of held) name ≡ None
get_missing held name none = get_is_lookup held name ∙ lookup_missing held name (no_place _ _ none)

-- to push a file whose name stands nowhere is to insert it
pub files_added : (held : Held) (key : List ℕ) (v : Vec ℕ Global) (name bytes : List ℕ) → key ≡ name → v.items ≡ bytes → position (λ file. bytes_eq file.0 name) held ≡ None
    → files_of (held ++ (key, v) ∷ []) ≡ insert (files_of held) name bytes
files_added held key v name bytes k b none =
    ap from_entries (map-append entry held ((key, v) ∷ []))
    ∙ ap (λ n. from_entries (map entry held ++ (n, v.items) ∷ [])) k
    ∙ from_entries_push nat_list_cmp_total (slice_cmp-IsAntisymmetric nat_cmp-IsAntisymmetric) (map entry held) name v.items (lookup_missing held name (no_place _ _ none))
    ∙ ap (insert (files_of held) name) b
