-- What a sum of rows is worth in numbers of 128 bits, and the first number that does not fit.
use Rattle.std.specs.Prelude.{ℕ, zero, suc, ◌^◌, Bool, true, false, List, [], ◌∷◌, length, ℤ, pos, negsuc, ◌+ℤ◌, ◌-ℤ◌, int_le, nat_lt, if◌then◌else◌, unwrap_or, Result, Ok, Err}
use Rattle.std.specs.Int.{int_min}
use Rattle.agg_model.specs.Problem.{Problem, areas}
use Rattle.row_laws.specs.Rows.{Place, Choice, Across, is_same_place}
use Rattle.row_laws.specs.Values.{RowSum, Allowed, moves, start_at, least_below, over}
use Rattle.row_laws.specs.declared.bound.Bound.{Bound}
use Rattle.row_laws.specs.declared.bound.Bound.TheVariants.{Least, Void}
use Rattle.row_laws.specs.declared.bound.Entry.{Entry}
use Rattle.row_laws.specs.declared.bound.Entry.TheVariants.{Choice as ChoiceEntry, Across as AcrossEntry, TotalArea, TotalLink}
use Rattle.row_laws.specs.declared.bound.Weak.{Weak}
use Rattle.row_laws.specs.declared.bound.Weak.TheVariants.{Wide, NotVoid}

-- the number fits in 128 bits
abbrev pub is_in_128 : ℤ → Bool
is_in_128 (pos n) = nat_lt n (2 ^ 127)
is_in_128 (negsuc n) = nat_lt n (2 ^ 127)

-- the numbers after one entry
abbrev pub lower : (Place → ℤ) → Place → ℤ → Place → ℤ
lower f place x at = (if is_same_place place at then f at -ℤ x else f at)

-- the numbers after the entries, or the place of the first that does not fit
unfoldable pub run : (Place → ℤ) → List (Place × ℤ) → Result (Place → ℤ) Place
run f [] = Ok f
run f (e ∷ es) = (if is_in_128 (f e.0 -ℤ e.1) then run (lower f e.0 e.1) es else Err e.0)

-- one more term, where the sum so far fits
abbrev pub add_term : Entry → ℤ → Result ℤ Entry → Result ℤ Entry
add_term name x (Ok t) = (if is_in_128 (t +ℤ x) then Ok (t +ℤ x) else Err name)
add_term name x (Err e) = Err e

-- the first n terms added to t, or the first sum that does not fit
abbrev pub add_up : (ℕ → Entry) → (ℕ → ℤ) → ℤ → ℕ → Result ℤ Entry
add_up name f t zero = Ok t
add_up name f t (suc n) = add_term (name n) (f n) (add_up name f t n)

abbrev pub entry_of : Place → Entry
entry_of (Choice v k) = ChoiceEntry v k
entry_of (Across l) = AcrossEntry l

abbrev pub area_term_at : Problem → Allowed → (Place → ℤ) → ℕ → ℤ
area_term_at p allowed f v = unwrap_or (least_below (allowed v) (λ k. f (Choice v k)) p.classes) (pos 0)

abbrev pub link_term_at : (Place → ℤ) → ℕ → ℤ
link_term_at f l = int_min (pos 0) (f (Across l))

-- the answer of a total: its first number that does not fit, or what it is worth over the denominator
abbrev pub finish : Bool → ℕ → Result ℤ Entry → Result Bound Weak
finish void q (Err e) = Err (Wide e)
finish true q (Ok t) = (if int_le (pos 1) t then Ok Void else Err (NotVoid t))
finish false q (Ok t) = Ok (Least (over t q))

abbrev pub with_links : (Place → ℤ) → ℕ → Result ℤ Entry → Result ℤ Entry
with_links f n (Err e) = Err e
with_links f n (Ok t) = add_up (λ l. TotalLink l) (link_term_at f) t n

abbrev pub answer_at : Problem → Allowed → RowSum → Result (Place → ℤ) Place → Result Bound Weak
answer_at p allowed s (Err place) = Err (Wide (entry_of place))
answer_at p allowed s (Ok f) =
    finish s.void s.denominator (with_links f (length p.links) (add_up (λ v. TotalArea v) (area_term_at p allowed f) (pos 0) (areas p)))

-- the value, or the first number that does not fit, or the total of void mode where it is below 1
unfoldable pub answer : Problem → Allowed → RowSum → Result Bound Weak
answer p allowed s = answer_at p allowed s (run (start_at p s) (moves p s.rows))
