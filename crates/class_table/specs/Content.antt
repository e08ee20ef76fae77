-- What lines of a class table have said.
use Rattle.std.specs.Prelude.{Bool, ℕ, ℤ, List, []}
use Rattle.std.specs.List.{list_any}
use Rattle.std.specs.Str.{bytes_eq}
use Rattle.class_table.specs.Table.{Table}
use Rattle.class_table.specs.declared.draft.Due.{Due}
use Rattle.class_table.specs.declared.draft.Due.TheVariants.{Head}

-- what the lines so far have said: which lines are due, how many rows there were, and what stands in the table
pub record Content : Type 0 where
  pub due : Due
  pub rows : ℕ
  pub wide : ℕ
  pub high : ℕ
  pub border : ℕ
  pub names : List (List ℕ)
  pub threshold : List ℤ
  pub distance : List ℕ

-- nothing is said: the version is due, and the factors are 1 and 1 where no line gives them
abbrev pub no_content : Content
no_content = record { due = Head; rows = 0; wide = 1; high = 1; border = 0; names = []; threshold = []; distance = [] }

-- the table of what was said
abbrev pub table_of : Content → Table
table_of d = record { wide = d.wide; high = d.high; border = d.border; names = d.names; threshold = d.threshold; distance = d.distance }

-- the name stands among these
abbrev pub is_among : List (List ℕ) → List ℕ → Bool
is_among names name = list_any (λ seen. bytes_eq seen name) names
