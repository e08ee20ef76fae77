-- What calls answer, beside what a text says.
use Rattle.std.specs.Prelude.{◌≡◌, Result, Ok, Err}
use Rattle.class_table.specs.Content.{Content}
use Rattle.class_table.specs.declared.draft.Draft.{Draft}
use Rattle.class_table.specs.declared.fault.TableFault.{TableFault}
use Rattle.class_table.specs.declared.fault.TableFault.TheVariants.{Line, RepeatedClass, Limit, Memory}

-- the fault is the one that was read, unless memory ran out
abbrev pub Fails : {Y : Type 0} → TableFault → Result Y TableFault → Type 0
Fails Memory read = Unit {0}
Fails (Line number why) read = read ≡ Err (Line number why)
Fails (RepeatedClass line) read = read ≡ Err (RepeatedClass line)
Fails (Limit line) read = read ≡ Err (Limit line)

-- what was answered is what was read, unless memory ran out
abbrev pub Gives : {X Y : Type 0} → (X → Y) → Result X TableFault → Result Y TableFault → Type 0
Gives view (Ok x) read = read ≡ Ok (view x)
Gives view (Err fault) read = Fails fault read

-- what a draft holds
abbrev pub content_of : Draft → Content
content_of draft = record {
  due = draft.due;
  rows = draft.rows;
  wide = draft.wide;
  high = draft.high;
  border = draft.border;
  names = draft.names.items;
  threshold = draft.thresholds.items;
  distance = draft.distances.items;
}
