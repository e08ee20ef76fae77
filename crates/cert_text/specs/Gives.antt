-- What calls append.
use Rattle.std.specs.Prelude.{◌≡◌, ℕ, List, ◌++◌, map}
use Rattle.agg_base.specs.Texts.{text_of_lines}
use Rattle.cert_text.specs.Lines.{line_text}
use Rattle.cert_text.specs.declared.line.Line.{Line}

-- the text with these lines at its end
abbrev pub Appends : List ℕ → List Line → List ℕ → Type 0
Appends old lines new = new ≡ old ++ text_of_lines (map line_text lines)
