-- The names of classes.
use Rattle.std.specs.Prelude.{◌≤◌, ◌&&◌, nat_le, ℕ, Bool, List, length, All}
use Rattle.std.specs.List.{list_all}
use Rattle.std.specs.Str.{IsUtf8, is_utf8}

-- 1 to 100 bytes of UTF-8 without bytes below 32
pub record IsName (name : List ℕ) : Type 0 where
  pub some : 1 ≤ length name
  pub few : length name ≤ 100
  pub printed : All (λ byte. 32 ≤ byte) name
  pub utf8 : IsUtf8 name

-- whether it is that
unfoldable pub is_name : List ℕ → Bool
is_name name = ((nat_le 1 (length name) && nat_le (length name) 100) && list_all (λ byte. nat_le 32 byte) name) && is_utf8 name
