-- Digits of base sixteen.
use Rattle.std.specs.Prelude.{◌==◌, ◌&&◌, ◌||◌, ℕ, List, length, Bool, nat_le}
use Rattle.std.specs.List.{list_all}

-- 0-9 a-f
abbrev pub is_lower_digit : ℕ → Bool
is_lower_digit b = (nat_le 48 b && nat_le b 57) || (nat_le 97 b && nat_le b 102)

-- 64 digits 0-9 a-f
abbrev pub is_hex : List ℕ → Bool
is_hex text = length text == 64 && list_all is_lower_digit text
