-- The lines of a text.
use Rattle.std.specs.Prelude.{◌≡◌, ◌≤◌, ◌+◌, ◌==◌, ℕ, List, ⊤, count_by}
use Rattle.run_text.specs.declared.fault.Unread.{Unread}
use Rattle.run_text.specs.declared.fault.Unread.TheVariants.{NoMemory, Line}

-- how many lines of a text end
abbrev pub line_feeds : List ℕ → ℕ
line_feeds text = count_by (λ b. b == 10) text

-- a fault is at this line
abbrev pub IsAtLine : ℕ → Unread → Type 0
IsAtLine line NoMemory = ⊤
IsAtLine line (Line fault) = fault.line ≡ line

-- a fault is in one of so many lines, counted from 1, or in what follows the last
abbrev pub IsInLines : ℕ → Unread → Type 0
IsInLines lines NoMemory = ⊤
IsInLines lines (Line fault) = (1 ≤ fault.line) × (fault.line ≤ lines + 1)
