-- Arrays of passes. Definitions only.
use Rattle.std.specs.Prelude.{ℕ, ◌+◌}
use Rattle.listformat.specs.Format.{greatest_count}

-- one more than a list may have, so that a list that is too long fits too
abbrev pub array_length : ℕ
array_length = greatest_count + 1
