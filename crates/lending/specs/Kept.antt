-- The bytes of an output slice that were kept.
use Rattle.std.specs.Prelude.{List, ℕ, ◌==◌, count_by}

-- How many bytes are `~`, 126, with which an output slice is filled before the call.
abbrev pub count_kept_of : List ℕ → ℕ
count_kept_of bs = count_by (λ b. b == 126) bs
