-- Letters of a word as one number.
use Rattle.std.specs.Prelude.{ℕ, ◌+◌, ◌*◌, get_or}
use Rattle.words.specs.Word.{Word}

-- Eight letters from place i on, the first as the highest byte.
abbrev pub block_at : Word → ℕ → ℕ
block_at u i =
    get_or u i 0 * 72057594037927936
    + get_or u (i + 1) 0 * 281474976710656
    + get_or u (i + 2) 0 * 1099511627776
    + get_or u (i + 3) 0 * 4294967296
    + get_or u (i + 4) 0 * 16777216
    + get_or u (i + 5) 0 * 65536
    + get_or u (i + 6) 0 * 256
    + get_or u (i + 7) 0
