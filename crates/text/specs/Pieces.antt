-- Lines and fields: what a text is cut into at a byte, and how it is put together again.
use Rattle.std.specs.Prelude.{◌≡◌, true, false, List, [], ◌∷◌, ◌++◌, ℕ, suc, eqb, take, drop}

-- What a text is cut into at each byte b: pieces that are ended by b, and what is left behind the last of them.
pub data Pieces : Type 0 where
  final : List ℕ → Pieces
  piece : List ℕ → Pieces → Pieces

-- The first piece with one byte more in front.
unfoldable pub onto : ℕ → Pieces → Pieces
onto x (final l) = final (x ∷ l)
onto x (piece l ps) = piece (x ∷ l) ps

unfoldable pub pieces : ℕ → List ℕ → Pieces
unfolding onto
pieces b [] = final []
pieces b (x ∷ xs) = elim (eqb x b) [ true ↦ piece [] (pieces b xs) | false ↦ onto x (pieces b xs) ]

-- Lines are ended by byte 10: each `piece` is a line, and `final` holds the bytes of an unfinished line, or none.
abbrev pub lines : List ℕ → Pieces
lines bytes = pieces 10 bytes

-- Fields are parted by one space: the last field is `final`.
abbrev pub fields : List ℕ → Pieces
fields line = pieces 32 line

-- The text of pieces that are ended by the byte b.
unfoldable pub joined : ℕ → Pieces → List ℕ
joined b (final l) = l
joined b (piece l ps) = l ++ (b ∷ joined b ps)

-- A line written from its fields, parted by one space; and a text written from its lines, each ended by byte 10.
abbrev pub write_fields : Pieces → List ℕ
write_fields fs = joined 32 fs

abbrev pub write_lines : Pieces → List ℕ
write_lines ls = joined 10 ls

-- The byte b is not in a list of bytes.
pub data Without (b : ℕ) : List ℕ → Type 0 where
  empty : Without b []
  apart : {x : ℕ} {xs : List ℕ} → (x ≡ b → ⊥) → Without b xs → Without b (x ∷ xs)

-- The byte b is in none of the pieces.
pub data Clear (b : ℕ) : Pieces → Type 0 where
  clear : {l : List ℕ} → Without b l → Clear b (final l)
  clears : {l : List ℕ} {ps : Pieces} → Without b l → Clear b ps → Clear b (piece l ps)

-- How many bytes stand before the first b: all, if there is none.
unfoldable pub stop : ℕ → List ℕ → ℕ
stop b [] = 0
stop b (x ∷ xs) = elim (eqb x b) [ true ↦ 0 | false ↦ suc (stop b xs) ]

-- The len bytes from a place on.
abbrev pub part : List ℕ → ℕ → ℕ → List ℕ
part s at len = take len (drop at s)
