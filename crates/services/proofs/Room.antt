-- What is written where there is room for it and where there is not: listing's answer, and the output slice of every service.
use mathlib.Core.Path.{◌≡◌}
use mathlib.Core.List.{List}
use Prim.Native.Nat.{ℕ, ◌≤◌, ◌<◌}
use lib.ListN.{length}
use lib.Seq.{sets}
use borrow.Author.Tests.{lt-ltb, le-ltb}
use Rattle.words.specs.Word.{Word}
use Rattle.algebra.specs.Poly.{Poly}
use Rattle.package.specs.Writing.{write_formula}
use Rattle.overlaps.specs.Overlaps.{overlaps}
use Rattle.overlaps.specs.Listing.{overlap_text}
use Rattle.acceptance.specs.Reduction.{short_form}
use Rattle.services.specs.declared.Listed.{Listed}
use Rattle.services.specs.Services.{words_listed, fitted, short_answer}

-- A refusal of listing, as an answer.
abbrev pub refused_list : ℕ → ℕ → Listed
refused_list n k = record { number = n; place = k; overlaps = 0; written = 0 }

-- Too little room: 19 with the bytes required, and the slice as it was.
pub no_room : (ws : List Word) (room : ℕ) → room < length (overlap_text ws) → words_listed room ws ≡ refused_list 19 (length (overlap_text ws))
unfolding words_listed
no_room ws room l = rw (words_listed, lt-ltb room (length (overlap_text ws)) l)

pub no_room-kept : (text out : List ℕ) → length out < length text → fitted text out ≡ out
unfolding fitted
no_room-kept text out l = rw (fitted, lt-ltb (length out) (length text) l)

-- Room: the count and the bytes, and the text in the slice.
pub room_listed : (ws : List Word) (room : ℕ) → length (overlap_text ws) ≤ room
    → words_listed room ws ≡ record { number = 0; place = 0; overlaps = length (overlaps ws); written = length (overlap_text ws) }
unfolding words_listed
room_listed ws room l = rw (words_listed, le-ltb room (length (overlap_text ws)) l)

pub room-written : (text out : List ℕ) → length text ≤ length out → fitted text out ≡ sets out 0 text
unfolding fitted
room-written text out l = rw (fitted, le-ltb (length out) (length text) l)

-- Short form: too little room, and room.
pub short_no_room : (N : Poly) (steps room : ℕ) → room < length (write_formula N)
    → short_answer room (short_form N steps) ≡ record { number = 19; place = length (write_formula N); steps = 0; written = 0 }
unfolding short_answer
short_no_room N steps room l = rw (short_answer, lt-ltb room (length (write_formula N)) l)

pub short-room : (N : Poly) (steps room : ℕ) → length (write_formula N) ≤ room
    → short_answer room (short_form N steps) ≡ record { number = 0; place = 0; steps = steps; written = length (write_formula N) }
unfolding short_answer
short-room N steps room l = rw (short_answer, le-ltb room (length (write_formula N)) l)
