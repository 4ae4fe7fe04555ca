-- Which numbers stand in place of p, and GF(256)'s coefficients: E with lines exchanged, by computation.
use Rattle.std.specs.Prelude.{◌≡◌, refl, true, List, [], ◌∷◌, set}
use Rattle.package.specs.Examples.{text, lines_e, put, Case, gives, all_answered}
use Rattle.text.specs.Ascii.{ascii}

-- p is 256, and no other higher power of a prime (P9.2); its coefficients are 1 to 255 (P9.1).
pub fields256 : List Case
unfolding put text lines_e
fields256 =
    gives (put 2 "256 2 1 2") 0 0
    ∷ gives (put 2 "128 2 1 2") 3 2
    ∷ gives (put 2 "512 2 1 2") 3 2
    ∷ gives (put 2 "4 2 1 2") 3 2
    ∷ gives (put 2 "65536 2 1 2") 3 2
    ∷ gives (text (set (set lines_e 1 (ascii "256 2 1 2")) 3 (ascii "G 1 255 aa"))) 0 0
    ∷ gives (text (set (set lines_e 1 (ascii "256 2 1 2")) 3 (ascii "G 1 256 aa"))) 5 4
    ∷ []

pub fields256_answered : all_answered fields256 ≡ true
unfolding all_answered fields256
fields256_answered = refl
