-- The working formula with packed words: which polynomial the arrays hold, and what holds of them. The words are read as the table t has them.
-- Place s, a number below 560, has the coefficient c[s], the size l[s] of its word, and the six blocks of w from 6 × s on.
-- The first n entries of o are the places of the terms, the greatest word first; the other entries are the free places.
use Rattle.std.specs.Prelude.{◌≡◌, List, ℕ, ◌*◌, ◌≤◌, ◌<◌, length, get_or, take, drop}
use Rattle.words.specs.Word.{Word}
use Rattle.algebra.specs.Poly.{Term, Poly}
use Rattle.algebra.specs.Written.{Written}
use Rattle.working.specs.Working.{terms, Arranged}
use Rattle.table.specs.Table.{field_in, order_in}
use Rattle.table.specs.Words.{word_of, Held}

-- The six blocks at place s, the word in them, and the term.
abbrev pub blocks_at : List ℕ → ℕ → List ℕ
blocks_at w s = take 6 (drop (s * 6) w)

abbrev pub word_at : List ℕ → List ℕ → List ℕ → ℕ → Word
word_at t l w s = word_of t (get_or l s 0) (blocks_at w s)

abbrev pub placed : List ℕ → List ℕ → List ℕ → List ℕ → ℕ → Term
placed t c l w s = record { coef = get_or c s 0; word = word_at t l w s }

-- Term i: that at the place which entry i of o names.
abbrev pub term_at : List ℕ → List ℕ → List ℕ → List ℕ → List ℕ → ℕ → Term
term_at t c l w o i = placed t c l w (get_or o i 0)

-- The polynomial of the first n terms.
abbrev pub formula : List ℕ → List ℕ → List ℕ → List ℕ → List ℕ → ℕ → Poly
formula t c l w o n = terms (term_at t c l w o) 0 n

-- The arrays have 560 places.
pub record Room (c l w o : List ℕ) : Type 0 where
  pub coefs : length c ≡ 560
  pub sizes : length l ≡ 560
  pub blocks : length w ≡ 3360
  pub places : length o ≡ 560

-- The arrays hold n terms: o names each place once, and the blocks at the place of a term hold a word of the size there.
pub record Holds (t c l w o : List ℕ) (n : ℕ) : Type 0 where
  pub count : n ≤ 560
  pub room : Room c l w o
  pub arranged : Arranged o
  pub held : (i : ℕ) → i < n → Held t (get_or l (get_or o i 0) 0) (blocks_at w (get_or o i 0))

-- The arrays hold a polynomial in written form: the words fall, and the coefficients are elements other than 0.
pub record Working (t c l w o : List ℕ) (n : ℕ) : Type 0 where
  pub holds : Holds t c l w o n
  pub written : Written (field_in t) (order_in t) (formula t c l w o n)
