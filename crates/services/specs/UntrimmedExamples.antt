-- Rows of bases that are not trimmed (document 02, P2). That every row holds is proved in proofs/Examples.antt: `untrimmed_rows_hold`.
use Rattle.std.specs.Prelude.{List, [], ◌∷◌, ℕ}
use Rattle.text.specs.Ascii.{ascii}
use Rattle.package.specs.Examples.{text}
use Rattle.services.specs.Examples.{Row, short_row, list_row, accepted_row, member_row}

-- E with two polynomials more: one whose leading word holds those of the others, and one that is there twice.
unfoldable pub package_untrimmed : List ℕ
unfolding text
package_untrimmed = text (
    ascii "p letters gens basis"
    ∷ ascii "7 2 1 4"
    ∷ ascii "kind item coef word"
    ∷ ascii "G 1 1 aa"
    ∷ ascii "G 1 6 b"
    ∷ ascii "B 1 1 aa"
    ∷ ascii "B 1 6 b"
    ∷ ascii "B 2 1 ab"
    ∷ ascii "B 2 6 ba"
    ∷ ascii "B 3 1 aab"
    ∷ ascii "B 3 6 bb"
    ∷ ascii "B 4 1 ab"
    ∷ ascii "B 4 6 ba"
    ∷ ascii "kind item coef left of right"
    ∷ ascii "B 1 1 - 1 -"
    ∷ ascii "B 2 1 - 1 a"
    ∷ ascii "B 2 6 a 1 -"
    ∷ ascii "B 3 1 - 1 b"
    ∷ ascii "B 4 1 - 1 a"
    ∷ ascii "B 4 6 a 1 -"
    ∷ ascii "G 1 1 - 1 -"
    ∷ ascii "O 1 1 - 2 -"
    ∷ ascii "O 2 1 - 2 a"
    ∷ ascii "O 2 1 b 1 -"
    ∷ ascii "O 3 1 - 2 b"
    ∷ ascii "O 4 1 - 2 a"
    ∷ ascii "O 4 1 b 1 -"
    ∷ ascii "O 7 1 - 2 a"
    ∷ ascii "O 7 1 b 1 -"
    ∷ ascii "O 8 1 - 2 a"
    ∷ ascii "O 8 1 b 1 -"
    ∷ []
    )

-- Two constants and a word between them, without sums: listing judges none.
unfoldable pub package_constants : List ℕ
unfolding text
package_constants = text (
    ascii "p letters gens basis"
    ∷ ascii "7 2 0 3"
    ∷ ascii "kind item coef word"
    ∷ ascii "B 1 1 -"
    ∷ ascii "B 2 1 ab"
    ∷ ascii "B 3 1 -"
    ∷ ascii "kind item coef left of right"
    ∷ []
    )

-- A word twice, without sums.
unfoldable pub package_twice : List ℕ
unfolding text
package_twice = text (
    ascii "p letters gens basis"
    ∷ ascii "7 2 0 2"
    ∷ ascii "kind item coef word"
    ∷ ascii "B 1 1 aa"
    ∷ ascii "B 2 1 aa"
    ∷ ascii "kind item coef left of right"
    ∷ []
    )

-- Rows of bases that are not trimmed: inclusions are listed behind the overlaps and certified with them, and short forms are those under E. At one place
-- a step takes the lowest number, and another place further left goes before.
unfoldable pub untrimmed_rows : List Row
untrimmed_rows =
    accepted_row package_untrimmed 8
    ∷ list_row package_untrimmed 8
    "item first second shared at word\n1 1 1 1 1 aaa\n2 1 2 1 1 aab\n3 1 3 1 1 aaab\n4 1 4 1 1 aab\n5 2 4 2 0 ab\n6 3 1 2 0 aab\n7 3 2 2 1 aab\n8 3 4 2 1 aab\n"
    ∷ short_row package_untrimmed "coef word\n1 baab\n" "coef word\n1 bbb\n" 1
    ∷ short_row package_untrimmed "coef word\n1 aba\n" "coef word\n1 bb\n" 2
    ∷ member_row package_untrimmed "coef word\n1 aba\n6 bb\n" 2
    ∷ list_row package_constants 7
    "item first second shared at word\n1 1 3 0 0 -\n2 2 1 0 0 ab\n3 2 1 0 1 ab\n4 2 1 0 2 ab\n5 2 3 0 0 ab\n6 2 3 0 1 ab\n7 2 3 0 2 ab\n"
    ∷ list_row package_twice 5 "item first second shared at word\n1 1 1 1 1 aaa\n2 1 2 1 1 aaa\n3 2 1 1 1 aaa\n4 2 2 1 1 aaa\n5 1 2 2 0 aa\n"
    ∷ []
