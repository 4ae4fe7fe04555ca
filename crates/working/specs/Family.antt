-- Polynomials that lie in a package one after the other: polynomial g's terms are those from firsts[base + g] on, up to firsts[base + g + 1].
use Rattle.std.specs.Prelude.{List, [], ◌∷◌, ℕ, zero, suc, ◌+◌, ◌-◌, ◌≤◌, ◌<◌, length, get_or, take, drop}
use Rattle.algebra.specs.Poly.{Poly}
use Rattle.working.specs.Polynomial.{poly_at}

-- The entries from place a on, before place b.
abbrev pub between : List ℕ → ℕ → ℕ → List ℕ
between xs a b = take (b - a) (drop a xs)

-- The polynomial of the terms from a on, before b.
abbrev pub poly_between : List ℕ → List ℕ → List ℕ → List ℕ → ℕ → ℕ → Poly
poly_between coefs starts lens bytes a b = poly_at (between coefs a b) (between starts a b) (between lens a b) bytes

-- n polynomials, the first of which starts where entry j of firsts says.
unfoldable pub family_at : List ℕ → List ℕ → List ℕ → List ℕ → List ℕ → ℕ → ℕ → List Poly
family_at coefs starts lens bytes firsts j zero = []
family_at coefs starts lens bytes firsts j (suc n) =
    poly_between coefs starts lens bytes (get_or firsts j 0) (get_or firsts (suc j) 0) ∷ family_at coefs starts lens bytes firsts (suc j) n

-- The terms up to m are well formed: the slices hold them, coefficients are elements, and words lie within the bytes and have at most 24 letters.
pub record Terms (p : ℕ) (coefs starts lens bytes : List ℕ) (m : ℕ) : Type 0 where
  pub coefs_hold : m ≤ length coefs
  pub starts_hold : m ≤ length starts
  pub lens_hold : m ≤ length lens
  pub small : (i : ℕ) → i < m → get_or coefs i 0 < p
  pub inside : (i : ℕ) → i < m → get_or starts i 0 + get_or lens i 0 ≤ length bytes
  pub short : (i : ℕ) → i < m → get_or lens i 0 ≤ 24

-- The n polynomials from entry base on are parts of the first m terms, in order, of at most 48 terms each.
pub record Runs (firsts : List ℕ) (base n m : ℕ) : Type 0 where
  pub marks : base + n < length firsts
  pub rising : (g : ℕ) → g < n → get_or firsts (base + g) 0 ≤ get_or firsts (base + g + 1) 0
  pub most : (g : ℕ) → g < n → get_or firsts (base + g + 1) 0 ≤ m
  pub few : (g : ℕ) → g < n → get_or firsts (base + g + 1) 0 ≤ get_or firsts (base + g) 0 + 48
