-- Eight bytes stored one after the other are a run of eight.
use mathlib.Core.Path.{◌≡◌, sym, ◌∙◌}
use mathlib.Core.List.{List}
use Prim.Native.Nat.{ℕ, suc, ◌+◌, ◌<◌}
use native.Mathlib.Numerals.{add-one}
use native.Mathlib.Omega.{arith}
use lib.ListN.{length, get_or, set, take, drop, length-drop, take-append-drop}
use lib.Seq.{drop-cons, drop-drop, length-take-le, sets}
use Rattle.lists.proofs.Stores.{sets_append}

-- one byte of a run, and the k behind it; p and q are the places behind the byte
stored-run : (b : List ℕ) (k : ℕ) (out : List ℕ) (o i p q : ℕ) → p ≡ o + 1 → q ≡ i + 1 → i < length b
    → sets (set out o (get_or b i 0)) p (take k (drop q b)) ≡ sets out o (take (suc k) (drop i b))
stored-run b k out o i p q e f h = rw (e, f, drop-cons b i 0, add-one i, add-one o)

module _ (out b : List ℕ) (o i : ℕ) where
  -- the slice with one byte stored, with two and so on
  abbrev one : List ℕ
  one = set out o (get_or b i 0)

  abbrev two : List ℕ
  two = set one (o + 1) (get_or b (i + 1) 0)

  abbrev three : List ℕ
  three = set two (o + 2) (get_or b (i + 2) 0)

  abbrev four : List ℕ
  four = set three (o + 3) (get_or b (i + 3) 0)

  abbrev five : List ℕ
  five = set four (o + 4) (get_or b (i + 4) 0)

  abbrev six : List ℕ
  six = set five (o + 5) (get_or b (i + 5) 0)

  abbrev seven : List ℕ
  seven = set six (o + 6) (get_or b (i + 6) 0)

  abbrev eight : List ℕ
  eight = set seven (o + 7) (get_or b (i + 7) 0)

  pub eight_stored : i + 7 < length b → eight ≡ sets out o (take 8 (drop i b))
  eight_stored h =
      stored-run b 0 seven (o + 7) (i + 7) (o + 8) (i + 8) (omega arith) (omega arith) (omega (arith, h))
      ∙ stored-run b 1 six (o + 6) (i + 6) (o + 7) (i + 7) (omega arith) (omega arith) (omega (arith, h))
      ∙ stored-run b 2 five (o + 5) (i + 5) (o + 6) (i + 6) (omega arith) (omega arith) (omega (arith, h))
      ∙ stored-run b 3 four (o + 4) (i + 4) (o + 5) (i + 5) (omega arith) (omega arith) (omega (arith, h))
      ∙ stored-run b 4 three (o + 3) (i + 3) (o + 4) (i + 4) (omega arith) (omega arith) (omega (arith, h))
      ∙ stored-run b 5 two (o + 2) (i + 2) (o + 3) (i + 3) (omega arith) (omega arith) (omega (arith, h))
      ∙ stored-run b 6 one (o + 1) (i + 1) (o + 2) (i + 2) (omega arith) (omega arith) (omega (arith, h))
      ∙ stored-run b 7 out o i (o + 1) (i + 1) (omega arith) (omega arith) (omega (arith, h))

-- eight bytes of what is left are stored: what is left then, stored behind them, gives the same
pub eight_less : (b out next : List ℕ) (at i : ℕ) → i + 7 < length b → next ≡ sets out (at + i) (take 8 (drop i b))
    → sets next (at + (i + 8)) (drop (i + 8) b) ≡ sets out (at + i) (drop i b)
eight_less b out next at i h e =
    let n : length (take 8 (drop i b)) ≡ 8 = length-take-le 8 (drop i b) (omega (arith, h, length-drop i b)) in
    let p : at + (i + 8) ≡ at + i + length (take 8 (drop i b)) = omega (arith, n) in
    let q : drop (i + 8) b ≡ drop 8 (drop i b) = sym (drop-drop 8 i b) in
    rw (e, p, q, sets_append out (at + i) (take 8 (drop i b)) (drop 8 (drop i b)), take-append-drop 8 (drop i b))
