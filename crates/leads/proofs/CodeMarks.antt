-- Laws of the index in the making: what a mark more does to its rows, and what the marks of a pair do.
use mathlib.Core.Path.{◌≡◌, sym, ap, ◌∙◌}
use mathlib.Core.List.{List, []}
use Prim.Native.Nat.{ℕ, ◌+◌, ◌*◌, ◌≤◌, ◌<◌}
use native.Mathlib.Decide.{ℕ_discrete}
use native.Mathlib.Nat.{add-zero}
use native.Mathlib.Omega.{arith}
use lib.ListN.{length, get_or, length-set, get_or-eq_default}
use Rattle.words.specs.Word.{Word}
use Rattle.packedwords.specs.Packed.{letter_of, unpacked}
use Rattle.packedwords.proofs.Packing.{unpacked-length, unpacked_at}
use Rattle.leads.specs.Masks.{with_mark}
use Rattle.leads.specs.CodeIndex.{CodeMarked, HasCode, HasPair, Opens, CodeIndexable, CodeIndexed, CodeBlank, CodesHold, PairsDone}
use Rattle.leads.proofs.Bits.{bit-zero}
use Rattle.leads.proofs.OneMark.{mark-new, mark-kept, mark_elsewhere, mark_of_other}

-- masks without marks
pub codes_blank : {ls : List Word} {t : List ℕ} → CodeBlank t → CodesHold ls 0 0 t
codes_blank b = record {
  room = b.room;
  held = λ g k x h. absurd (omega arith);
  only = λ g k x p q m. absurd (bit-zero g (rw (b.zeros (k * 32 + x)) at m));
  opens = λ g c d h. absurd (omega arith);
}

module _ (ls : List Word) (p g k : ℕ) (t : List ℕ) (h : CodesHold ls p (g * 25 + k) t) where
  -- word g's mark in row k
  row_next : k < 25 → k ≤ length (get_or ls g []) → (x : ℕ) → x < 32 → get_or (get_or ls g []) k 0 ≡ x
      → CodesHold ls p (g * 25 + (k + 1)) (with_mark t (k * 32 + x) g)
  row_next few row x low at = record {
    room = rw length-set h.room;
    held = λ j q y l r s m. held j q y l r s m (ℕ_discrete (j * 25 + q) (g * 25 + k));
    only = λ j q y r s b. only j q y r s b (ℕ_discrete (q * 32 + y) (k * 32 + x)) (ℕ_discrete j g);
    opens = λ j c d l r s o. mark-kept t (k * 32 + x) g inside (800 + c) d (h.opens j c d l r s o);
  }
    where
      inside : k * 32 + x < length t
      inside = let r = h.room in omega arith

      held : (j q y : ℕ) → j * 25 + q < g * 25 + (k + 1) → q < 25 → y < 32 → CodeMarked (get_or ls j []) q y → Dec (j * 25 + q ≡ g * 25 + k)
          → HasCode (with_mark t (k * 32 + x) g) j q y
      held j q y l r s m (no d) = mark-kept t (k * 32 + x) g inside (q * 32 + y) j (h.held j q y (omega arith) r s m)
      held j q y l r s m (yes d) =
          let e : j ≡ g = omega arith in
          let f : q ≡ k = omega arith in
          let z : x ≡ y = sym at ∙ ap (λ (i : ℕ). get_or (get_or ls i []) k 0) (sym e) ∙ ap (λ (i : ℕ). get_or (get_or ls j []) i 0) (sym f) ∙ m.at in
          rw e (mark-new t (k * 32 + x) g inside (q * 32 + y) (omega arith))

      only : (j q y : ℕ) → q < 25 → y < 32 → HasCode (with_mark t (k * 32 + x) g) j q y → Dec (q * 32 + y ≡ k * 32 + x) → Dec (j ≡ g)
          → (j * 25 + q < g * 25 + (k + 1)) × CodeMarked (get_or ls j []) q y
      only j q y r s b (no e) d = let (l, m) = h.only j q y r s (mark_elsewhere t (k * 32 + x) g inside (q * 32 + y) j e b) in (omega arith, m)
      only j q y r s b (yes e) (no d) = let (l, m) = h.only j q y r s (mark_of_other t (k * 32 + x) g inside (q * 32 + y) j e d b) in (omega arith, m)
      only j q y r s b (yes e) (yes d) =
          let f : q ≡ k = omega arith in
          let z : y ≡ x = omega arith in
          (omega arith, rw (d, f, z) (record { row = row; at = at }))

  -- word g has no mark in the rows from k on
  rows-rest : k ≤ 25 → length (get_or ls g []) < k → CodesHold ls p (g * 25 + 25) t
  rows-rest few past = record {
    room = h.room;
    held = λ j q y l r s m. held j q y l r s m (ℕ_discrete j g);
    only = λ j q y r s b. let (l, m) = h.only j q y r s b in (omega arith, m);
    opens = h.opens;
  }
    where
      held : (j q y : ℕ) → j * 25 + q < g * 25 + 25 → q < 25 → y < 32 → CodeMarked (get_or ls j []) q y → Dec (j ≡ g) → HasCode t j q y
      held j q y l r s m (no d) = h.held j q y (omega arith) r s m
      held j q y l r s m (yes e) =
          let c : q ≤ length (get_or ls g []) = rw e at m.row in
          h.held j q y (omega arith) r s m

-- the marks of word g, which is unpacked from blocks: letter after letter, and the one behind the last
module _ {ls : List Word} {p : ℕ} {t : List ℕ} (bs : List ℕ) (n g k : ℕ) (e : get_or ls g [] ≡ unpacked n bs) (short : n ≤ 24)
    (h : CodesHold ls p (g * 25 + k) t) where
  size : length (get_or ls g []) ≡ n
  size = ap length e ∙ unpacked-length n bs

  pub code_marked : {x : ℕ} → k < n → x ≡ letter_of bs k → x < 32 → CodesHold ls p (g * 25 + (k + 1)) (with_mark t (k * 32 + x) g)
  code_marked {x} l c low =
      row_next ls p g k t h (omega arith) (let s = size in omega arith) x low (ap (λ (b : Word). get_or b k 0) e ∙ unpacked_at n bs k l ∙ sym c)

  pub code-ended : k ≡ n → CodesHold ls p (g * 25 + 25) (with_mark t (k * 32) g)
  code-ended l =
      let s = size in
      let o : length (get_or ls g []) ≤ k = omega arith in
      let z : k * 32 + 0 ≡ k * 32 = add-zero (k * 32) in
      let m = row_next ls p g k t h (omega arith) (omega arith) 0 (omega arith) (get_or-eq_default (get_or ls g []) 0 o) in
      rows-rest ls p g (k + 1) (with_mark t (k * 32) g) (rw z at m) (omega arith) (omega arith)

-- the pairs of one word more
pub pairs_more : {ls : List Word} {b : Word} {t u : List ℕ} (g s : ℕ) → get_or ls g [] ≡ b → PairsDone b t u → CodesHold ls g s t → CodesHold ls (g + 1) s u
pairs_more {ls} {b} {t} {u} g s f d h = record {
  room = d.room ∙ h.room;
  held = λ j k x l q r m. let a = d.rows (k * 32 + x) (omega arith) in rw a (h.held j k x l q r m);
  only = λ j k x q r m. let a = d.rows (k * 32 + x) (omega arith) in h.only j k x q r (rw a at m);
  opens = λ j c e l q r o. opens j c e l q r o (ℕ_discrete j g);
}
  where
    opens : (j c e : ℕ) → j < g + 1 → c < 32 → e < 32 → Opens (get_or ls j []) c e → Dec (j ≡ g) → HasPair u c e
    opens j c e l q r o (yes z) = d.opens c e q r (rw (z, f) at o)
    opens j c e l q r o (no z) = d.kept c e q r (h.opens j c e (omega arith) q r o)

-- all rows and pairs of all words are done
pub codes-done : {ls : List Word} {t : List ℕ} (n : ℕ) → n ≡ length ls → CodeIndexable ls → CodesHold ls n (n * 25) t → CodeIndexed ls t
codes-done n e i h = record {
  words = i;
  room = h.room;
  held = λ g k x p q r m. h.held g k x (omega arith) q r m;
  only = λ g k x q r b. let (p, m) = h.only g k x q r b in (omega arith, m);
  opens = λ g c d p q r o. h.opens g c d (omega arith) q r o;
}
