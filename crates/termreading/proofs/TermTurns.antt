-- Block 2, turn by turn: one law for each way through a turn of its loop.
use mathlib.Core.Path.{◌≡◌}
use mathlib.Core.Bool.{true, false}
use mathlib.Core.List.{List, [], ◌∷◌, ◌++◌}
use Prim.Native.Nat.{ℕ, suc, ◌+◌, ◌-◌, ◌≤◌, ◌<◌}
use native.Mathlib.Numerals.{add-one}
use native.Mathlib.Omega.{arith}
use lib.ListN.{length, drop, set}
use Rattle.package.proofs.TermSlices.{kept-length, kept_store}
use Rattle.package.specs.Answer.{refused}
use Rattle.package.specs.Held.{above_of, held_terms}
use Rattle.package.specs.Names.{sum_names}
use Rattle.package.specs.Terms.{TermLine, LineAbove, counted, refused_by, accept, judge_term, terms_read, block2}
use Rattle.package.specs.declared.Head.{Head}
use Rattle.package.specs.declared.Last.{Last}
use Rattle.package.specs.declared.Limits.{Limits}
use Rattle.text.proofs.Cutting.{cut-more, cut-end}
use Rattle.lists.specs.Same.{same}
use Rattle.text.specs.Pieces.{lines, stop, part}

module _ (h : Head) (lim : Limits) (a : LineAbove) (ts : List TermLine) (n : ℕ) (s : List ℕ) (at e : ℕ) (q : e ≡ at + stop 10 (drop at s)) where
  pub turn_missing : length s ≤ e → refused 2 n ≡ block2 h lim a ts n (lines (drop at s))
  unfolding block2
  turn_missing z = rw (cut-end 10 s at e q z)

  module _ (z : e < length s) where
    pub turn_names : same (part s at (e - at)) sum_names ≡ true → terms_read h ts (suc n) (lines (drop (e + 1) s)) ≡ block2 h lim a ts n (lines (drop at s))
    unfolding block2
    turn_names m = rw (cut-more 10 s at e q z, block2, m)

    module _ (m : same (part s at (e - at)) sum_names ≡ false) where
      pub turn-refused : (r : ℕ) → judge_term h lim a (length ts) (part s at (e - at)) ≡ refused_by r → refused r n ≡ block2 h lim a ts n (lines (drop at s))
      unfolding block2
      turn-refused r j = rw (cut-more 10 s at e q z, block2, m, j)

      pub turn-accepted : (k i c : ℕ) (w : List ℕ) → judge_term h lim a (length ts) (part s at (e - at)) ≡ accept k i c w
          → block2 h lim (record { kind = k; item = i; word = w; count = counted a k i })
          (ts ++ (record { kind = k; item = i; coef = c; word = w } ∷ [])) (suc n) (lines (drop (e + 1) s))
          ≡ block2 h lim a ts n (lines (drop at s))
      unfolding block2
      turn-accepted k i c w j = rw (cut-more 10 s at e q z, block2, m, j)

-- A turn that stores a term: the arrays after it are ks', .., the line's end is e.
module _ (h : Head) (lim : Limits) (s : List ℕ) (last : Last) (ks is cs os ls : List ℕ) (n line at e : ℕ) (k i c o l : ℕ) (ks' is' cs' os' ls' : List ℕ)
    (a : ks' ≡ set ks n k) (b : is' ≡ set is n i) (d : cs' ≡ set cs n c) (f : os' ≡ set os n o) (g : ls' ≡ set ls n l)
    (x : length ks ≡ 1024) (y : length is ≡ 1024) (z : length cs ≡ 1024) (u : length os ≡ 1024) (v : length ls ≡ 1024) (fits : n < 1024) where
  stored : held_terms s ks' is' cs' os' ls' (n + 1) ≡ held_terms s ks is cs os ls n ++ (record { kind = k; item = i; coef = c; word = part s o l } ∷ [])
  stored = rw (a, b, d, f, g, add-one n) (kept_store s ks is cs os ls n k i c o l (omega arith) (omega arith) (omega arith) (omega arith) (omega arith))

  pub turn_again : e ≡ at + stop 10 (drop at s) → e < length s → same (part s at (e - at)) sum_names ≡ false → judge_term h lim (above_of s last) n
      (part s at (e - at)) ≡ accept k i c (part s o l)
      → (m : ℕ) → m ≡ counted (above_of s last) k i
      → block2 h lim (record { kind = k; item = i; word = part s o l; count = m }) (held_terms s ks' is' cs' os' ls' (n + 1)) (line + 1)
      (lines (drop (e + 1) s)) ≡ block2 h lim (above_of s last) (held_terms s ks is cs os ls n) line (lines (drop at s))
  turn_again q w t j m r =
      let j' : judge_term h lim (above_of s last) (length (held_terms s ks is cs os ls n)) (part s at (e - at)) ≡ accept k i c (part s o l) = rw
      (kept-length s ks is cs os ls n) j in
      rw (stored, add-one line, r) (turn-accepted h lim (above_of s last) (held_terms s ks is cs os ls n) line s at e q w t k i c (part s o l) j')
