-- The package that `read_package` answers lies in the slices as a table is filled from them.
use mathlib.Core.Path.{◌≡◌}
use mathlib.Core.List.{List, [], ◌∷◌}
use Prim.Native.Nat.{ℕ, ◌+◌, ◌≤◌, ◌<◌}
use native.Mathlib.Omega.{arith}
use lib.ListN.{length}
use Rattle.lists.specs.All.{All, done, ◌also◌}
use Rattle.lists.proofs.Every.{all_at}
use Rattle.words.specs.Word.{Letter}
use Rattle.package.specs.declared.Head.{Head}
use Rattle.package.specs.declared.Limits.{Limits}
use Rattle.std.specs.Prelude.{Ok}
use Rattle.package.specs.Held.{held_term, held_terms, seen_all, WordsInside, StartsMarked}
use Rattle.package.specs.Package.{Package, read_package, package_limits}
use Rattle.package.specs.Readable.{Readable, TermsInOrder, no_terms, term_then, under}
use Rattle.package.specs.Terms.{TermLine, LineAbove}
use Rattle.package.proofs.LineBounds.{HeadBounds}
use Rattle.package.proofs.ReadingFacts.{kept_at, whole_package, whole-readable, whole-bounds}
use Rattle.package.proofs.TermSlices.{kept-length}
use Rattle.acceptance.proofs.LineFacts.{term-bounds}
use Rattle.acceptance.proofs.ReadableContent.{readable-field, relations-written, basis-written}
use Rattle.acceptance.proofs.SlicesContent.{slices_terms, relations-run, basis-run, relations-held, basis-held}
use Rattle.tabulating.specs.Lies.{Lettered, Lies}
use Rattle.tablelies.proofs.Letters.{letters_wider}

-- The words of terms in order are in the letters in use.
terms-letters : (h : Head) (m : Limits) {a : LineAbove} {n : ℕ} (ts : List TermLine) → TermsInOrder h m a n ts
    → All (λ t. All (Letter h.letters) t.word) ts
terms-letters h m [] no_terms = done
terms-letters h m {a = a} (t ∷ ts) (term_then o os) =
    (term-bounds h m t.kind t.item t.coef t.word o.fits).letters also terms-letters h m {a = under a t} ts os

module _ (s ks is cs os ls fs : List ℕ) (h : Head) (m at n : ℕ) (e : seen_all s ks is cs os ls (Ok (record { head = h; terms = m; at = at; line = n })) ≡ read_package s)
    (marked : StartsMarked h ks is m fs) (few : m ≤ 1024) (inside : WordsInside s os ls m)
    (lc : m ≤ length cs) (lo : m ≤ length os) (ll : m ≤ length ls) (lf : h.gens + h.basis + 1 < length fs) where
  abbrev P : Package
  P = whole_package s ks is cs os ls h m at n

  readable : Readable P
  readable = whole-readable s ks is cs os ls h m at n e

  bounds : HeadBounds h
  bounds = whole-bounds s ks is cs os ls h m at n e

  -- Its words are words of letters.
  read_lettered : Lettered os ls s m
  read_lettered i l =
      let k = kept-length s ks is cs os ls m in
      let d = held_term s ks is cs os ls 0 in
      let b = all_at (terms-letters h package_limits (held_terms s ks is cs os ls m) readable.terms) d i (omega arith) in
      letters_wider bounds.letters (rw (kept_at s ks is cs os ls d m i l) at b)

  -- From what the reader's contract says, all that `tabulate` asks.
  pub read_lies : Lies h cs os ls s fs m
  read_lies =
      let x = relations-held s ks is cs os ls fs h m at n e marked inside lc lo ll lf in
      let y = basis-held s ks is cs os ls fs h m at n e marked inside lc lo ll lf in
      record {
        prime = bounds.most;
        field = readable-field P readable;
        alphabet = bounds.letters;
        gens = bounds.gens;
        basis = bounds.basis;
        count = few;
        terms = slices_terms s ks is cs os ls fs h m at n e marked inside lc lo ll lf;
        letters = read_lettered;
        relation_runs = relations-run s ks is cs os ls fs h m at n e marked inside lc lo ll lf;
        basis-runs = basis-run s ks is cs os ls fs h m at n e marked inside lc lo ll lf;
        relations-written = rw x (relations-written P readable);
        basis-written = rw y (basis-written P readable);
      }
