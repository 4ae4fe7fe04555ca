-- The package that `read_package` answers lies in the slices, with its sum lines behind.
use mathlib.Core.Path.{◌≡◌, refl, sym, ap}
use mathlib.Core.List.{List}
use Prim.Native.Nat.{ℕ, ◌+◌, ◌≤◌, ◌<◌}
use native.Mathlib.Omega.{arith}
use lib.ListN.{length}
use Rattle.working.specs.Family.{family_at}
use Rattle.package.specs.declared.Head.{Head}
use Rattle.std.specs.Prelude.{Result, Ok}
use Rattle.package.specs.declared.PackageAt.{PackageAt}
use Rattle.package.specs.declared.Refusal.{Refusal}
use Rattle.package.specs.Held.{held_terms, seen_all, count_all, gens_all, basis_all, spot_all, line_all, LineHeld, FirstsHeld, WordsInside, StartsMarked}
use Rattle.package.specs.Package.{Package, refused, read, read_package, package_limits, first_sum}
use Rattle.package.specs.Readable.{SumsInOrder}
use Rattle.package.proofs.PackageTexts.{reads-written}
use Rattle.package.proofs.ReadingFacts.{whole_package, whole-readable}
use Rattle.package.proofs.TermSlices.{kept-length}
use Rattle.acceptance.specs.Content.{relations, basis}
use Rattle.acceptance.specs.Check.{checked}
use Rattle.acceptance.specs.Acceptance.{judged_by, acceptance}
use Rattle.acceptance.proofs.SlicesContent.{relations-held, basis-held}
use Rattle.sumlines.specs.Lines.{sums_at}
use Rattle.sumorder.specs.Reached.{SumsStart}
use Rattle.tabulating.specs.Lies.{Lies}
use Rattle.tablelies.proofs.ReadPackage.{read_lies}

-- The bytes are read as a package, which lies in the slices: m terms, and its sum lines from the place at on.
pub record PackageRead (bytes coefs starts lens firsts : List ℕ) (h : Head) (m at line : ℕ) : Type 0 where
  pub whole : Package
  pub reads : read_package bytes ≡ read whole
  pub head : whole.head ≡ h
  pub lies : Lies h coefs starts lens bytes firsts m
  pub begins : SumsStart h bytes at line
  pub relations : family_at coefs starts lens bytes firsts 1 h.gens ≡ relations whole
  pub basis : family_at coefs starts lens bytes firsts (h.gens + 1) h.basis ≡ basis whole
  pub sums : sums_at bytes at line ≡ whole.sums

-- What the reader's contract says is all of that.
module _ (s ks is cs os ls fs : List ℕ) (h : Head) (m at n : ℕ) (e : seen_all s ks is cs os ls (Ok (record { head = h; terms = m; at = at; line = n })) ≡ read_package s)
    (marked : StartsMarked h ks is m fs) (few : m ≤ 1024) (inside : WordsInside s os ls m)
    (lc : m ≤ length cs) (lo : m ≤ length os) (ll : m ≤ length ls) (lf : h.gens + h.basis + 1 < length fs)
    (low : at ≤ length s) (small : n ≤ at + 4) (first : n ≡ first_sum m) where
  abbrev P : Package
  P = whole_package s ks is cs os ls h m at n

  reads : read_package s ≡ read P
  unfolding seen_all
  reads = sym e

  sums-start : SumsStart h s at n
  sums-start =
      let z : first_sum (length (held_terms s ks is cs os ls m)) ≡ n = omega (arith, kept-length s ks is cs os ls m) in
      let o : SumsInOrder h package_limits 0 0 (first_sum (length (held_terms s ks is cs os ls m))) (sums_at s at n) =
      (whole-readable s ks is cs os ls h m at n e).sums in
      record { size = (reads-written P s reads).2; low = low; small = small; some = omega arith; order = rw z at o }

  pub package_read_lem : PackageRead s cs os ls fs h m at n
  package_read_lem = record {
    whole = P;
    reads = reads;
    head = refl;
    lies = read_lies s ks is cs os ls fs h m at n e marked few inside lc lo ll lf;
    begins = sums-start;
    relations = relations-held s ks is cs os ls fs h m at n e marked inside lc lo ll lf;
    basis = basis-held s ks is cs os ls fs h m at n e marked inside lc lo ll lf;
    sums = refl;
  }

-- The same from the reader's answer r, as its contract tells.
pub answered : (s ks is cs os ls fs : List ℕ) (h : Head) (m at n : ℕ) (r : Result PackageAt Refusal) → r ≡ Ok (record { head = h; terms = m; at = at; line = n }) → seen_all s ks is cs os ls r ≡ read_package s
    → (count_all r ≤ 1024) × WordsInside s os ls (count_all r) → (gens_all r ≤ 32) × (basis_all r ≤ 64)
    → (spot_all r ≤ length s) × (line_all r ≤ spot_all r + 4) × LineHeld r → FirstsHeld ks is fs r
    → length cs ≡ 1024 → length os ≡ 1024 → length ls ≡ 1024 → length fs ≡ 98 → PackageRead s cs os ls fs h m at n
unfolding count_all gens_all basis_all spot_all line_all LineHeld FirstsHeld
answered s ks is cs os ls fs h m at n r q e inside few spot marked lc lo ll lf =
    let e₁ = rw q at e in
    let (most, words) : (m ≤ 1024) × WordsInside s os ls m = rw q at inside in
    let (gens, basis) : (h.gens ≤ 32) × (h.basis ≤ 64) = rw q at few in
    let (low, small, first) : (at ≤ length s) × (n ≤ at + 4) × (n ≡ first_sum m) = rw q at spot in
    let starts : StartsMarked h ks is m fs = rw q at marked in
    package_read_lem s ks is cs os ls fs h m at n e₁ starts most words (omega arith) (omega arith) (omega arith) (omega arith) low small first

-- A package that does not read is refused.
pub unread_refused : (bytes : List ℕ) (n k : ℕ) → refused n k ≡ read_package bytes → acceptance bytes ≡ refused n k
unfolding acceptance judged_by
unread_refused bytes n k e = ap (judged_by checked) (sym e)
