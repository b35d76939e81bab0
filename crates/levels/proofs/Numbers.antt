-- Numbers of a branch: a section's own, and the intervals of its halves, which are apart and fit a byte. Assumes
-- nothing.
use Prim.Native.Nat.{ℕ, zero, suc, ◌+◌, ◌-◌, ◌/◌, ◌^◌, ◌≤◌, ◌<◌}
use mathlib.Core.Path.{◌≡◌, ap}
use mathlib.Core.Logic.{inl, inr}
use mathlib.Core.Bool.{Bool}
use native.Mathlib.Nat.{pow-suc, suc-add}
use native.Mathlib.Numerals.{add-one}
use native.Mathlib.Omega.{arith}
use lib.Pow.{pow_pos}
use Rattle.planes.proofs.Tests.{decide}
use Rattle.painting.specs.declared.Next.{Next}
use Rattle.levels.specs.Levels.{NextIs, Numbered, Away}
use Rattle.levels.proofs.Widths.{low_half, high_half}

-- ## A branch

module _ {last a b d code span : ℕ} (N : Numbered last a b d code span) where
  pub numbered_order : a ≤ b
  numbered_order = omega (arith, N.wide.width, pow_pos (d + N.k))

  pub numbered_some : 1 ≤ span
  numbered_some = omega (arith, N.spans, ap (2 ^◌) (add-one d), pow-suc 2 d, pow_pos d)

pub numbered_many : {last a b code span : ℕ} (d : ℕ) → Numbered last a b d code span → 0 < d → 3 ≤ span
numbered_many zero N h = absurd (omega arith)
numbered_many (suc d) N h =
    omega (arith, N.spans, ap (2 ^◌) (add-one (suc d)), pow-suc 2 (suc d), pow-suc 2 d, pow_pos d)

-- level 0 has the number 1
pub root_numbered : {last span : ℕ} → last ≤ 7 → span + 1 ≡ 2 ^ (last + 1) → span ≤ 255
    → Numbered last 0 255 last 1 span
root_numbered {last} h e g = let s : last + (8 - last) ≡ 8 = omega arith in record {
  k = 8 - last;
  wide = record { width = omega (arith, ap (2 ^◌) s); few = omega arith; lowest = s };
  spans = e;
  real = omega arith;
  fits = omega arith;
}

-- ## A section with halves

module _ {last a b d code span : ℕ} (N : Numbered last a b (suc d) code span) where
  half-spans : (span - 1) / 2 + 1 ≡ 2 ^ (d + 1)
  half-spans = omega (arith, N.spans, ap (2 ^◌) (suc-add d 1), pow-suc 2 (d + 1), pow_pos (d + 1))

  pub twice : span ≡ 1 + (span - 1) / 2 + (span - 1) / 2
  twice = omega (arith, N.spans, ap (2 ^◌) (suc-add d 1), pow-suc 2 (d + 1), pow_pos (d + 1))

  pub half_some : 1 ≤ (span - 1) / 2
  half_some = omega (arith, half-spans, ap (2 ^◌) (add-one d), pow-suc 2 d, pow_pos d)

  pub halves_order : a < b
  halves_order =
      omega (arith, N.wide.width, ap (2 ^◌) (suc-add d N.k), pow-suc 2 (d + N.k), pow_pos (d + N.k))

  pub halves_room : code + 1 + (span - 1) / 2 < 256
  halves_room = omega (arith, N.fits, twice, half_some)

  pub low_numbered : Numbered last a ((a + b) / 2) d (code + 1) ((span - 1) / 2)
  low_numbered = record {
    k = N.k;
    wide = low_half N.wide;
    spans = half-spans;
    real = omega arith;
    fits = omega (arith, N.fits, twice);
  }

  pub high_numbered : Numbered last ((a + b) / 2 + 1) b d (code + 1 + (span - 1) / 2) ((span - 1) / 2)
  high_numbered = record {
    k = N.k;
    wide = high_half N.wide;
    spans = half-spans;
    real = omega arith;
    fits = omega (arith, N.fits, twice);
  }

  -- what is away from a branch is away from those of its halves
  pub low_away : (x : ℕ) → Away code span x → Away (code + 1) ((span - 1) / 2) x
  low_away x (inl i) = inl (omega arith)
  low_away x (inr i) = inr (omega (arith, twice))

  pub high_away : (x : ℕ) → Away code span x → Away (code + 1 + (span - 1) / 2) ((span - 1) / 2) x
  high_away x (inl i) = inl (omega arith)
  high_away x (inr i) = inr (omega (arith, twice))

-- ## Next marks

-- they are not the section's own number
pub next_not : {more : Bool} {mid code span : ℕ} {u : Next} → NextIs more mid code span u → 1 ≤ code
    → (u.low ≡ code → ⊥) × (u.high ≡ code → ⊥)
next_not {more} {code = code} {u = u} N h = elim (decide more) [
  | inl e ↦ let q = N.halves e in ((λ z. absurd (omega (arith, q.0, z))), (λ z. absurd (omega (arith, q.1, z))))
  | inr e ↦ let q = N.none e in ((λ z. absurd (omega (arith, q.0, z))), (λ z. absurd (omega (arith, q.1, z))))
]
