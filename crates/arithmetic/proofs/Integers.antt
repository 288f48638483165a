-- ℤ as a commutative ring, and the solver at ℤ.
use mathlib.Core.List.{List}
use mathlib.Core.Path.{◌≡◌, refl}
use native.Mathlib.Omega.{arith}
use lib.Dec.{T}
use lib.IntN.{*ℤ_comm, *ℤ-one, +ℤ_assoc, +ℤ_comm, +ℤ_idr, +ℤ_invr, ◌*ℤ◌, ◌+ℤ◌, neg_ℤ, one, pos, ℤ}
use Rattle.arithmetic.proofs.Difference.{◌⊞◌, ◌⊠◌, by_eq, ⟨◌⟩}
use Rattle.arithmetic.proofs.Solver.{CRing, Expr, ◌:*◌, ◌:-◌, is_zero, lin, norm, solve, ⟦◌⟧}

pub *ℤ_assoc : (a b c : ℤ) → (a *ℤ b) *ℤ c ≡ a *ℤ (b *ℤ c)
*ℤ_assoc a b c = by_eq (⟨ a ⟩ ⊠ ⟨ b ⟩ ⊠ ⟨ c ⟩) (⟨ a ⟩ ⊠ (⟨ b ⟩ ⊠ ⟨ c ⟩)) (omega arith)

pub *ℤ_distr : (a b c : ℤ) → a *ℤ (b +ℤ c) ≡ a *ℤ b +ℤ a *ℤ c
*ℤ_distr a b c = by_eq (⟨ a ⟩ ⊠ (⟨ b ⟩ ⊞ ⟨ c ⟩)) (⟨ a ⟩ ⊠ ⟨ b ⟩ ⊞ ⟨ a ⟩ ⊠ ⟨ c ⟩) (omega arith)

pub *ℤ_unit : (a : ℤ) → a *ℤ pos 1 ≡ a
unfolding one
*ℤ_unit a = *ℤ-one a

abbrev pub ℤ_ring : CRing
ℤ_ring =
    record {
      C = ℤ;
      add = ◌+ℤ◌;
      mul = ◌*ℤ◌;
      neg = neg_ℤ;
      ι = λ a. a;
      add_assoc = +ℤ_assoc;
      add_comm = +ℤ_comm;
      add_zero = +ℤ_idr;
      add_neg = +ℤ_invr;
      mul_assoc = *ℤ_assoc;
      mul_comm = *ℤ_comm;
      mul_one = *ℤ_unit;
      mul_add = *ℤ_distr;
      ι_add = λ a b. refl;
      ι_mul = λ a b. refl;
    }

pub solveℤ : (e f : Expr) (ρ : List ℤ) → T (is_zero (norm (e :- f))) → ⟦ ℤ_ring ⟧ e ρ ≡ ⟦ ℤ_ring ⟧ f ρ
solveℤ e f ρ t = solve ℤ_ring e f ρ t

pub linℤ : (e f c u v : Expr) (ρ : List ℤ) → T (is_zero (norm ((e :- f) :- c :* (u :- v))))
    → ⟦ ℤ_ring ⟧ u ρ ≡ ⟦ ℤ_ring ⟧ v ρ → ⟦ ℤ_ring ⟧ e ρ ≡ ⟦ ℤ_ring ⟧ f ρ
linℤ e f c u v ρ t h = lin ℤ_ring e f c u v ρ t h
