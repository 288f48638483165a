-- Five arguments or multiples, each of which is small.
use mathlib.Core.List.{[], ◌∷◌}
use Prim.Native.Nat.{◌≤◌, suc, zero, zero-le, ℕ}
use lib.IntN.{nat_abs, ℤ}
use Rattle.sum_rules.specs.Table.{column}

pub five : (m : ℕ) (a b c d e : ℤ) → nat_abs a ≤ m → nat_abs b ≤ m → nat_abs c ≤ m → nat_abs d ≤ m → nat_abs e ≤ m
    → (i : ℕ) → nat_abs (column (a ∷ b ∷ c ∷ d ∷ e ∷ []) i) ≤ m
five m a b c d e h₀ h₁ h₂ h₃ h₄ zero = h₀
five m a b c d e h₀ h₁ h₂ h₃ h₄ (suc zero) = h₁
five m a b c d e h₀ h₁ h₂ h₃ h₄ (suc (suc zero)) = h₂
five m a b c d e h₀ h₁ h₂ h₃ h₄ (suc (suc (suc zero))) = h₃
five m a b c d e h₀ h₁ h₂ h₃ h₄ (suc (suc (suc (suc zero)))) = h₄
five m a b c d e h₀ h₁ h₂ h₃ h₄ (suc (suc (suc (suc (suc i))))) = zero-le
